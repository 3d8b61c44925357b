-- What a word says depends on its fields alone: present, the bits from 7 up, and the rights.
use Rattle.std.proofs.Common.{◌≡◌, ℕ, zero, suc, ◌*◌, ◌/◌, ◌%◌, ◌^◌, ◌<◌, ◌≤◌, Bool, true, false, cond, ◌&&◌, leb, sym, ap, ◌∙◌, arith, eq-eqb, le-leb}
use native.Mathlib.Nat.{div-div-eq-div-mul}
use Rattle.entry.specs.Entry.{size_of, bit, rights_of, frame_of, table_of, padded, large_of, present_of, says}
use Rattle.entry.specs.declared.Rights.{Rights}
use Rattle.entry.specs.declared.Entry.TheVariants.{Nothing, Page, Table}
use Rattle.entry.proofs.Levels.{bit_on, bit_off, present_above}

-- a word that is not present says nothing, whatever its other bits are
pub says_absent : (n w : ℕ) → w % 2 ≡ 0 → says n w ≡ Nothing
unfolding says
says_absent n w h = simp (bit_off 0 w (omega arith))

-- at the last table a present word is a page
pub says_last : (w : ℕ) → w % 2 ≡ 1 → says 0 w ≡ Page (frame_of 0 w) (rights_of w)
unfolding says present_of
says_last w h = simp (bit_on 0 w (omega arith))

-- above it one with bit 7 clear names a table
pub says_table : (n w : ℕ) → (n ≡ 0 → ⊥) → w % 2 ≡ 1 → w / 128 % 2 ≡ 0 → says n w ≡ Table (table_of w) (rights_of w)
unfolding says
says_table n w p h e = simp (bit_on 0 w (omega arith), present_above n w p, bit_off 7 w e)

-- and one with bit 7 set and its padding clear is a page, at levels 1 and 2
pub says_large : (n w : ℕ) → (n ≡ 0 → ⊥) → n ≤ 2 → w % 2 ≡ 1 → w / 128 % 2 ≡ 1 → w / 8192 % (size_of n / 8192) ≡ 0
    → says n w ≡ Page (frame_of n w) (rights_of w)
unfolding says large_of padded
says_large n w p u h e z =
    simp (bit_on 0 w (omega arith), present_above n w p, bit_on 7 w (omega arith), le-leb n 2 u, eq-eqb (w / 8192 % (size_of n / 8192)) 0 z)

-- no entry of the last table names a table
pub last_no_table : (w t : ℕ) (g : Rights) → says 0 w ≡ Table t g → ⊥
unfolding says present_of
last_no_table w t g = go (bit 0 w)
  where
    go : (b : Bool) → cond b (Page (frame_of 0 w) (rights_of w)) Nothing ≡ Table t g → ⊥
    go true e = let z : ◌≡◌ {A = ℕ} 0 1 = cc in omega arith
    go false e = let z : ◌≡◌ {A = ℕ} 0 1 = cc in omega arith

-- the number of a table is a page's number
pub table_lt : (w : ℕ) → table_of w < 2 ^ 40
unfolding table_of
table_lt w = omega arith

-- so is that of the table that an entry names
pub table_small : (n x t : ℕ) (g : Rights) → says n x ≡ Table t g → t < 2 ^ 40
unfolding says present_of large_of
table_small zero x t g e = absurd (last_no_table x t g e)
table_small (suc n) x t g e = go (bit 0 x) (bit 7 x) (leb (suc n) 2 && padded (suc n) x) e
  where
    go : (a b c : Bool)
        → cond a (cond b (cond c (Page (frame_of (suc n) x) (rights_of x)) Nothing) (Table (table_of x) (rights_of x))) Nothing ≡ Table t g
        → t < 2 ^ 40
    go false b c k = let z : ◌≡◌ {A = ℕ} 0 1 = cc in absurd (omega arith)
    go true true true k = let z : ◌≡◌ {A = ℕ} 0 1 = cc in absurd (omega arith)
    go true true false k = let z : ◌≡◌ {A = ℕ} 0 1 = cc in absurd (omega arith)
    go true false c k = let same : table_of x ≡ t = cc in rw (← same) (table_lt x)

-- Two words of the same fields ----------------------------------------------------------------------------------------------

-- w and v agree in all that a walk can tell: present, the bits from 7 up, and bits 1 and 2
pub record WordsAlike (v w : ℕ) : Type 0 where
  pub present : v % 2 ≡ w % 2
  pub rights : v / 2 % 4 ≡ w / 2 % 4
  pub high : v / 128 ≡ w / 128

-- a field above bit 7
above : (v w k : ℕ) → WordsAlike v w → v / (128 * k) ≡ w / (128 * k)
above v w k h = sym (div-div-eq-div-mul v 128 k) ∙ ap (λ x. x / k) h.high ∙ div-div-eq-div-mul w 128 k

-- a size is 128 times something
size_128 : (n : ℕ) → size_of n ≡ 128 * (32 * 512 ^ n)
unfolding size_of
size_128 n = omega arith

alike_frame : (n v w : ℕ) → WordsAlike v w → frame_of n v ≡ frame_of n w
unfolding frame_of
alike_frame n v w h = ap (λ x. x % (2 ^ 52 / size_of n) * size_of n) (rw size_128 (above v w (32 * 512 ^ n) h))

alike_rights : (v w : ℕ) → WordsAlike v w → rights_of v ≡ rights_of w
unfolding rights_of bit
alike_rights v w h =
    let a : v / 2 % 2 ≡ w / 2 % 2 = omega (arith, h.rights) in
    let b : v / 4 % 2 ≡ w / 4 % 2 = omega (arith, h.rights) in
    let c : v / 2 ^ 63 ≡ w / 2 ^ 63 = above v w (2 ^ 56) h in
    rw (a, b, c)

alike_large : (n v w : ℕ) → WordsAlike v w → large_of n v ≡ large_of n w
unfolding large_of padded
alike_large n v w h = let a : v / 8192 ≡ w / 8192 = above v w 64 h in rw (a, alike_frame n v w h, alike_rights v w h)

alike_present : (n v w : ℕ) → WordsAlike v w → present_of n v ≡ present_of n w
unfolding present_of bit table_of
alike_present zero v w h = rw (alike_frame 0 v w h, alike_rights v w h)
alike_present (suc n) v w h = let a : v / 4096 ≡ w / 4096 = above v w 32 h in rw (h.high, a, alike_large (suc n) v w h, alike_rights v w h)

-- THEY SAY THE SAME, at every level
pub alike_says : (n v w : ℕ) → WordsAlike v w → says n v ≡ says n w
unfolding says bit
alike_says n v w h = let a : v / 1 % 2 ≡ w / 1 % 2 = omega (arith, h.present) in rw (a, alike_present n v w h)
