-- What a word's bits are, by what it says.
use Rattle.std.proofs.Common.{◌≡◌, ℕ, zero, suc, ◌/◌, ◌%◌, ◌^◌, ◌≤◌, Bool, true, false, cond, ◌&&◌, leb, ◌≢◌, refl, arith, eqb-true, leb-true}
use borrow.Author.Tests.{eqb-false}
use Rattle.entry.specs.Entry.{size_of, bit, rights_of, frame_of, table_of, padded, large_of, present_of, says}
use Rattle.entry.specs.declared.Rights.{Rights}
use Rattle.entry.specs.declared.Entry.TheVariants.{Nothing, Page, Table}
use Rattle.entry.proofs.Fields.{last_no_table}

-- a bit as a number
pub bit_one : (k w : ℕ) → bit k w ≡ true → w / 2 ^ k % 2 ≡ 1
unfolding bit
bit_one k w e = eqb-true (w / 2 ^ k % 2) 1 e

pub bit_zero : (k w : ℕ) → bit k w ≡ false → w / 2 ^ k % 2 ≡ 0
unfolding bit
bit_zero k w e = let n = eqb-false (w / 2 ^ k % 2) 1 e in omega (arith, n)

-- a page above the last level
pub record Large (n w : ℕ) : Type 0 where
  pub level : n ≤ 2
  pub seven : w / 128 % 2 ≡ 1
  pub padding : w / 8192 % (size_of n / 8192) ≡ 0

pub page_large : (n w f : ℕ) (g : Rights) → n ≢ 0 → says n w ≡ Page f g → Large n w
unfolding says present_of large_of padded
page_large zero w f g z e = absurd (z refl)
page_large (suc n) w f g z e = go (bit 0 w) (bit 7 w) (leb (suc n) 2) (padded (suc n) w) refl refl refl e
  where
    go : (a b c d : Bool) → bit 7 w ≡ b → leb (suc n) 2 ≡ c → padded (suc n) w ≡ d
        → cond a (cond b (cond (c && d) (Page (frame_of (suc n) w) (rights_of w)) Nothing) (Table (table_of w) (rights_of w))) Nothing ≡ Page f g → Large (suc n) w
    go false b c d eb ec ed k = let x : ◌≡◌ {A = ℕ} 0 1 = cc in absurd (omega arith)
    go true false c d eb ec ed k = let x : ◌≡◌ {A = ℕ} 0 1 = cc in absurd (omega arith)
    go true true false d eb ec ed k = let x : ◌≡◌ {A = ℕ} 0 1 = cc in absurd (omega arith)
    go true true true false eb ec ed k = let x : ◌≡◌ {A = ℕ} 0 1 = cc in absurd (omega arith)
    go true true true true eb ec ed k = record { level = leb-true (suc n) 2 ec; seven = bit_one 7 w eb; padding = eqb-true _ 0 ed }

-- there is no page at the root
pub root_no_page : (w f : ℕ) (g : Rights) → says 3 w ≡ Page f g → ⊥
root_no_page w f g e = let k = page_large 3 w f g (λ z. omega arith) e in omega (arith, k.level)

-- a table
pub table_seven : (n w t : ℕ) (g : Rights) → says n w ≡ Table t g → w / 128 % 2 ≡ 0
unfolding says present_of large_of
table_seven zero w t g e = go (bit 0 w) e
  where
    go : (a : Bool) → cond a (Page (frame_of 0 w) (rights_of w)) Nothing ≡ Table t g → w / 128 % 2 ≡ 0
    go true k = let x : ◌≡◌ {A = ℕ} 0 1 = cc in absurd (omega arith)
    go false k = let x : ◌≡◌ {A = ℕ} 0 1 = cc in absurd (omega arith)
table_seven (suc n) w t g e = go (bit 0 w) (bit 7 w) (leb (suc n) 2 && padded (suc n) w) refl e
  where
    go : (a b c : Bool) → bit 7 w ≡ b → cond a (cond b (cond c (Page (frame_of (suc n) w) (rights_of w)) Nothing) (Table (table_of w) (rights_of w))) Nothing ≡ Table t g
        → w / 128 % 2 ≡ 0
    go false b c eb k = let x : ◌≡◌ {A = ℕ} 0 1 = cc in absurd (omega arith)
    go true false c eb k = bit_zero 7 w eb
    go true true true eb k = let x : ◌≡◌ {A = ℕ} 0 1 = cc in absurd (omega arith)
    go true true false eb k = let x : ◌≡◌ {A = ℕ} 0 1 = cc in absurd (omega arith)

-- the frame and the rights that a word says are its own bits
pub page_parts : (n w f : ℕ) (g : Rights) → says n w ≡ Page f g → (f ≡ frame_of n w) × (g ≡ rights_of w)
unfolding says present_of large_of
page_parts zero w f g e = go (bit 0 w) e
  where
    go : (a : Bool) → cond a (Page (frame_of 0 w) (rights_of w)) Nothing ≡ Page f g → (f ≡ frame_of 0 w) × (g ≡ rights_of w)
    go true k = (cc, cc)
    go false k = let x : ◌≡◌ {A = ℕ} 0 1 = cc in absurd (omega arith)
page_parts (suc n) w f g e = go (bit 0 w) (bit 7 w) (leb (suc n) 2 && padded (suc n) w) e
  where
    go : (a b c : Bool) → cond a (cond b (cond c (Page (frame_of (suc n) w) (rights_of w)) Nothing) (Table (table_of w) (rights_of w))) Nothing ≡ Page f g
        → (f ≡ frame_of (suc n) w) × (g ≡ rights_of w)
    go false b c k = let x : ◌≡◌ {A = ℕ} 0 1 = cc in absurd (omega arith)
    go true false c k = let x : ◌≡◌ {A = ℕ} 0 1 = cc in absurd (omega arith)
    go true true true k = (cc, cc)
    go true true false k = let x : ◌≡◌ {A = ℕ} 0 1 = cc in absurd (omega arith)

pub table_parts : (n w t : ℕ) (g : Rights) → says n w ≡ Table t g → (t ≡ table_of w) × (g ≡ rights_of w)
unfolding says present_of large_of
table_parts zero w t g e = absurd (last_no_table w t g e)
table_parts (suc n) w t g e = go (bit 0 w) (bit 7 w) (leb (suc n) 2 && padded (suc n) w) e
  where
    go : (a b c : Bool) → cond a (cond b (cond c (Page (frame_of (suc n) w) (rights_of w)) Nothing) (Table (table_of w) (rights_of w))) Nothing ≡ Table t g
        → (t ≡ table_of w) × (g ≡ rights_of w)
    go false b c k = let x : ◌≡◌ {A = ℕ} 0 1 = cc in absurd (omega arith)
    go true false c k = (cc, cc)
    go true true true k = let x : ◌≡◌ {A = ℕ} 0 1 = cc in absurd (omega arith)
    go true true false k = let x : ◌≡◌ {A = ℕ} 0 1 = cc in absurd (omega arith)
