-- What we write says what we asked.
use Rattle.std.proofs.Common.{◌≡◌, ℕ, zero, suc, ◌+◌, ◌*◌, ◌/◌, ◌%◌, ◌^◌, ◌<◌, ◌≤◌, Bool, true, false, sym, refl, ap, ◌∙◌, subst, mul_comm, arith, ltb-true, eqb-true, leb-true}
use Rattle.word.proofs.Tests.{and_both}
use Rattle.entry.specs.Entry.{size_of, bit, rights_of, frame_of, table_of, says, everything}
use Rattle.entry.specs.Words.{flag, large_flag, fits, page_word, table_word}
use Rattle.entry.specs.declared.Rights.{Rights}
use Rattle.entry.specs.declared.Entry.TheVariants.{Page, Table}
use Rattle.entry.proofs.Levels.{bit_on, bit_off}
use Rattle.entry.proofs.Fields.{says_table, says_last, says_large}

-- the word of a table names it, and grants everything
pub table_word_says : (n p : ℕ) → (n ≡ 0 → ⊥) → p < 2 ^ 40 → says n (table_word p) ≡ Table p everything
unfolding table_word
table_word_says n p h u = says_table n (4096 * p + 7) h (omega arith) (omega arith) ∙ rw (number, rights)
  where
    number : table_of (4096 * p + 7) ≡ p
    number = unfold table_of in omega arith

    rights : rights_of (4096 * p + 7) ≡ everything
    rights = unfold rights_of in rw (bit_on 1 (4096 * p + 7) (omega arith), bit_on 2 (4096 * p + 7) (omega arith), bit_off 63 (4096 * p + 7) (omega arith))

-- The word of a page ----------------------------------------------------------------------------------------------------------

pub flag_lt : (b : Bool) → flag b < 2
unfolding flag
flag_lt true = omega arith
flag_lt false = omega arith

-- a bit that holds a flag
pub bit_flag : (k w : ℕ) (b : Bool) → w / 2 ^ k % 2 ≡ flag b → bit k w ≡ b
unfolding flag
bit_flag k w true e = bit_on k w (omega arith)
bit_flag k w false e = bit_off k w e

-- the fields of a word of level n with these rights (a, b, x) and this frame's number (q)
record Fields (n q a b x w : ℕ) : Type 0 where
  present : w % 2 ≡ 1
  writable : w / 2 % 2 ≡ a
  user : w / 4 % 2 ≡ b
  noexec : w / 2 ^ 63 % 2 ≡ x
  large : (n ≡ 0 → ⊥) → w / 128 % 2 ≡ 1
  padding : (n ≡ 0 → ⊥) → w / 8192 % (size_of n / 8192) ≡ 0
  number : w / size_of n % (2 ^ 52 / size_of n) ≡ q

fields : (n q a b x : ℕ) → n ≤ 2 → q < 2 ^ 52 / size_of n → a < 2 → b < 2 → x < 2
    → Fields n q a b x (1 + 2 * a + 4 * b + large_flag n + size_of n * q + 2 ^ 63 * x)
unfolding size_of large_flag
fields zero q a b x n2 u ua ub ux = record {
  present = omega arith;
  writable = omega arith;
  user = omega arith;
  noexec = omega arith;
  large = λ z. absurd (z refl);
  padding = λ z. absurd (z refl);
  number = omega arith;
}
fields (suc zero) q a b x n2 u ua ub ux = record {
  present = omega arith;
  writable = omega arith;
  user = omega arith;
  noexec = omega arith;
  large = λ z. omega arith;
  padding = λ z. omega arith;
  number = omega arith;
}
fields (suc (suc zero)) q a b x n2 u ua ub ux = record {
  present = omega arith;
  writable = omega arith;
  user = omega arith;
  noexec = omega arith;
  large = λ z. omega arith;
  padding = λ z. omega arith;
  number = omega arith;
}
fields (suc (suc (suc n))) q a b x n2 u ua ub ux = absurd (omega arith)

-- a word of these fields says the page, at its level
fields_say : (n q w : ℕ) (r : Rights) → n ≤ 2 → Fields n q (flag r.writable) (flag r.user) (flag r.noexec) w → says n w ≡ Page (q * size_of n) r
unfolding frame_of
fields_say n q w r u f = go n u f
  where
    rights : rights_of w ≡ r
    rights = unfold rights_of in rw (bit_flag 1 w r.writable f.writable, bit_flag 2 w r.user f.user, bit_flag 63 w r.noexec f.noexec)

    go : (n : ℕ) → n ≤ 2 → Fields n q (flag r.writable) (flag r.user) (flag r.noexec) w → says n w ≡ Page (q * size_of n) r
    go zero u f = says_last w f.present ∙ rw (f.number, rights)
    go (suc n) u f = says_large (suc n) w (λ z. omega arith) u f.present (f.large (λ z. omega arith)) (f.padding (λ z. omega arith)) ∙ rw (f.number, rights)

-- a frame that fits, by its number
pub record FrameFits (n frame : ℕ) : Type 0 where
  pub level : n ≤ 2
  pub aligned : frame % size_of n ≡ 0
  pub below : frame < 2 ^ 52

pub fits_true : (n frame : ℕ) → fits n frame ≡ true → FrameFits n frame
unfolding fits
fits_true n frame h =
    let a = and_both _ _ h in
    let b = and_both _ _ a.1 in
    record { level = leb-true n 2 a.0; aligned = eqb-true _ 0 b.0; below = ltb-true frame (2 ^ 52) b.1 }

frame_number : (n frame : ℕ) → FrameFits n frame → (frame / size_of n < 2 ^ 52 / size_of n) × (frame ≡ size_of n * (frame / size_of n))
unfolding size_of
frame_number zero frame f = (omega (arith, f.below), omega (arith, f.aligned))
frame_number (suc zero) frame f = (omega (arith, f.below), omega (arith, f.aligned))
frame_number (suc (suc zero)) frame f = (omega (arith, f.below), omega (arith, f.aligned))
frame_number (suc (suc (suc n))) frame f = absurd (omega (arith, f.level))

page_bits : (n q a b x : ℕ) → n ≤ 2 → q < 2 ^ 52 / size_of n → a < 2 → b < 2 → x < 2
    → ((1 + 2 * a + 4 * b + large_flag n + size_of n * q + 2 ^ 63 * x) / 8 % 512 ≡ large_flag n / 8) × ((1 + 2 * a + 4 * b + large_flag n + size_of n * q + 2 ^ 63 * x) / 2 ^ 52 % 2 ^ 11 ≡ 0)
unfolding size_of large_flag
page_bits zero q a b x n2 u ua ub ux = (omega arith, omega arith)
page_bits (suc zero) q a b x n2 u ua ub ux = (omega arith, omega arith)
page_bits (suc (suc zero)) q a b x n2 u ua ub ux = (omega arith, omega arith)
page_bits (suc (suc (suc n))) q a b x n2 u ua ub ux = absurd (omega arith)

page_number_says : (n q : ℕ) (r : Rights) → n ≤ 2 → q < 2 ^ 52 / size_of n → says n (page_word n (size_of n * q) r) ≡ Page (size_of n * q) r
unfolding page_word
page_number_says n q r u k =
    fields_say n q _ r u (fields n q _ _ _ u k (flag_lt r.writable) (flag_lt r.user) (flag_lt r.noexec))
    ∙ ap (λ x. Page x r) (mul_comm q (size_of n))

-- THE WORD OF A PAGE says the page: its frame, its rights, its level
pub page_word_says : (n frame : ℕ) (r : Rights) → FrameFits n frame → says n (page_word n frame r) ≡ Page frame r
page_word_says n frame r f =
    let k = frame_number n frame f in
    subst (λ x. says n (page_word n x r) ≡ Page x r) (sym k.1) (page_number_says n (frame / size_of n) r f.level k.0)

-- reserved bits are 0: bits 3 to 6, 8 to 11 and 52 to 62 of a page's word, and bit 7 where it is no size
pub page_word_bits : (n frame : ℕ) (r : Rights) → FrameFits n frame → (page_word n frame r / 8 % 512 ≡ large_flag n / 8) × (page_word n frame r / 2 ^ 52 % 2 ^ 11 ≡ 0)
unfolding page_word
page_word_bits n frame r f =
    let k = frame_number n frame f in
    subst (λ x. (page_word n x r / 8 % 512 ≡ large_flag n / 8) × (page_word n x r / 2 ^ 52 % 2 ^ 11 ≡ 0)) (sym k.1) (go n (frame / size_of n) f.level k.0)
  where
    go : (n q : ℕ) → n ≤ 2 → q < 2 ^ 52 / size_of n → (page_word n (size_of n * q) r / 8 % 512 ≡ large_flag n / 8) × (page_word n (size_of n * q) r / 2 ^ 52 % 2 ^ 11 ≡ 0)
    go n q u k = page_bits n q _ _ _ u k (flag_lt r.writable) (flag_lt r.user) (flag_lt r.noexec)
