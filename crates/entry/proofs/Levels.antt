-- Sizes and fields at the four levels, each fact proved at the four numerals.
use mir.Val.{bool_byte}
use Rattle.std.proofs.Common.{◌≡◌, ℕ, Bool, zero, suc, ◌/◌, ◌%◌, ◌^◌, ◌<◌, true, false, cond, refl, arith, eq-eqb, ne_eqb}
use Rattle.entry.specs.Entry.{size_of, frame_of, bit, rights_of, table_of, large_of, present_of}
use Rattle.entry.specs.declared.Entry.TheVariants.{Table}
use Rattle.entry.specs.Words.{flag, large_flag}

pub at_levels {ℓ} : (P : ℕ → Type ℓ) → P 0 → P 1 → P 2 → P 3 → (n : ℕ) → n < 4 → P n
at_levels P a b c d zero h = a
at_levels P a b c d (suc zero) h = b
at_levels P a b c d (suc (suc zero)) h = c
at_levels P a b c d (suc (suc (suc zero))) h = d
at_levels P a b c d (suc (suc (suc (suc n)))) h = absurd (omega arith)

pub size_pos : (n : ℕ) → n < 4 → 0 < size_of n
unfolding size_of
size_pos = at_levels (λ n. 0 < size_of n) (omega arith) (omega arith) (omega arith) (omega arith)

pub size_parts : (n : ℕ) → n < 4 → 0 < 2 ^ 52 / size_of n
unfolding size_of
size_parts = at_levels (λ n. 0 < 2 ^ 52 / size_of n) (omega arith) (omega arith) (omega arith) (omega arith)

pub frame_lt : (w : ℕ) (n : ℕ) → n < 4 → frame_of n w < 2 ^ 52
unfolding size_of frame_of
frame_lt w = at_levels (λ n. frame_of n w < 2 ^ 52) (omega arith) (omega arith) (omega arith) (omega arith)

pub size_units : (n : ℕ) → 0 < n → n < 4 → 0 < size_of n / 8192
unfolding size_of
size_units n p h =
    at_levels (λ n. 0 < n → 0 < size_of n / 8192) (omega arith) (λ _. omega arith) (λ _. omega arith) (λ _. omega arith) n h p

-- above the last table
pub present_above : (n w : ℕ) → (n ≡ 0 → ⊥) → present_of n w ≡ cond (bit 7 w) (large_of n w) (Table (table_of w) (rights_of w))
unfolding present_of
present_above zero w h = absurd (h refl)
present_above (suc n) w h = refl

-- a bit by its remainder
pub bit_off : (k w : ℕ) → w / 2 ^ k % 2 ≡ 0 → bit k w ≡ false
unfolding bit
bit_off k w h = ne_eqb (w / 2 ^ k % 2) 1 (omega arith)

pub bit_on : (k w : ℕ) → (w / 2 ^ k % 2 ≡ 0 → ⊥) → bit k w ≡ true
unfolding bit
bit_on k w h = eq-eqb (w / 2 ^ k % 2) 1 (omega arith)

pub large_flag_lem : (n : ℕ) → (n ≡ 0 → ⊥) → large_flag n ≡ 128
unfolding large_flag
large_flag_lem zero h = absurd (h refl)
large_flag_lem (suc n) h = refl

-- a bit as std's `From` makes it
pub from_flag : (b : Bool) (n : ℕ) → n ≡ bool_byte b → n ≡ flag b
unfolding flag
from_flag true n e = e
from_flag false n e = e

pub from_small : (b : Bool) (n : ℕ) → n ≡ bool_byte b → n < 2
from_small true n e = omega (arith, e)
from_small false n e = omega (arith, e)
