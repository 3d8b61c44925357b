-- The indices of an address: its digits in base 512.
use Rattle.std.proofs.Common.{◌≡◌, ℕ, zero, suc, ◌+◌, ◌-◌, ◌*◌, ◌/◌, ◌%◌, ◌^◌, ◌<◌, ◌≤◌, sym, ap, ◌∙◌, mod-lt, pow-suc, div-add-mod', div-mul-le_self, arith}
use native.Mathlib.Nat.{div-div-eq-div-mul}
use lib.Arith.{digits_div}
use native.Mathlib.Decide.{ℕ_discrete}
use Rattle.entry.specs.Entry.{size_of}
use Rattle.walk.specs.Walk.{index_of, base_of}

pub index_lt : (n va : ℕ) → index_of n va < 512
unfolding index_of
index_lt n va = omega arith

-- sizes grow by 512 a level
pub size_up : (n : ℕ) → size_of (suc n) ≡ size_of n * 512
unfolding size_of
size_up n = omega (arith, pow-suc 512 n)

pow_pos : (n : ℕ) → 0 < 512 ^ n
pow_pos zero = omega arith
pow_pos (suc n) = omega (arith, pow-suc 512 n, pow_pos n)

pub size_pos : (n : ℕ) → 0 < size_of n
unfolding size_of
size_pos n = omega (arith, pow_pos n)

-- one level up an address is divided by 512 once more
pub div_up : (n va : ℕ) → va / size_of (suc n) ≡ va / size_of n / 512
div_up n va = rw (size_up, div-div-eq-div-mul)

-- addresses that agree at a level agree above it
pub agree_up : (n k va vb : ℕ) → n ≤ k → va / size_of n ≡ vb / size_of n → va / size_of k ≡ vb / size_of k
agree_up n zero va vb u e = let z : n ≡ 0 = omega arith in rw (← z) e
agree_up n (suc k) va vb u e = go (ℕ_discrete n (suc k)) (λ v. agree_up n k va vb v e)
  where
    go : Dec (n ≡ suc k) → (n ≤ k → va / size_of k ≡ vb / size_of k) → va / size_of (suc k) ≡ vb / size_of (suc k)
    go (yes d) ih = rw (← d) e
    go (no d) ih = div_up k va ∙ ap (λ x. x / 512) (ih (omega arith)) ∙ sym (div_up k vb)

-- addresses that agree above a level and in its index agree at it
pub agree_down : (n va vb : ℕ) → va / size_of (suc n) ≡ vb / size_of (suc n) → index_of n va ≡ index_of n vb → va / size_of n ≡ vb / size_of n
unfolding index_of
agree_down n va vb e f = digit _ _ (sym (div_up n va) ∙ e ∙ div_up n vb) f
  where
    digit : (a b : ℕ) → a / 512 ≡ b / 512 → a % 512 ≡ b % 512 → a ≡ b
    digit a b p q = omega arith

pub same_index : (n va vb : ℕ) → va / size_of n ≡ vb / size_of n → index_of n va ≡ index_of n vb
unfolding index_of
same_index n va vb e = ap (λ x. x % 512) e

pub same_base : (n va vb : ℕ) → va / size_of n ≡ vb / size_of n → base_of n va ≡ base_of n vb
unfolding base_of
same_base n va vb e = ap (λ x. x * size_of n) e

-- the range of an entry in numbers
pub base_le : (n va : ℕ) → base_of n va ≤ va
unfolding base_of
base_le n va = div-mul-le_self va (size_of n)

pub base_above : (n va : ℕ) → va < base_of n va + size_of n
unfolding base_of
base_above n va = omega (arith, div-add-mod' va (size_of n), mod-lt va (size_pos n))

-- an address lies in the range of another's entry exactly where the two agree at its level
pub in_range : (n va vb : ℕ) → base_of n va ≤ vb → vb < base_of n va + size_of n → vb / size_of n ≡ va / size_of n
unfolding base_of
in_range n va vb u v =
    let w : vb ≡ va / size_of n * size_of n + (vb - va / size_of n * size_of n) = omega arith in
    rw w (digits_div (va / size_of n) (omega arith))

pub range_in : (n va vb : ℕ) → vb / size_of n ≡ va / size_of n → (base_of n va ≤ vb) × (vb < base_of n va + size_of n)
range_in n va vb e = rw (← same_base n vb va e) (base_le n vb, base_above n vb)
