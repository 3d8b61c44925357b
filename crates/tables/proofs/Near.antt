-- Addresses that agree from a level up lie in one aligned range of what an entry of that level covers.
use Prim.Native.Nat.{ℕ, suc, ◌+◌, ◌-◌, ◌*◌, ◌/◌, ◌%◌, ◌^◌, ◌≤◌, ◌<◌}
use mathlib.Core.Bool.{Bool, true, false, cond}
use mathlib.Core.Logic.{◌↔◌}
use mathlib.Core.Path.{◌≡◌, refl, sym, ap, ◌∙◌, subst}
use native.Mathlib.Nat.{mul-div_cancel}
use native.Mathlib.Decide.{ℕ_discrete}
use native.Mathlib.Omega.{arith}
use borrow.Author.Tests.{ltb-true, ltb-false}
use lib.Dec.{ltb}
use Rattle.entry.specs.Entry.{size_of}
use Rattle.walk.specs.Walk.{index_of, base_of, canonical}
use Rattle.walk.proofs.Digits.{size_pos, div_up, agree_up, in_range, range_in, agree_down}
use Rattle.tables.specs.Near.{Near}
use Rattle.walk.proofs.Addresses.{in_lower, in_upper, root_index}

-- one level up
pub near_up : (n va vb : ℕ) → Near n va vb → Near (suc n) va vb
near_up n va vb e = agree_up n (suc n) va vb (omega arith) e

-- THE RANGE IN NUMBERS: the addresses near va, from level n up, are those from its base on, as many as the level covers.
pub near_range : (n va vb : ℕ) → Near n va vb ↔ ((base_of n va ≤ vb) × (vb < base_of n va + size_of n))
near_range n va vb = (λ e. range_in n va vb (sym e), λ h. sym (in_range n va vb h.0 h.1))

-- ADDRESSES WITH ONE INDEX, which agree above it, agree at its level. Above the root's entries there is nothing to agree in: the two halves
-- have no entry of the root in common.
pub near_down : (l va vb : ℕ) → l < 4 → canonical va ≡ true → canonical vb ≡ true → (suc l < 4 → Near (suc l) va vb) → index_of l va ≡ index_of l vb → Near l va vb
near_down l va vb u e f h i = go (ℕ_discrete l 3)
  where
    go : Dec (l ≡ 3) → Near l va vb
    go (yes d) = subst (λ k. Near k va vb) (sym d) (root_index va vb e f (subst (λ k. index_of k va ≡ index_of k vb) d i))
    go (no d) = agree_down l va vb (h (omega arith)) i

-- the first address of the root's entry j
unfoldable pub root_pick : ℕ → ℕ
root_pick j = cond (ltb j 256) j (2 ^ 25 - 512 + j) * size_of 3

pub root_pick_lem : (j : ℕ) → j < 512 → (canonical (root_pick j) ≡ true) × (index_of 3 (root_pick j) ≡ j)
unfolding root_pick index_of size_of
root_pick_lem j u = go (ltb j 256) refl
  where
    go : (b : Bool) → ltb j 256 ≡ b → (canonical (cond b j (2 ^ 25 - 512 + j) * 549755813888) ≡ true) × (cond b j (2 ^ 25 - 512 + j) * 549755813888 / 549755813888 % 512 ≡ j)
    go true e = (in_lower (j * 549755813888) (omega (arith, ltb-true j 256 e)), omega (arith, ltb-true j 256 e))
    go false e = (
      in_upper ((2 ^ 25 - 512 + j) * 549755813888) (omega (arith, ltb-false j 256 e)) (omega (arith, ltb-false j 256 e)),
      omega (arith, ltb-false j 256 e),
    )

-- the address with index j at level n, va's above it, and 0 below, for levels below the root's
unfoldable pub pick : ℕ → ℕ → ℕ → ℕ
pick va n j = (va / size_of (suc n) * 512 + j) * size_of n

pick_quotient : (va n j : ℕ) → pick va n j / size_of n ≡ va / size_of (suc n) * 512 + j
unfolding pick
pick_quotient va n j = mul-div_cancel _ (size_pos n)

pub pick_near : (va n j : ℕ) → j < 512 → Near (suc n) va (pick va n j)
pick_near va n j u = sym (div_up n (pick va n j) ∙ ap (λ x. x / 512) (pick_quotient va n j) ∙ omega arith)

pub pick_index : (va n j : ℕ) → j < 512 → index_of n (pick va n j) ≡ j
unfolding index_of
pick_index va n j u = ap (λ x. x % 512) (pick_quotient va n j) ∙ omega arith
