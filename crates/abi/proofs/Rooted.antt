-- The root of a pool that was made lies in a page whose number has 40 bits.
use Prim.Native.Nat.{ℕ, ◌^◌, ◌<◌}
use mathlib.Core.List.{List}
use mathlib.Core.Path.{◌≡◌, refl, sym, ◌∙◌}
use native.Mathlib.Omega.{arith}
use Rattle.std.proofs.Common.{Result, Ok, Err}
use Rattle.pool.specs.declared.Reason.{Reason}
use Rattle.word.specs.Memory.{holds}
use Rattle.pool.specs.Create.{may_create, created_of, created_in}
use Rattle.pool.proofs.Opening.{may_fit, fit_small}

same_root : (p q : ℕ) → ◌≡◌ {A = Result ℕ Reason} (Ok p) (Ok q) → p ≡ q
same_root p q e = cc

pub root_low : (len : ℕ) (s : List ℕ) (origin first pages : ℕ) (c : Result ℕ Reason) → c ≡ created_of len (holds s origin) origin first pages → (p : ℕ) → c ≡ Ok p → p < 2 ^ 40
unfolding created_of created_in
root_low len s origin first pages c d p e = go (may_create len (holds s origin) origin first pages) refl (sym d ∙ e)
  where
    go : (x : Result (Unit {0}) Reason) → may_create len (holds s origin) origin first pages ≡ x → created_in first pages x ≡ Ok p → p < 2 ^ 40
    go (Err r) f e = let z : ◌≡◌ {A = ℕ} 0 1 = cc in absurd (omega arith)
    go (Ok tt) f e =
        let g = may_fit _ _ _ _ _ f in
        omega (arith, fit_small s origin first pages g, g.enough, same_root _ _ e)
