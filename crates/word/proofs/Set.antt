-- The function m with v at a: it is v there, and m elsewhere.
use Rattle.std.proofs.Common.{◌≡◌, ℕ, ◌≢◌, refl}
use native.Mathlib.Decide.{ℕ_discrete}
use Rattle.word.specs.Memory.{set}

pub set_at : {A : Type 0} (m : ℕ → A) (a : ℕ) (v : A) (x : ℕ) → a ≡ x → set m a v x ≡ v
unfolding set
set_at {A} m a v x e = go (ℕ_discrete a x)
  where
    go : (d : Dec (a ≡ x)) → ◌≡◌ {A = A} (elim d [ yes p ↦ v | no k ↦ m x ]) v
    go (yes p) = refl
    go (no k) = absurd (k e)

pub set_same : {A : Type 0} (m : ℕ → A) (a : ℕ) (v : A) → set m a v a ≡ v
set_same m a v = set_at m a v a refl

pub set_other : {A : Type 0} (m : ℕ → A) (a : ℕ) (v : A) (x : ℕ) → a ≢ x → set m a v x ≡ m x
unfolding set
set_other {A} m a v x n = go (ℕ_discrete a x)
  where
    go : (d : Dec (a ≡ x)) → ◌≡◌ {A = A} (elim d [ yes p ↦ v | no k ↦ m x ]) (m x)
    go (yes p) = absurd (n p)
    go (no k) = refl
