-- What a walk reads: as predicates, so that one induction gives every frame law.
use Rattle.std.specs.Prelude.{◌≡◌, ℕ, zero, suc, Bool, true}
use Rattle.walk.specs.Walk.{entry_of, step_of, start}
use Rattle.walk.specs.declared.Place.{Place}
use Rattle.walk.specs.declared.Place.TheVariants.{Going, Ended}

-- P holds of the word that the step at level n reads, if it reads one
abbrev pub ReadsNow : (ℕ → Type 0) → (ℕ → Bool) → ℕ → ℕ → Place → Type 0
ReadsNow P h n va (Going t r) = h t ≡ true → P (entry_of n va t)
ReadsNow P h n va (Ended f) = Unit {0}

-- P holds of every word that the n steps from here read
unfoldable pub Reads : (ℕ → Type 0) → (ℕ → Bool) → (ℕ → ℕ) → ℕ → ℕ → Place → Type 0
Reads P h m zero va p = Unit {0}
Reads P h m (suc n) va p = ReadsNow P h n va p × Reads P h m n va (step_of h m n va p)

-- the walk of va comes to p, with n levels left, and P holds of every word that it has read
pub data ComesBy (P : ℕ → Type 0) (h : ℕ → Bool) (m : ℕ → ℕ) (root va : ℕ) : ℕ → Place → Type 0 where
  by_start : ComesBy P h m root va 4 (start root va)
  by_step : {n : ℕ} {p : Place} → ComesBy P h m root va (suc n) p → ReadsNow P h n va p → ComesBy P h m root va n (step_of h m n va p)
