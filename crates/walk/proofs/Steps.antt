-- A step by what its read answered, and a walk that has ended.
use Rattle.std.proofs.Common.{◌≡◌, ℕ, zero, suc, ◌-◌, ◌<◌, Bool, List, refl, arith, Some, None}
use Rattle.word.specs.Memory.{memory, holds, read_of}
use Rattle.word.proofs.Memory.{read_word, read_outside}
use Rattle.entry.specs.Entry.{says}
use Rattle.entry.specs.declared.Rights.{Rights}
use Rattle.walk.specs.Walk.{index_of, entered, step_of, run}
use Rattle.walk.specs.declared.Found.{Found}
use Rattle.walk.specs.declared.Found.TheVariants.{Outside}
use Rattle.walk.specs.declared.Place.{Place}
use Rattle.walk.specs.declared.Place.TheVariants.{Going, Ended}
use Rattle.walk.proofs.Digits.{index_lt}

module _ (s : List ℕ) (origin n va t : ℕ) (r : Rights) (i : ℕ) (e : i ≡ index_of n va) where
  pub step_read : (w : ℕ) → read_of s origin t i ≡ Some w → step_of (holds s origin) (memory s origin) n va (Going t r) ≡ entered n va r (says n w)
  unfolding step_of
  step_read w h = let k = read_word s origin t (index_of n va) (index_lt n va) w (rw e at h) in rw (k.0, k.1)

  pub step_outside : read_of s origin t i ≡ None → step_of (holds s origin) (memory s origin) n va (Going t r) ≡ Ended Outside
  unfolding step_of
  step_outside h = rw (read_outside s origin t (index_of n va) (index_lt n va) (rw e at h))

-- a walk that has ended stays
pub run_ended : (h : ℕ → Bool) (m : ℕ → ℕ) (n va : ℕ) (f : Found) → run h m n va (Ended f) ≡ Ended f
unfolding run step_of
run_ended h m zero va f = refl
run_ended h m (suc n) va f = run_ended h m n va f

-- the steps that are left, as a loop that counts down takes them
pub run_down : (h : ℕ → Bool) (m : ℕ → ℕ) (n va : ℕ) (p : Place) → 0 < n → run h m n va p ≡ run h m (n - 1) va (step_of h m (n - 1) va p)
unfolding run
run_down h m zero va p u = absurd (omega arith)
run_down h m (suc n) va p u = let z : suc n - 1 ≡ n = omega arith in rw z

pub run_none : (h : ℕ → Bool) (m : ℕ → ℕ) (va : ℕ) (p : Place) → run h m 0 va p ≡ p
unfolding run
run_none h m va p = refl
