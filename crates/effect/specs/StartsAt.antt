-- Whether a page starts at a base, and why none is found there; why protect refuses.
use Rattle.std.specs.Prelude.{ℕ, true, false, ◌≡◌}
use Rattle.entry.specs.declared.Rights.{Rights}
use Rattle.walk.specs.Walk.{canonical}
use Rattle.walk.specs.declared.Found.TheVariants as found
use Rattle.tables.specs.Roles.{Setting}
use Rattle.tables.specs.Meaning.{meaning}
use Rattle.plan.specs.declared.Reason.{Reason}
use Rattle.plan.specs.declared.Reason.TheVariants.{BaseRange, NothingStarts, WriteExecute}
use Rattle.plan.specs.Rights.{write_execute}

-- SOME PAGE STARTS AT va: some address means a page whose base is va.
pub record StartsAt (σ : Setting) (m : ℕ → ℕ) (va : ℕ) : Type 0 where
  pub address : ℕ
  pub size : ℕ
  pub frame : ℕ
  pub rights : Rights
  pub means : meaning σ m address ≡ found.Page va size frame rights

-- WHY NONE IS FOUND: va is no address, or it is one, and no page starts there.
pub data NotThere (σ : Setting) (m : ℕ → ℕ) (va : ℕ) : Reason → Type 0 where
  no_address : canonical va ≡ false → NotThere σ m va BaseRange
  none_starts : canonical va ≡ true → ¬ StartsAt σ m va → NotThere σ m va NothingStarts

-- WHY PROTECT REFUSES: the page would be writable and executable, by the rights that are asked; else, that none is found.
pub data NotProtected (σ : Setting) (m : ℕ → ℕ) (va : ℕ) (rights : Rights) : Reason → Type 0 where
  write_execute_lem : write_execute rights ≡ true → NotProtected σ m va rights WriteExecute
  not_there : (y : Reason) → write_execute rights ≡ false → NotThere σ m va y → NotProtected σ m va rights y
