-- MAP, on its way down: what holds after each table that was there already, or was cleared and then linked.
use Rattle.std.specs.Prelude.{ℕ, List, ◌≡◌}
use Rattle.word.specs.Writes.{Write, after}
use Rattle.world.specs.Events.{All}
use Rattle.world.specs.OneChange.{Quiet}
use Rattle.tables.specs.Roles.{Setting, Role, free, Built, FilledBut}
use Rattle.tables.specs.Way.{Comes}
use Rattle.tables.specs.Meaning.{meaning}
use Rattle.tables.specs.Discipline.{walker_of, ObeysOf}
use Rattle.tables.specs.Clearing.{events_of}
use Rattle.tables.specs.Operation.{Moment}

-- THE WAY DOWN. From m₀ on xs was written; the walk of va comes to page t with n levels left; no address's meaning has changed; t, and it
-- alone, may be empty. What is free was free.
pub record Down (σ : Setting) (m₀ : ℕ → ℕ) (role₀ : ℕ → Role) (va : ℕ) (xs : List Write) (m : ℕ → ℕ) (role : ℕ → Role) (n t : ℕ) : Type 0 where
  pub now : m ≡ after m₀ xs
  pub built : Built σ m role
  pub comes : Comes σ m va n t
  pub filled : FilledBut m role t
  pub same : (vb : ℕ) → meaning σ m vb ≡ meaning σ m₀ vb
  pub quiet : Quiet (walker_of σ) m₀ (events_of xs)
  pub obeys : ObeysOf σ role₀ m₀ (events_of xs) role
  pub moments : All m₀ (events_of xs) (Moment σ role₀ role)
  pub unused : (p : ℕ) → role p ≡ free → role₀ p ≡ free
