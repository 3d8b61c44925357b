-- An operation is a list of writes, one of which changes the meaning: what holds at each moment of it, and at its end.
use Rattle.std.specs.Prelude.{ℕ, ◌⊎◌, List, ◌≡◌}
use Rattle.word.specs.Writes.{Write, after}
use Rattle.walk.specs.declared.Found.{Found}
use Rattle.world.specs.Events as world
use Rattle.world.specs.OneChange.{OneChange}
use Rattle.tables.specs.Roles.{Setting, Role, Built, Filled}
use Rattle.tables.specs.Edits.{Turns}
use Rattle.tables.specs.Discipline.{walker_of, ObeysOf}
use Rattle.tables.specs.Clearing.{events_of}

-- A MOMENT of an operation that takes the roles role₀ to role: the tables are built, each page with the one role or the other.
pub record Moment (σ : Setting) (role₀ role : ℕ → Role) (m : ℕ → ℕ) : Type 0 where
  pub roles : ℕ → Role
  pub built : Built σ m roles
  pub between : (p : ℕ) → (roles p ≡ role₀ p) ⊎ (roles p ≡ role p)

-- AN OPERATION, DONE: xs was written; the range of va at level l has o, and no other address has changed; one write changed it; the
-- tables were built at every moment; no table but the root is empty; and the discipline was kept.
pub record Changed (σ : Setting) (m₀ : ℕ → ℕ) (role₀ : ℕ → Role) (va l : ℕ) (o : Found) (xs : List Write) (m : ℕ → ℕ) (role : ℕ → Role) : Type 0 where
  pub now : m ≡ after m₀ xs
  pub turns : Turns σ m₀ m role l va o
  pub filled : Filled m role
  pub change : OneChange (walker_of σ) m₀ (events_of xs)
  pub moments : world.All m₀ (events_of xs) (Moment σ role₀ role)
  pub obeys : ObeysOf σ role₀ m₀ (events_of xs) role
