-- What an edit does to what addresses mean: nothing, or one range turns.
use Rattle.std.specs.Prelude.{ℕ, ◌≡◌}
use Rattle.walk.specs.declared.Found.{Found}
use Rattle.tables.specs.Roles.{Setting, Role, Built}
use Rattle.tables.specs.Near.{Near}
use Rattle.tables.specs.Meaning.{meaning}

-- An edit that changes no address's meaning.
pub record KeepsMeaning (σ : Setting) (m m' : ℕ → ℕ) (role' : ℕ → Role) : Type 0 where
  pub built : Built σ m' role'
  pub same : (va : ℕ) → meaning σ m' va ≡ meaning σ m va

-- An edit that gives o to the range of va at level l, [base, base + size), and changes no other number, what is no address included.
pub record Turns (σ : Setting) (m m' : ℕ → ℕ) (role' : ℕ → Role) (l va : ℕ) (o : Found) : Type 0 where
  pub built : Built σ m' role'
  pub in_range : (vb : ℕ) → Near l va vb → meaning σ m' vb ≡ o
  pub elsewhere : (vb : ℕ) → ¬ Near l va vb → meaning σ m' vb ≡ meaning σ m vb
