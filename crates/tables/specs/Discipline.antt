-- The walker of these tables, and what an operation shows of its writes: the frozen words are those of the pages that are set aside.
use Rattle.std.specs.Prelude.{ℕ, ◌/◌, List, ◌≡◌}
use Rattle.entry.specs.declared.Entry.{Entry}
use Rattle.walk.specs.declared.Found.{Found}
use Rattle.world.specs.Events.{Event}
use Rattle.world.specs.Walker.{Walker}
use Rattle.world.specs.Rules.{Obeys}
use Rattle.tables.specs.Walks.{Position, one_space}
use Rattle.tables.specs.Roles.{Setting, Role, aside}

-- THE FROZEN WORDS: those of pages that are set aside.
abbrev pub Aside : (ℕ → Role) → ℕ → Type 0
Aside role x = role (x / 512) ≡ aside

-- the walker of these tables
abbrev pub walker_of : Setting → Walker ℕ (ℕ → Entry) ℕ Position Found
walker_of σ = one_space σ.window σ.cr3

-- what an operation shows of its writes: from these roles to those
abbrev pub ObeysOf : Setting → (ℕ → Role) → (ℕ → ℕ) → List (Event ℕ) → (ℕ → Role) → Type 0
ObeysOf σ role m es role' = Obeys (walker_of σ) (Aside role) m es (Aside role')
