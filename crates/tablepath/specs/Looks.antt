-- THE LENT BYTES AS A WINDOW on physical memory: what is so in it, what look-up answers there, and whether a space is whole in it.
use Rattle.std.specs.Prelude.{ℕ, ◌+◌, ◌*◌, ◌<◌, ◌≤◌, Bool, List, ◌≡◌}
use Rattle.word.specs.Memory.{memory, holds}
use Rattle.word.specs.Writes.{carried}
use Rattle.entry.specs.declared.Rights.{Rights}
use Rattle.walk.specs.Walk.{walk}
use Rattle.walk.specs.declared.Found.{Found}
use Rattle.walk.specs.declared.Found.TheVariants.{Page}
use Rattle.tables.specs.Roles.{Role}
use Rattle.pool.specs.declared.Space.{Space}
use Rattle.plan.specs.declared.maps.Asked.{Asked}
use Rattle.effect.specs.Whole.{Whole}
use Rattle.tablepath.specs.Answers.{map_writes}

-- what f says of a window: of the pages that lie in it, and the words there
abbrev pub in_window : {A : Type 0} → List ℕ → ℕ → ((ℕ → Bool) → (ℕ → ℕ) → A) → A
in_window s origin f = f (holds s origin) (memory s origin)

-- what look-up answers in a window
abbrev pub look_up : List ℕ → Space → ℕ → Found
look_up s sp va = in_window s sp.origin walk (4096 * sp.root) va

-- an address of the range that begins at base
abbrev pub In : ℕ → ℕ → ℕ → Type 0
In base size va = (base ≤ va) × (va < base + size)

-- the page that started at base: o is what every address of it gets in the window s' now, and every other address gets what it had
pub record Swapped (s s' : List ℕ) (sp : Space) (base size frame : ℕ) (o : Found) : Type 0 where
  pub had : Rights
  pub before : look_up s sp base ≡ Page base size frame had
  pub inside : (va : ℕ) → In base size va → look_up s' sp va ≡ o
  pub beside : (va : ℕ) → (In base size va → ⊥) → look_up s' sp va ≡ look_up s sp va

-- a window in which the space is whole
abbrev pub WholeBytes : List ℕ → Space → (ℕ → Role) → Type 0
WholeBytes s sp role = Whole (holds s sp.origin) sp (memory s sp.origin) role

-- the window after a map
abbrev pub with_page : List ℕ → Space → Asked → List ℕ
with_page s sp q = carried s sp.origin (in_window s sp.origin map_writes sp q)
