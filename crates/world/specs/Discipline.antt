-- THE DISCIPLINE of those who write: a cell that some walk may still read through a way that has since been cut is not written.
use Rattle.std.specs.Prelude.{◌≡◌, List, [], ◌∷◌, ◌⊎◌, ℕ}
use Rattle.word.specs.Memory.{set}
use Rattle.world.specs.Events.{Event, write, mark, store}
use Rattle.world.specs.Walker.{Walker, Reads, Below}

module _ {Word View Address Place Answer : Type 0} (W : Walker Word View Address Place Answer) where
  open W use {see, start}

  -- Some walk reads x, and the cell a before it: a write of a may cut x off.
  abbrev pub Cuts : (ℕ → Word) → ℕ → ℕ → Type 0
  Cuts m a x = (va : Address) × Below W m va (start va) a x

  -- the frozen cells once a is written: those that were (F), and those that the write may have cut off
  abbrev pub Grow : (ℕ → Type 0) → (ℕ → Word) → ℕ → ℕ → Type 0
  Grow F m a x = F x ⊎ Cuts m a x

  -- THE DISCIPLINE. A write freezes what it may cut off, and hits no frozen cell, not even one that it freezes itself. A mark shows every
  -- walk what was there. Another program stores where no walk reads, and into no frozen cell.
  unfoldable pub Safe : (ℕ → Type 0) → (ℕ → Word) → List (Event Word) → Type 0
  Safe F m [] = Unit {0}
  Safe F m (write a v ∷ es) = (¬ Grow F m a a) × Safe (Grow F m a) (set m a v) es
  Safe F m (mark a v ∷ es) = (see v ≡ see (m a)) × Safe F (set m a v) es
  Safe F m (store a v ∷ es) = (¬ F a) × ((va : Address) → ¬ Reads W m va (start va) a) × Safe F (set m a v) es
