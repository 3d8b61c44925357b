-- What comes in between the code's writes, anywhere: the machine's marks, and what other programs store.
use Rattle.std.specs.Prelude.{◌≡◌, List, [], ◌∷◌, ℕ}
use Rattle.word.specs.Memory.{set}
use Rattle.world.specs.Events.{Event, write, mark, store}
use Rattle.world.specs.Walker.{Walker, Reads}

-- the code's part of what happens
unfoldable pub writes : {Word : Type 0} → List (Event Word) → List (Event Word)
writes [] = []
writes (write a v ∷ es) = write a v ∷ writes es
writes (mark a v ∷ es) = writes es
writes (store a v ∷ es) = writes es

-- Ours: the cells that other programs leave alone
module _ {Word View Address Place Answer : Type 0} (W : Walker Word View Address Place Answer) (Ours : ℕ → Type 0) where
  open W use {see, start}

  -- THE OTHERS' PART: each mark shows what was there, and each store is of a cell that is not ours
  unfoldable pub Fair : (ℕ → Word) → List (Event Word) → Type 0
  Fair m [] = Unit {0}
  Fair m (write a v ∷ es) = Fair (set m a v) es
  Fair m (mark a v ∷ es) = (see v ≡ see (m a)) × Fair (set m a v) es
  Fair m (store a v ∷ es) = (¬ Ours a) × Fair (set m a v) es

  -- the two memories show the same in our cells
  abbrev pub Agree : (m m' : ℕ → Word) → Type 0
  Agree m m' = (x : ℕ) → Ours x → see (m' x) ≡ see (m x)

  -- walks read our cells only
  abbrev pub Inside : (ℕ → Word) → Type 0
  Inside m = (va : Address) (x : ℕ) → Reads W m va (start va) x → Ours x
