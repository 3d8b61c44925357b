-- Any number of walks, each at its own pace, beside whatever happens to memory, in any order; none of them uses a cache.
use Rattle.std.specs.Prelude.{List, [], ◌∷◌, ◌≢◌, ℕ}
use Rattle.word.specs.Memory.{set}
use Rattle.world.specs.Events.{Event, happen}
use Rattle.world.specs.Walker.{Walker}

-- What happens next: the walk of this number takes a step, or memory changes.
pub data Turn (Word : Type 0) : Type 0 where
  tick : ℕ → Turn Word
  event : Event Word → Turn Word

-- what happens to memory
unfoldable pub events : {Word : Type 0} → List (Turn Word) → List (Event Word)
events [] = []
events (tick i ∷ ts) = events ts
events (event e ∷ ts) = e ∷ events ts

-- walk i takes no step
unfoldable pub Idle : {Word : Type 0} → ℕ → List (Turn Word) → Type 0
Idle i [] = Unit {0}
Idle i (tick j ∷ ts) = (j ≢ i) × Idle i ts
Idle i (event e ∷ ts) = Idle i ts

module _ {Word View Address Place Answer : Type 0} (W : Walker Word View Address Place Answer) (who : ℕ → Address) where
  open W use {start, step}

  -- Walk i is the walk of the address `who i`, and it stands at its start until its first step.
  abbrev pub at_start : ℕ → Place
  at_start i = start (who i)

  -- where the walks stand after these turns
  unfoldable pub places : (ℕ → Word) → (ℕ → Place) → List (Turn Word) → ℕ → Place
  places m ps [] = ps
  places m ps (tick i ∷ ts) = places m (set ps i (step m (who i) (ps i))) ts
  places m ps (event e ∷ ts) = places (happen m e) ps ts
