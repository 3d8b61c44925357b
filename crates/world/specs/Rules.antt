-- What an operation shows of its writes: they keep the discipline, and no other cells are frozen at their end.
use Rattle.std.specs.Prelude.{List, [], ◌∷◌, ℕ}
use Rattle.word.specs.Memory.{set}
use Rattle.world.specs.Events.{Event, write, mark, store}
use Rattle.world.specs.Walker.{Walker}
use Rattle.world.specs.Discipline.{Grow, Safe}

module _ {Word View Address Place Answer : Type 0} (W : Walker Word View Address Place Answer) where
  -- the frozen cells at the end
  unfoldable pub frozen : (ℕ → Type 0) → (ℕ → Word) → List (Event Word) → ℕ → Type 0
  frozen F m [] = F
  frozen F m (write a v ∷ es) = frozen (Grow W F m a) (set m a v) es
  frozen F m (mark a v ∷ es) = frozen F (set m a v) es
  frozen F m (store a v ∷ es) = frozen F (set m a v) es

  -- WHAT AN OPERATION SHOWS of its writes: with F frozen they keep the discipline, and at the end no more than G is frozen.
  pub record Obeys (F : ℕ → Type 0) (m : ℕ → Word) (es : List (Event Word)) (G : ℕ → Type 0) : Type 0 where
    pub safe : Safe W F m es
    pub within : (x : ℕ) → frozen F m es x → G x
