-- A word that some walk reads.
use Rattle.std.specs.Prelude.{ℕ}
use Rattle.world.specs.Walker.{Walker, Reads}

module _ {Word View Address Place Answer : Type 0} (W : Walker Word View Address Place Answer) where
  open W use {start}

  -- some walk reads x
  abbrev pub SomeReads : ℕ → (ℕ → Word) → Type 0
  SomeReads x m = (va : Address) × Reads W m va (start va) x
