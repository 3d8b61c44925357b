-- ONE CHANGE: a list of writes that changes the meaning at one write only, for all addresses at once.
use Rattle.std.specs.Prelude.{◌≡◌, List, ◌∷◌, ◌++◌, ℕ}
use Rattle.word.specs.Memory.{set}
use Rattle.world.specs.Events.{Event, write, after, All}
use Rattle.world.specs.Walker.{Walker, meaning}

module _ {Word View Address Place Answer : Type 0} (W : Walker Word View Address Place Answer) where
  -- every address means in m' what it means in m
  abbrev pub SameMeaning : (ℕ → Word) → (ℕ → Word) → Type 0
  SameMeaning m m' = (va : Address) → meaning W m' va ≡ meaning W m va

  -- a list that changes no meaning: at each of its moments every address means what it meant at first
  abbrev pub Quiet : (ℕ → Word) → List (Event Word) → Type 0
  Quiet m es = All m es (SameMeaning m)

  -- A list with one change: it is quiet up to one write, and quiet from that write on.
  pub record OneChange (m : ℕ → Word) (es : List (Event Word)) : Type 0 where
    pub front : List (Event Word)
    pub place : ℕ
    pub word : Word
    pub back : List (Event Word)
    pub split : es ≡ front ++ (write place word ∷ back)
    pub old : Quiet m front
    pub new : Quiet (set (after m front) place word) back
