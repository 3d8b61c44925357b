-- What happens to memory, one word at a time, and the moments of a list of such events.
use Rattle.std.specs.Prelude.{List, [], ◌∷◌, ◌⊎◌, ℕ}
use Rattle.word.specs.Memory.{set}

-- The code writes a word; the machine marks one (accessed, dirty); another program stores one.
pub data Event (Word : Type 0) : Type 0 where
  write : ℕ → Word → Event Word
  mark : ℕ → Word → Event Word
  store : ℕ → Word → Event Word

module _ {Word : Type 0} where
  unfoldable pub happen : (ℕ → Word) → Event Word → ℕ → Word
  happen m (write a v) = set m a v
  happen m (mark a v) = set m a v
  happen m (store a v) = set m a v

  -- the memory at the end
  unfoldable pub after : (ℕ → Word) → List (Event Word) → ℕ → Word
  after m [] = m
  after m (e ∷ es) = after (happen m e) es

  -- At some moment P holds of the memory: before the first event, between two, or after the last.
  unfoldable pub Among : (ℕ → Word) → List (Event Word) → ((ℕ → Word) → Type 0) → Type 0
  Among m [] P = P m
  Among m (e ∷ es) P = P m ⊎ Among (happen m e) es P

  -- At every moment P holds of the memory.
  unfoldable pub All : (ℕ → Word) → List (Event Word) → ((ℕ → Word) → Type 0) → Type 0
  All m [] P = P m
  All m (e ∷ es) P = P m × All (happen m e) es P
