-- Calls of the operations, one after the other: what each saw of memory, and what they write.
use Rattle.std.specs.Prelude.{ℕ, ◌+◌, ◌*◌, ◌/◌, ◌%◌, ◌<◌, ◌≤◌, Bool, List, [], ◌∷◌, ◌++◌, ◌⊎◌, ◌≡◌}
use Rattle.word.specs.Memory.{set}
use Rattle.word.specs.Writes.{Write}
use Rattle.entry.specs.Marks.{Marked}
use Rattle.entry.specs.declared.Rights.{Rights}
use Rattle.walk.specs.Walk.{walk}
use Rattle.walk.specs.declared.Found.{Found}
use Rattle.world.specs.Events.{Event, write, mark, store, after}
use Rattle.world.specs.Marks.{writes}
use Rattle.tables.specs.Clearing.{events_of}
use Rattle.pool.specs.Layout.{book_pages}
use Rattle.pool.specs.Booked.{Numbered}
use Rattle.pool.specs.declared.Space.{Space}
use Rattle.plan.specs.declared.maps.Asked.{Asked}
use Rattle.effect.specs.OfPool.{OfPool}
use Rattle.tablepath.specs.Answers.{map_writes, unmap_writes, protect_writes, told_writes}

-- what an address means to a walk of this space
abbrev pub means : (ℕ → Bool) → Space → (ℕ → ℕ) → ℕ → Found
means h sp x va = walk h x (4096 * sp.root) va

-- a call of an operation that writes
pub data Call : Type 0 where
  map : Asked → Call
  unmap : ℕ → Call
  protect : ℕ → Rights → Call
  told : ℕ → Call

-- what it writes
unfoldable pub call_writes : (ℕ → Bool) → (ℕ → ℕ) → Space → Call → List Write
call_writes h m sp (map q) = map_writes h m sp q
call_writes h m sp (unmap va) = unmap_writes h m sp va
call_writes h m sp (protect va r) = protect_writes h m sp va r
call_writes h m sp (told t) = told_writes h m sp t

-- it reports no more than the ticket n
abbrev pub Within : ℕ → Call → Type 0
Within n (map q) = Unit {0}
Within n (unmap va) = Unit {0}
Within n (protect va r) = Unit {0}
Within n (told t) = t ≤ n

-- a word of the pool
abbrev pub PoolWord : Space → ℕ → Type 0
PoolWord sp a = OfPool sp (a / 512)

-- THE MACHINE'S OWN MARKS, accessed and dirty: v is the word w at a, or w with other marks; these are made in words that are present, and
-- none in the book, to which no walk comes
abbrev pub Remarked : Space → ℕ → ℕ → ℕ → Type 0
Remarked sp a w v = (v ≡ w) ⊎ (Marked v w × (w % 2 ≡ 1) × ((a / 512 < sp.first) ⊎ (sp.first + book_pages sp.pages ≤ a / 512)))

-- WHAT THE CODE SAW of the pool in the memory m, reading one word after the other: m, but for marks
abbrev pub Saw : Space → (m s : ℕ → ℕ) → Type 0
Saw sp m s = (a : ℕ) → PoolWord sp a → Remarked sp a (m a) (s a)

-- a call, and what it saw
pub record Act : Type 0 where
  pub call : Call
  pub saw : ℕ → ℕ

-- what it writes
abbrev pub act_writes : (ℕ → Bool) → Space → Act → List (Event ℕ)
act_writes h sp a = events_of (call_writes h a.saw sp a.call)

-- what they all write
unfoldable pub wrote : (ℕ → Bool) → Space → List Act → List (Event ℕ)
wrote h sp [] = []
wrote h sp (a ∷ cs) = act_writes h sp a ++ wrote h sp cs

-- each saw the memory as those before it left it
unfoldable pub Runs : (ℕ → Bool) → Space → (ℕ → ℕ) → List Act → Type 0
Runs h sp m [] = Unit {0}
Runs h sp m (a ∷ cs) = Saw sp m a.saw × Runs h sp (after m (act_writes h sp a)) cs

-- no report goes beyond the ticket n
unfoldable pub UpTo : ℕ → List Act → Type 0
UpTo n [] = Unit {0}
UpTo n (a ∷ cs) = Within n a.call × UpTo n cs

-- What others do meanwhile: the machine marks words, and other programs store outside the pool.
unfoldable pub Others : Space → (ℕ → ℕ) → List (Event ℕ) → Type 0
Others sp m [] = Unit {0}
Others sp m (write a v ∷ es) = Others sp (set m a v) es
Others sp m (mark a v ∷ es) = Remarked sp a (m a) v × Others sp (set m a v) es
Others sp m (store a v ∷ es) = (¬ PoolWord sp a) × Others sp (set m a v) es

-- A RUN OF CALLS, AND WHAT HAS HAPPENED TO MEMORY: from the memory m on the calls cs were made, whose reports go no further than the ticket n;
-- gs is what has happened since, up to any moment. Writes reach memory in their order; some may wait in the store buffer still.
pub record Reached (h : ℕ → Bool) (sp : Space) (n : ℕ) (m : ℕ → ℕ) (cs : List Act) (gs : List (Event ℕ)) : Type 0 where
  pub runs : Runs h sp m cs
  pub upto : UpTo n cs
  pub waiting : List (Event ℕ)
  pub in_order : writes gs ++ waiting ≡ wrote h sp cs
  pub others : Others sp m gs

-- THE FROZEN WORDS of a period that began when the ticket n was handed out: those of pages that were set aside since
abbrev pub From : Space → ℕ → (ℕ → ℕ) → ℕ → Type 0
From sp n m x = (k : ℕ) × (n ≤ k) × Numbered m sp (x / 512) k
