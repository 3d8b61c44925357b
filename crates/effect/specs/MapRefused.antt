-- WHY MAP REFUSES, in a space that is whole: one cause for each reason, in the order of the tests.
use Rattle.std.specs.Prelude.{ℕ, ◌+◌, ◌*◌, ◌%◌, ◌≤◌, ◌<◌, Bool, true, false, ◌≢◌, ◌≡◌}
use Rattle.entry.specs.Entry.{size_of, frame_end}
use Rattle.walk.specs.Walk.{canonical}
use Rattle.tables.specs.Roles.{Apart}
use Rattle.tables.specs.Overlap.{MappedIn}
use Rattle.pool.specs.Book.{book_of}
use Rattle.pool.specs.Booked.{setting_of}
use Rattle.pool.specs.declared.Space.{Space}
use Rattle.plan.specs.declared.Reason.{Reason}
use Rattle.plan.specs.declared.Reason.TheVariants.{Size, BaseUnaligned, FrameUnaligned, BaseRange, FrameRange, WriteExecute, Pool, FrameInPool, Overlap, NoRoom, NothingStarts, Stray, BadList}
use Rattle.plan.specs.declared.maps.Asked.{Asked}
use Rattle.plan.specs.Rights.{write_execute}
use Rattle.effect.specs.MapDone.{Fitted, Misses}

-- the size is that of a page of level l
abbrev pub OfLevel : ℕ → Asked → Type 0
OfLevel l q = (l ≤ 2) × (q.size ≡ size_of l)

-- the frame and the pool share a byte
abbrev pub Meets : Space → Asked → Type 0
Meets sp q = (sp.first * 4096 < q.frame + q.size) × (q.frame < (sp.first + sp.pages) * 4096)

-- they lie apart
abbrev pub FrameApart : (ℕ → Bool) → Space → Asked → Type 0
FrameApart h sp q = Apart (setting_of h sp) q.frame q.size

-- some address of the range is mapped
abbrev pub SomeMapped : (ℕ → Bool) → Space → (ℕ → ℕ) → Asked → Type 0
SomeMapped h sp m q = MappedIn (setting_of h sp) m q.base q.size

pub data Cause (h : ℕ → Bool) (sp : Space) (m : ℕ → ℕ) (q : Asked) : Reason → Type 0 where
  no_size : ((l : ℕ) → l ≤ 2 → q.size ≢ size_of l) → Cause h sp m q Size
  base_unaligned : (l : ℕ) → OfLevel l q → q.base % q.size ≢ 0 → Cause h sp m q BaseUnaligned
  frame_unaligned : (l : ℕ) → OfLevel l q → q.base % q.size ≡ 0 → q.frame % q.size ≢ 0 → Cause h sp m q FrameUnaligned
  base_range : (l : ℕ) → OfLevel l q → q.base % q.size ≡ 0 → q.frame % q.size ≡ 0 → canonical q.base ≡ false → Cause h sp m q BaseRange
  frame_high : (l : ℕ) → OfLevel l q → q.base % q.size ≡ 0 → q.frame % q.size ≡ 0 → canonical q.base ≡ true → frame_end < q.frame + q.size
      → Cause h sp m q FrameRange
  write_execute_lem : (l : ℕ) → OfLevel l q → q.base % q.size ≡ 0 → q.frame % q.size ≡ 0 → canonical q.base ≡ true → q.frame + q.size ≤ frame_end
      → write_execute q.rights ≡ true → Cause h sp m q WriteExecute
  frame_in_pool : (l : ℕ) → Fitted l q → Meets sp q → Cause h sp m q FrameInPool
  mapped : (l : ℕ) → Fitted l q → FrameApart h sp q → SomeMapped h sp m q → Cause h sp m q Overlap
  no_room : (l n : ℕ) → Fitted l q → FrameApart h sp q → ¬ SomeMapped h sp m q → Misses (setting_of h sp) m q.base l n → (book_of m sp).free < n
      → Cause h sp m q NoRoom

-- the reasons that have a cause; the others tell of a space or a book that makes no sense, of damaged tables, or belong to unmap
abbrev pub HasCause : Reason → Type 0
HasCause Size = Unit {0}
HasCause BaseUnaligned = Unit {0}
HasCause FrameUnaligned = Unit {0}
HasCause BaseRange = Unit {0}
HasCause FrameRange = Unit {0}
HasCause WriteExecute = Unit {0}
HasCause (Pool y) = ⊥
HasCause FrameInPool = Unit {0}
HasCause Overlap = Unit {0}
HasCause NoRoom = Unit {0}
HasCause NothingStarts = ⊥
HasCause Stray = ⊥
HasCause BadList = ⊥
