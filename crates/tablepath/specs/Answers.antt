-- What each operation answers and writes, as functions of the memory and the arguments: h says which pages lie in the window.
use Rattle.std.specs.Prelude.{ℕ, Bool, List, [], length, Result, Ok, Err}
use Rattle.tablepath.specs.declared.NotReleased.TheVariants as notreleased
use Rattle.pool.specs.declared.NotDue.TheVariants as notdue
use Rattle.plan.specs.declared.Reason.{Reason as PlanReason}
use Rattle.pool.specs.declared.Reason.{Reason}
use Rattle.tablepath.specs.declared.NotReleased.{NotReleased}
use Rattle.pool.specs.declared.NotDue.{NotDue}
use Rattle.word.specs.Memory.{holds}
use Rattle.word.specs.Writes.{Write}
use Rattle.entry.specs.declared.Rights.{Rights}
use Rattle.pool.specs.Book.{book_of, opened_of, due_of, ticket_after}
use Rattle.pool.specs.Changes.{release_writes}
use Rattle.pool.specs.Create as made
use Rattle.pool.specs.declared.Space.{Space}
use Rattle.pool.specs.declared.Book.{Book}
use Rattle.plan.specs.Map as map
use Rattle.plan.specs.Unmap as unmap
use Rattle.plan.specs.Protect as protect
use Rattle.plan.specs.declared.maps.Asked.{Asked}
use Rattle.plan.specs.Map.{Placed}
use Rattle.plan.specs.declared.unmaps.Removal.{Removal}
use Rattle.plan.specs.declared.protects.Change.{Change}
use Rattle.tablepath.specs.declared.Gone.{Gone}
use Rattle.tablepath.specs.declared.Altered.{Altered}

-- Create -----------------------------------------------------------------------------------------------------------------------

abbrev pub create_answer : List ℕ → ℕ → ℕ → ℕ → Result ℕ Reason
create_answer s origin first pages = made.created_of (length s) (holds s origin) origin first pages

abbrev pub create_writes : List ℕ → ℕ → ℕ → ℕ → List Write
create_writes s origin first pages = made.create_writes (length s) (holds s origin) origin first pages

-- Map --------------------------------------------------------------------------------------------------------------------------

unfoldable pub map_said : Placed → Result ℕ PlanReason
map_said (map.Go p) = Ok p.fresh.need
map_said (map.Refused r) = Err r

unfoldable pub map_answer : (ℕ → Bool) → (ℕ → ℕ) → Space → Asked → Result ℕ PlanReason
map_answer h m sp q = map_said (map.decide_of h m sp q)

unfoldable pub map_writes : (ℕ → Bool) → (ℕ → ℕ) → Space → Asked → List Write
map_writes h m sp q = map.did_of sp (map.decide_of h m sp q)

-- Unmap ------------------------------------------------------------------------------------------------------------------------

-- the page that is gone, and the ticket after it, where b is the book before: so many pages more are set aside
unfoldable pub gone_of : Book → Removal → Gone
gone_of b r = record {
  frame = r.page.frame;
  size = r.page.size;
  aside = r.empties;
  ticket = ticket_after b r.empties;
}

unfoldable pub unmap_said : Book → Result Removal PlanReason → Result Gone PlanReason
unmap_said b (Ok r) = Ok (gone_of b r)
unmap_said b (Err y) = Err y

unfoldable pub unmap_answer : (ℕ → Bool) → (ℕ → ℕ) → Space → ℕ → Result Gone PlanReason
unmap_answer h m sp va = unmap_said (book_of m sp) (unmap.decide_of h m sp va)

unfoldable pub unmap_writes : (ℕ → Bool) → (ℕ → ℕ) → Space → ℕ → List Write
unmap_writes h m sp va = unmap.did_of sp va (unmap.decide_of h m sp va)

-- Protect ----------------------------------------------------------------------------------------------------------------------

-- the page that stays, and the ticket of the book, which is as it was
unfoldable pub altered_of : Change → Altered
altered_of c = record { frame = c.frame; size = c.size; ticket = c.ticket }

unfoldable pub protect_said : Result Change PlanReason → Result Altered PlanReason
protect_said (Ok c) = Ok (altered_of c)
protect_said (Err y) = Err y

unfoldable pub protect_answer : (ℕ → Bool) → (ℕ → ℕ) → Space → ℕ → Rights → Result Altered PlanReason
protect_answer h m sp va r = protect_said (protect.decide_of h m sp va r)

unfoldable pub protect_writes : (ℕ → Bool) → (ℕ → ℕ) → Space → ℕ → Rights → List Write
protect_writes h m sp va r = protect.did_of (protect.decide_of h m sp va r)

-- Told ---------------------------------------------------------------------------------------------------------------------------

abbrev pub undue : NotDue → NotReleased
undue notdue.Unknown = notreleased.Unknown
undue notdue.Spent = notreleased.Spent

unfoldable pub due_said : Result ℕ NotDue → Result ℕ NotReleased
due_said (Ok k) = Ok k
due_said (Err y) = Err (undue y)

unfoldable pub due_did : Space → Book → Result ℕ NotDue → List Write
due_did sp b (Ok k) = release_writes sp b k
due_did sp b (Err y) = []

unfoldable pub told_said : ℕ → Result Book Reason → Result ℕ NotReleased
told_said t (Ok b) = due_said (due_of b t)
told_said t (Err r) = Err (notreleased.Pool r)

unfoldable pub told_did : Space → ℕ → Result Book Reason → List Write
told_did sp t (Ok b) = due_did sp b (due_of b t)
told_did sp t (Err r) = []

unfoldable pub told_answer : (ℕ → Bool) → (ℕ → ℕ) → Space → ℕ → Result ℕ NotReleased
told_answer h m sp t = told_said t (opened_of h m sp)

unfoldable pub told_writes : (ℕ → Bool) → (ℕ → ℕ) → Space → ℕ → List Write
told_writes h m sp t = told_did sp t (opened_of h m sp)
