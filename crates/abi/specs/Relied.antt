-- WHAT A CALLER IN C RELIES ON: statements over the functions' own answers and bytes, for plain numbers as C gives them. The laws are in
-- proofs/Created.antt, proofs/RoundTrips.antt and proofs/Refusals.antt; what the numbers of the answers say is in Reasons.antt.
use Rattle.std.specs.Prelude.{ℕ, ◌+◌, ◌*◌, ◌/◌, ◌%◌, ◌<◌, ◌≤◌, true, false, List, [], ◌∷◌, ◌≡◌, length, replicate}
use Rattle.entry.specs.Entry.{bit}
use Rattle.entry.specs.declared.Rights.{Rights}
use Rattle.walk.specs.Walk.{canonical}
use Rattle.tables.specs.Roles.{Role}
use Rattle.pool.specs.declared.Space.{Space}
use Rattle.plan.specs.declared.maps.Asked.{Asked}
use Rattle.plan.specs.Rights.{write_execute}
use Rattle.tablepath.specs.Calls as calls
use Rattle.tablepath.specs.Looks.{In, WholeBytes}
use Rattle.abi.specs.Answers.{rights_in}
use Rattle.abi.specs.Calls.{site_of, map_site, protect_site, ask, create_answer, create_bytes, map_answer, map_bytes, unmap_answer, unmap_bytes, protect_answer, protect_bytes, told_answer, told_bytes, state_answer, look_up_answer}
use Rattle.abi.specs.declared.answers.Created.{Created}
use Rattle.abi.specs.declared.answers.Mapped.{Mapped}
use Rattle.abi.specs.declared.answers.Unmapped.{Unmapped}
use Rattle.abi.specs.declared.answers.Protected.{Protected}
use Rattle.abi.specs.declared.answers.Told.{Told}
use Rattle.abi.specs.declared.answers.Counts.{Counts}
use Rattle.abi.specs.declared.answers.LookedUp.{LookedUp}

-- The calls: what each answers, and the bytes that it leaves -----------------------------------------------------------------------

-- the numbers that name a space at every call
pub record Numbers : Type 0 where
  pub origin : ℕ
  pub pool : ℕ
  pub pages : ℕ
  pub root : ℕ

abbrev pub tp_create : List ℕ → ℕ → ℕ → ℕ → Created
tp_create s origin pool pages = create_answer s origin pool pages

abbrev pub create_leaves : List ℕ → ℕ → ℕ → ℕ → List ℕ
create_leaves s origin pool pages = create_bytes s origin pool pages

abbrev pub tp_map : List ℕ → Numbers → ℕ → ℕ → ℕ → ℕ → Mapped
tp_map s n base frame size rights =
    map_answer s (ask base frame size rights) (map_site n.origin n.pool n.pages n.root base frame size rights)

abbrev pub tp_unmap : List ℕ → Numbers → ℕ → Unmapped
tp_unmap s n base = unmap_answer s base (site_of n.origin n.pool n.pages n.root)

abbrev pub tp_protect : List ℕ → Numbers → ℕ → ℕ → Protected
tp_protect s n base rights = protect_answer s base (rights_in rights) (protect_site n.origin n.pool n.pages n.root rights)

abbrev pub tp_told : List ℕ → Numbers → ℕ → Told
tp_told s n ticket = told_answer s ticket (site_of n.origin n.pool n.pages n.root)

abbrev pub tp_state : List ℕ → Numbers → Counts
tp_state s n = state_answer s (site_of n.origin n.pool n.pages n.root)

abbrev pub tp_look_up : List ℕ → Numbers → ℕ → LookedUp
tp_look_up s n va = look_up_answer s n.origin n.root va

-- a call in a space
pub data Call : Type 0 where
  map : (base frame size rights : ℕ) → Call
  unmap : (base : ℕ) → Call
  protect : (base rights : ℕ) → Call
  told : (ticket : ℕ) → Call

unfoldable pub leaves : List ℕ → Numbers → Call → List ℕ
leaves s n (map base frame size rights) =
    map_bytes s (ask base frame size rights) (map_site n.origin n.pool n.pages n.root base frame size rights)
leaves s n (unmap base) = unmap_bytes s base (site_of n.origin n.pool n.pages n.root)
leaves s n (protect base rights) = protect_bytes s base (rights_in rights) (protect_site n.origin n.pool n.pages n.root rights)
leaves s n (told ticket) = told_bytes s ticket (site_of n.origin n.pool n.pages n.root)

-- its answer: the reason, and the other fields
unfoldable pub reason : List ℕ → Numbers → Call → ℕ
reason s n (map base frame size rights) = (tp_map s n base frame size rights).reason
reason s n (unmap base) = (tp_unmap s n base).reason
reason s n (protect base rights) = (tp_protect s n base rights).reason
reason s n (told ticket) = (tp_told s n ticket).reason

unfoldable pub others : List ℕ → Numbers → Call → List ℕ
others s n (map base frame size rights) = (tp_map s n base frame size rights).tables ∷ []
others s n (unmap base) = let x = tp_unmap s n base in x.frame ∷ x.size ∷ x.aside ∷ x.ticket ∷ []
others s n (protect base rights) = let x = tp_protect s n base rights in x.frame ∷ x.size ∷ x.ticket ∷ []
others s n (told ticket) = (tp_told s n ticket).released ∷ []

-- the rights that are asked have no bit that means nothing
abbrev pub KnownRights : Call → Type 0
KnownRights (map base frame size rights) = rights < 8
KnownRights (unmap base) = Unit {0}
KnownRights (protect base rights) = rights < 8
KnownRights (told ticket) = Unit {0}

-- TP_WRITABLE is bit 0, TP_USER bit 1, TP_NO_EXECUTE bit 2
unfoldable pub granted : ℕ → Rights
granted w = record { writable = bit 0 w; user = bit 1 w; noexec = bit 2 w }

abbrev pub asked : ℕ → ℕ → ℕ → ℕ → Asked
asked base frame size rights = record { base = base; frame = frame; size = size; rights = granted rights }

-- the same call of tablepath
unfoldable pub call_of : Call → calls.Call
call_of (map base frame size rights) = calls.map (asked base frame size rights)
call_of (unmap base) = calls.unmap base
call_of (protect base rights) = calls.protect base (granted rights)
call_of (told ticket) = calls.told ticket

-- What holds between calls ---------------------------------------------------------------------------------------------------------

-- the space of these numbers, by pages
abbrev pub space_of : Numbers → Space
space_of n = record { origin = n.origin; first = n.pool / 4096; pages = n.pages; root = n.root / 4096 }

-- the pool and the root lie at page boundaries
pub record AlignedNumbers (n : Numbers) : Type 0 where
  pub pool : n.pool % 4096 ≡ 0
  pub root : n.root % 4096 ≡ 0

-- these numbers name a space that is whole in these bytes
pub record WholeAt (s : List ℕ) (n : Numbers) : Type 0 where
  pub aligned : AlignedNumbers n
  pub role : ℕ → Role
  pub whole : WholeBytes s (space_of n) role

-- a refusal: the bytes are what they were, and the other fields of the answer are 0
pub record Untouched (s s' : List ℕ) (fields : List ℕ) : Type 0 where
  pub bytes : s' ≡ s
  pub zeros : fields ≡ replicate (length fields) 0

-- What look-up answers -------------------------------------------------------------------------------------------------------------

-- a page with these rights
abbrev pub page : ℕ → ℕ → ℕ → ℕ → LookedUp
page base size frame rights = record { kind = 1; base = base; size = size; frame = frame; rights = rights }

-- it answers none that is writable and executable
abbrev pub StrictAt : List ℕ → Numbers → Type 0
StrictAt s n = (va : ℕ) → (tp_look_up s n va).kind ≡ 1 → write_execute (granted (tp_look_up s n va).rights) ≡ false

abbrev pub nothing : LookedUp
nothing = record { kind = 0; base = 0; size = 0; frame = 0; rights = 0 }

-- from the bytes s to s': look-up answers x in the range [base, base + size) now, and elsewhere what it did
pub record Now (s s' : List ℕ) (n : Numbers) (base size : ℕ) (x : LookedUp) : Type 0 where
  pub inside : (va : ℕ) → In base size va → tp_look_up s' n va ≡ x
  pub beside : (va : ℕ) → ¬ In base size va → tp_look_up s' n va ≡ tp_look_up s n va

-- Each call, done ------------------------------------------------------------------------------------------------------------------

-- the numbers of a new space, with the root that create answers
abbrev pub new_numbers : List ℕ → ℕ → ℕ → ℕ → Numbers
new_numbers s origin pool pages = record { origin = origin; pool = pool; pages = pages; root = (tp_create s origin pool pages).root }

-- a whole space for the next calls; its root is a page of the pool; and no address is mapped, of all that there are
pub record CreateDone (s : List ℕ) (origin pool pages : ℕ) : Type 0 where
  pub whole : WholeAt (create_leaves s origin pool pages) (new_numbers s origin pool pages)
  pub behind : pool < (tp_create s origin pool pages).root
  pub before_end : (tp_create s origin pool pages).root + 4096 ≤ pool + 4096 * pages
  pub empty : (va : ℕ) → canonical va ≡ true → tp_look_up (create_leaves s origin pool pages) (new_numbers s origin pool pages) va ≡ nothing

-- the page that started at base was this one, and look-up answers x there now
pub record Swapped (s s' : List ℕ) (n : Numbers) (base size frame : ℕ) (x : LookedUp) : Type 0 where
  pub had : ℕ
  pub before : tp_look_up s n base ≡ page base size frame had
  pub now_is : Now s s' n base size x

-- unmap right after map: it answers what was mapped, and nothing is there again
pub record Undone (s : List ℕ) (n : Numbers) (base frame size rights : ℕ) : Type 0 where
  pub done : (tp_unmap (leaves s n (map base frame size rights)) n base).reason ≡ 0
  pub frame_is : (tp_unmap (leaves s n (map base frame size rights)) n base).frame ≡ frame
  pub size_is : (tp_unmap (leaves s n (map base frame size rights)) n base).size ≡ size
  pub now_is : Now s (leaves (leaves s n (map base frame size rights)) n (unmap base)) n base size nothing

-- told right after unmap, with the ticket that it answered: at least the tables that it set aside are free again
pub record Reported (s : List ℕ) (n : Numbers) (base : ℕ) : Type 0 where
  pub done : (tp_told (leaves s n (unmap base)) n (tp_unmap s n base).ticket).reason ≡ 0
  pub free_again : (tp_unmap s n base).aside ≤ (tp_told (leaves s n (unmap base)) n (tp_unmap s n base).ticket).released
