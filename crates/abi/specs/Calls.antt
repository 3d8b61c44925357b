-- What each call answers and leaves, as functions of the bytes at entry and the numbers that were given. A space is refused by the number
-- of its reason; what is then left are the bytes at entry.
use Rattle.std.specs.Prelude.{ℕ, ◌/◌, ◌%◌, cond, List, [], ◌≡◌, eqb, ltb, length, Option, Result, None, Ok, Err}
use Rattle.plan.specs.declared.Reason.{Reason}
use Rattle.word.specs.Writes.{Write, Wrote, carried}
use Rattle.entry.specs.declared.Rights.{Rights}
use Rattle.walk.specs.Walk.{walk}
use Rattle.pool.specs.State.{state_of}
use Rattle.pool.specs.declared.Space.{Space}
use Rattle.pool.specs.declared.Reason.TheVariants.{OriginUnaligned, LengthUnaligned}
use Rattle.plan.specs.Map.{allowed_of, decide_of}
use Rattle.plan.specs.AtOnce as plan
use Rattle.plan.specs.Rights.{write_execute}
use Rattle.plan.specs.declared.Reason.TheVariants.{WriteExecute}
use Rattle.plan.specs.declared.maps.Asked.{Asked}
use Rattle.tablepath.specs.Answers as the
use Rattle.tablepath.specs.Looks.{in_window}
use Rattle.abi.specs.ReasonNumbers as why
use Rattle.abi.specs.ReasonNumbers.{reason_of, pool_reason, number_of, pool_unaligned, root_unaligned}
use Rattle.abi.specs.Answers.{rights_in, created_to_c, mapped_to_c, unmapped_to_c, protected_to_c, told_to_c, uncounted, counted_to_c, looked_up_to_c}
use Rattle.abi.specs.declared.answers.Created.{Created}
use Rattle.abi.specs.declared.answers.Mapped.{Mapped}
use Rattle.abi.specs.declared.answers.Unmapped.{Unmapped}
use Rattle.abi.specs.declared.answers.Protected.{Protected}
use Rattle.abi.specs.declared.answers.Told.{Told}
use Rattle.abi.specs.declared.answers.Counts.{Counts}
use Rattle.abi.specs.declared.answers.LookedUp.{LookedUp}

-- Spaces, in bytes --------------------------------------------------------------------------------------------------------------

unfoldable pub site_of : ℕ → ℕ → ℕ → ℕ → Result Space ℕ
site_of origin pool pages root =
    cond (eqb (pool % 4096) 0)
    (cond (eqb (root % 4096) 0)
    (Ok (record { origin = origin; first = pool / 4096; pages = pages; root = root / 4096 }))
    (Err (number_of root_unaligned)))
    (Err (number_of pool_unaligned))

unfoldable pub shaped_site : Result ℕ Reason → Result Space ℕ → Result Space ℕ
shaped_site (Ok n) s = s
shaped_site (Err y) s = Err (reason_of y)

-- for map, what is asked is looked at first
unfoldable pub asked_site : ℕ → ℕ → ℕ → ℕ → Asked → Result Space ℕ
asked_site origin pool pages root q = shaped_site (allowed_of q) (site_of origin pool pages root)

-- where there is no space, for the reason y
unfoldable pub misplaced_by : ℕ → Result ℕ Reason → ℕ
misplaced_by y (Ok n) = y
misplaced_by y (Err r) = reason_of r

unfoldable pub misplaced_of : Asked → ℕ → ℕ
misplaced_of q y = misplaced_by y (allowed_of q)

abbrev pub ask : ℕ → ℕ → ℕ → ℕ → Asked
ask base frame size rights = record { base = base; frame = frame; size = size; rights = rights_in rights }

-- before all else, map and protect look at the rights: bits above the third mean nothing
unfoldable pub rights_site : ℕ → Result Space ℕ → Result Space ℕ
rights_site rights s = cond (ltb rights 8) s (Err (number_of why.rights))

abbrev pub map_site : ℕ → ℕ → ℕ → ℕ → ℕ → ℕ → ℕ → ℕ → Result Space ℕ
map_site origin pool pages root base frame size rights = rights_site rights (asked_site origin pool pages root (ask base frame size rights))

-- and protect, behind that, whether the page would be writable and executable; map looks at that behind its ranges
unfoldable pub strict_site : ℕ → Result Space ℕ → Result Space ℕ
strict_site rights s = cond (write_execute (rights_in rights)) (Err (reason_of WriteExecute)) s

abbrev pub protect_site : ℕ → ℕ → ℕ → ℕ → ℕ → Result Space ℕ
protect_site origin pool pages root rights = rights_site rights (strict_site rights (site_of origin pool pages root))

-- Bytes and writes -----------------------------------------------------------------------------------------------------------------

-- what these writes of a space leave; where there is no space, nothing is written
unfoldable pub bytes_after : List ℕ → Result Space ℕ → (Space → List Write) → List ℕ
bytes_after s (Ok sp) ws = carried s sp.origin (ws sp)
bytes_after s (Err y) ws = s

-- and they are done in this order, so many as are left: from the bytes s to the bytes t
abbrev pub InOrder : Result Space ℕ → (Space → List Write) → ℕ → ℕ → List ℕ → List ℕ → Type 0
InOrder (Ok sp) ws left rest s t = Wrote sp.origin (ws sp) left rest s t
InOrder (Err y) ws left rest s t = (t ≡ s) × (rest ≡ left)

-- Create ------------------------------------------------------------------------------------------------------------------------

unfoldable pub create_answer : List ℕ → ℕ → ℕ → ℕ → Created
create_answer s origin pool pages =
    cond (eqb (origin % 4096) 0)
    (cond (eqb (length s % 4096) 0)
    (cond (eqb (pool % 4096) 0)
    (created_to_c (the.create_answer s origin (pool / 4096) pages))
    (record { reason = number_of pool_unaligned; root = 0 }))
    (record { reason = pool_reason LengthUnaligned; root = 0 }))
    (record { reason = pool_reason OriginUnaligned; root = 0 })

unfoldable pub create_writes : List ℕ → ℕ → ℕ → ℕ → List Write
create_writes s origin pool pages =
    cond (eqb (origin % 4096) 0)
    (cond (eqb (length s % 4096) 0)
    (cond (eqb (pool % 4096) 0) (the.create_writes s origin (pool / 4096) pages) [])
    [])
    []

abbrev pub create_bytes : List ℕ → ℕ → ℕ → ℕ → List ℕ
create_bytes s origin pool pages = carried s origin (create_writes s origin pool pages)

-- Map ---------------------------------------------------------------------------------------------------------------------------

unfoldable pub map_answer : List ℕ → Asked → Result Space ℕ → Mapped
map_answer s q (Ok sp) = mapped_to_c (in_window s sp.origin the.map_answer sp q)
map_answer s q (Err y) = record { reason = y; tables = 0 }

abbrev pub map_writes : List ℕ → Asked → Space → List Write
map_writes s q sp = in_window s sp.origin the.map_writes sp q

abbrev pub map_bytes : List ℕ → Asked → Result Space ℕ → List ℕ
map_bytes s q x = bytes_after s x (map_writes s q)

-- what is done at once in a space is what was decided; where there is none, it changes nothing and says nothing
abbrev pub AtOnce : ℕ → ℕ → List ℕ → List ℕ → Asked → Result Space ℕ → Option (Result ℕ Reason) → Type 0
AtOnce left rest s after q (Ok sp) o = plan.AtOnce left rest s after sp (in_window s sp.origin decide_of sp q) o
AtOnce left rest s after q (Err y) o = (o ≡ None) × (after ≡ s) × (rest ≡ left)

-- Unmap -------------------------------------------------------------------------------------------------------------------------

unfoldable pub unmap_answer : List ℕ → ℕ → Result Space ℕ → Unmapped
unmap_answer s base (Ok sp) = unmapped_to_c (in_window s sp.origin the.unmap_answer sp base)
unmap_answer s base (Err y) = record { reason = y; frame = 0; size = 0; aside = 0; ticket = 0 }

abbrev pub unmap_writes : List ℕ → ℕ → Space → List Write
unmap_writes s base sp = in_window s sp.origin the.unmap_writes sp base

abbrev pub unmap_bytes : List ℕ → ℕ → Result Space ℕ → List ℕ
unmap_bytes s base x = bytes_after s x (unmap_writes s base)

-- Protect -----------------------------------------------------------------------------------------------------------------------

unfoldable pub protect_answer : List ℕ → ℕ → Rights → Result Space ℕ → Protected
protect_answer s base r (Ok sp) = protected_to_c (in_window s sp.origin the.protect_answer sp base r)
protect_answer s base r (Err y) = record { reason = y; frame = 0; size = 0; ticket = 0 }

abbrev pub protect_writes : List ℕ → ℕ → Rights → Space → List Write
protect_writes s base r sp = in_window s sp.origin the.protect_writes sp base r

abbrev pub protect_bytes : List ℕ → ℕ → Rights → Result Space ℕ → List ℕ
protect_bytes s base r x = bytes_after s x (protect_writes s base r)

-- Told --------------------------------------------------------------------------------------------------------------------------

unfoldable pub told_answer : List ℕ → ℕ → Result Space ℕ → Told
told_answer s ticket (Ok sp) = told_to_c (in_window s sp.origin the.told_answer sp ticket)
told_answer s ticket (Err y) = record { reason = y; released = 0 }

abbrev pub told_writes : List ℕ → ℕ → Space → List Write
told_writes s ticket sp = in_window s sp.origin the.told_writes sp ticket

abbrev pub told_bytes : List ℕ → ℕ → Result Space ℕ → List ℕ
told_bytes s ticket x = bytes_after s x (told_writes s ticket)

-- State -------------------------------------------------------------------------------------------------------------------------

unfoldable pub state_answer : List ℕ → Result Space ℕ → Counts
state_answer s (Ok sp) = counted_to_c (in_window s sp.origin state_of sp)
state_answer s (Err y) = uncounted y

-- Look-up -----------------------------------------------------------------------------------------------------------------------

-- the root is given as in CR3
abbrev pub look_up_answer : List ℕ → ℕ → ℕ → ℕ → LookedUp
look_up_answer s origin root va = looked_up_to_c (in_window s origin walk root va)
