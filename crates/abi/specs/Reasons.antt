-- WHAT C'S NUMBERS SAY: what each answer says of the operation's, and when each reason is given. The numbers are in ReasonNumbers; the laws are
-- in proofs/Reasons.antt, proofs/Says.antt and proofs/Causes.antt.
use Rattle.std.specs.Prelude.{ℕ, ◌/◌, ◌%◌, ◌^◌, ◌<◌, ◌≤◌, Bool, true, false, ◌↔◌, ◌⊎◌, ◌≢◌, ◌≡◌, Result, Ok, Err}
use Rattle.tablepath.specs.declared.NotReleased.TheVariants as notreleased
use Rattle.tablepath.specs.declared.NotReleased.{NotReleased}
use Rattle.pool.specs.declared.moment.Counts.{Counts as PoolCounts}
use Rattle.tablepath.specs.declared.Gone.{Gone}
use Rattle.tablepath.specs.declared.Altered.{Altered}
use Rattle.walk.specs.Walk.{canonical}
use Rattle.walk.specs.declared.Found.{Found}
use Rattle.walk.specs.declared.Found.TheVariants as found
use Rattle.tables.specs.Roles.{Role}
use Rattle.pool.specs.Book.{ticket_of}
use Rattle.pool.specs.declared.Book.{Book}
use Rattle.pool.specs.declared.Reason as in_pool
use Rattle.pool.specs.declared.Reason.TheVariants.{OriginUnaligned, LengthUnaligned}
use Rattle.pool.specs.Booked.{tables_of}
use Rattle.plan.specs.declared.Reason.{Reason}
use Rattle.plan.specs.declared.Reason.TheVariants.{BaseRange, NothingStarts, WriteExecute}
use Rattle.plan.specs.Map.{shape_of}
use Rattle.plan.specs.Rights.{write_execute}
use Rattle.abi.specs.ReasonNumbers as why
use Rattle.abi.specs.ReasonNumbers.{reason_of, pool_reason, number_of, pool_unaligned, root_unaligned}
use Rattle.abi.specs.Relied as c
use Rattle.abi.specs.Relied.{Numbers, Call, space_of, granted}
use Rattle.abi.specs.declared.answers.Created.{Created}
use Rattle.abi.specs.declared.answers.Mapped.{Mapped}
use Rattle.abi.specs.declared.answers.Unmapped.{Unmapped}
use Rattle.abi.specs.declared.answers.Protected.{Protected}
use Rattle.abi.specs.declared.answers.Told.{Told}
use Rattle.abi.specs.declared.answers.Counts.{Counts}
use Rattle.abi.specs.declared.answers.LookedUp.{LookedUp}

-- What an answer x says: that the operation's own answer was a. Known: it has no other number -----------------------------------------------

pub record CreateSays (x : Created) (a : Result ℕ in_pool.Reason) : Type 0 where
  pub done : x.reason ≡ 0 → a ≡ Ok (x.root / 4096)
  pub refused : (y : in_pool.Reason) → x.reason ≡ pool_reason y → a ≡ Err y
  pub known : (x.reason ≡ 0) ⊎ ((y : in_pool.Reason) × (x.reason ≡ pool_reason y))

pub record MapSays (x : Mapped) (a : Result ℕ Reason) : Type 0 where
  pub done : x.reason ≡ 0 → a ≡ Ok x.tables
  pub refused : (y : Reason) → x.reason ≡ reason_of y → a ≡ Err y
  pub known : (x.reason ≡ 0) ⊎ ((y : Reason) × (x.reason ≡ reason_of y))

pub record UnmapSays (x : Unmapped) (a : Result Gone Reason) : Type 0 where
  pub done : x.reason ≡ 0 → a ≡ Ok (record { frame = x.frame; size = x.size; aside = x.aside; ticket = x.ticket })
  pub refused : (y : Reason) → x.reason ≡ reason_of y → a ≡ Err y
  pub known : (x.reason ≡ 0) ⊎ ((y : Reason) × (x.reason ≡ reason_of y))

pub record ProtectSays (x : Protected) (a : Result Altered Reason) : Type 0 where
  pub done : x.reason ≡ 0 → a ≡ Ok (record { frame = x.frame; size = x.size; ticket = x.ticket })
  pub refused : (y : Reason) → x.reason ≡ reason_of y → a ≡ Err y
  pub known : (x.reason ≡ 0) ⊎ ((y : Reason) × (x.reason ≡ reason_of y))

pub record ToldSays (x : Told) (a : Result ℕ NotReleased) : Type 0 where
  pub done : x.reason ≡ 0 → a ≡ Ok x.released
  pub unknown : x.reason ≡ number_of why.unknown → a ≡ Err notreleased.Unknown
  pub spent : x.reason ≡ number_of why.spent → a ≡ Err notreleased.Spent
  pub refused : (y : in_pool.Reason) → x.reason ≡ pool_reason y → a ≡ Err (notreleased.Pool y)
  pub known : (x.reason ≡ 0) ⊎ (x.reason ≡ number_of why.unknown) ⊎ (x.reason ≡ number_of why.spent) ⊎ ((y : in_pool.Reason) × (x.reason ≡ pool_reason y))

pub record StateSays (x : Counts) (a : Result PoolCounts in_pool.Reason) : Type 0 where
  pub done : x.reason ≡ 0 → a ≡ Ok (record { pages = x.pages; free = x.free; aside = x.aside; tables = x.tables; ticket = x.ticket })
  pub refused : (y : in_pool.Reason) → x.reason ≡ pool_reason y → a ≡ Err y
  pub known : (x.reason ≡ 0) ⊎ ((y : in_pool.Reason) × (x.reason ≡ pool_reason y))

pub record LookUpSays (x : LookedUp) (a : Found) : Type 0 where
  pub nothing : x.kind ≡ 0 → a ≡ found.Nothing
  pub page : x.kind ≡ 1 → a ≡ found.Page x.base x.size x.frame (granted x.rights)
  pub outside : x.kind ≡ 2 → a ≡ found.Outside
  pub no_address : x.kind ≡ 5 → a ≡ found.NoAddress
  pub known : (x.kind ≤ 2) ⊎ (x.kind ≡ 5)
  pub bare : x.kind ≢ 1 → (x.base ≡ 0) × (x.size ≡ 0) × (x.frame ≡ 0) × (x.rights ≡ 0)

-- When each number is given, in a space that is whole -----------------------------------------------------------------------------------

-- by map: rights that mean nothing before all else; then each exactly for its cause, and no other number
pub record MapReasons (n rights : ℕ) (cause : Reason → Type 0) : Type 0 where
  pub rights_mean : (n ≡ number_of why.rights) ↔ (8 ≤ rights)
  pub refused : (y : Reason) → (n ≡ reason_of y) ↔ ((rights < 8) × cause y)
  pub known : rights < 8 → (n ≡ 0) ⊎ ((y : Reason) × (n ≡ reason_of y))

-- by unmap: whether the base is an address, and whether a page starts there
pub record StartReasons (n base : ℕ) (starts : Type 0) : Type 0 where
  pub done : (n ≡ 0) ↔ starts
  pub base_range : (n ≡ reason_of BaseRange) ↔ (canonical base ≡ false)
  pub nothing_starts : (n ≡ reason_of NothingStarts) ↔ ((canonical base ≡ true) × (¬ starts))

-- rights that mean something, and are not both writable and executable
abbrev pub Grantable : ℕ → Type 0
Grantable rights = (rights < 8) × (write_execute (granted rights) ≡ false)

-- by protect: the rights, then the same
pub record ProtectReasons (n rights base : ℕ) (starts : Type 0) : Type 0 where
  pub rights_mean : (n ≡ number_of why.rights) ↔ (8 ≤ rights)
  pub write_execute_lem : (n ≡ reason_of WriteExecute) ↔ ((rights < 8) × (write_execute (granted rights) ≡ true))
  pub done : (n ≡ 0) ↔ (Grantable rights × starts)
  pub base_range : (n ≡ reason_of BaseRange) ↔ (Grantable rights × (canonical base ≡ false))
  pub nothing_starts : (n ≡ reason_of NothingStarts) ↔ (Grantable rights × ((canonical base ≡ true) × (¬ starts)))

-- by told, with this book: whether the ticket was handed out, and whether it is one of the first 2^62
pub record ToldReasons (n : ℕ) (b : Book) (ticket : ℕ) : Type 0 where
  pub done : (n ≡ 0) ↔ ((ticket ≤ ticket_of b) × (ticket ≤ 2 ^ 62))
  pub unknown : (n ≡ number_of why.unknown) ↔ (ticket_of b < ticket)
  pub spent : (n ≡ number_of why.spent) ↔ ((ticket ≤ ticket_of b) × (2 ^ 62 < ticket))

-- WHAT tp_raw_state ANSWERS, with this book and these roles: it is never refused, and each number is what it says
pub record StateCounts (x : Counts) (n : Numbers) (b : Book) (role : ℕ → Role) : Type 0 where
  pub done : x.reason ≡ 0
  pub pages_are : x.pages ≡ n.pages
  pub free_are : x.free ≡ b.free
  pub aside_are : x.aside ≡ b.aside
  pub tables_are : x.tables ≡ tables_of (space_of n) role
  pub ticket_is : x.ticket ≡ ticket_of b

-- Numbers that name no space, whatever the bytes -----------------------------------------------------------------------------------------

-- map's size, alignments and ranges fit; of the others there are none
abbrev pub WellShaped : Call → Type 0
WellShaped (c.map base frame size w) = (l : ℕ) × (shape_of size base frame ≡ Ok l)
WellShaped (c.unmap base) = Unit {0}
WellShaped (c.protect base w) = Unit {0}
WellShaped (c.told ticket) = Unit {0}

-- it asks for a page that is writable and executable, or not: map and protect look at that next, and at nothing else before the space
abbrev pub AsksBoth : Bool → Call → Type 0
AsksBoth b (c.map base frame size w) = write_execute (granted w) ≡ b
AsksBoth b (c.unmap base) = b ≡ false
AsksBoth b (c.protect base w) = write_execute (granted w) ≡ b
AsksBoth b (c.told ticket) = b ≡ false

pub record SiteReasons (k : ℕ) (n : Numbers) : Type 0 where
  pub pool_unaligned : n.pool % 4096 ≢ 0 → k ≡ number_of pool_unaligned
  pub root_unaligned : n.pool % 4096 ≡ 0 → n.root % 4096 ≢ 0 → k ≡ number_of root_unaligned

pub record CreateReasons (k len origin pool : ℕ) : Type 0 where
  pub origin_unaligned : origin % 4096 ≢ 0 → k ≡ pool_reason OriginUnaligned
  pub length_unaligned : origin % 4096 ≡ 0 → len % 4096 ≢ 0 → k ≡ pool_reason LengthUnaligned
  pub pool_unaligned : origin % 4096 ≡ 0 → len % 4096 ≡ 0 → pool % 4096 ≢ 0 → k ≡ number_of pool_unaligned
