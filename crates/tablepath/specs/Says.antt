-- WHAT THE ANSWERS SAY: of map, unmap, protect, told and look-up in a space that is whole, over any memory; of create and of every refusal, for any bytes.
use Rattle.std.specs.Prelude.{ℕ, ◌+◌, ◌%◌, ◌^◌, ◌<◌, ◌≤◌, Bool, true, false, List, ◌↔◌, ◌⊎◌, ◌≢◌, ◌≡◌, length, Result, Ok, Err}
use Rattle.tablepath.specs.declared.NotReleased.TheVariants as notreleased
use Rattle.tablepath.specs.declared.NotReleased.{NotReleased}
use Rattle.word.specs.Memory.{holds}
use Rattle.word.specs.Writes.{carried}
use Rattle.entry.specs.Kept.{SameButRights}
use Rattle.entry.specs.declared.Rights.{Rights}
use Rattle.walk.specs.Walk.{canonical}
use Rattle.walk.specs.declared.Found.{Found}
use Rattle.walk.specs.declared.Found.TheVariants as found
use Rattle.tables.specs.Roles.{Role, free, aside, Apart}
use Rattle.pool.specs.Layout.{book_pages}
use Rattle.pool.specs.Book.{book_of, page_at, ticket_of, opened_of, due_of}
use Rattle.pool.specs.Booked.{setting_of, Taken, Numbered, tables_of, new_role}
use Rattle.pool.specs.Create.{new_space}
use Rattle.pool.specs.declared.Space.{Space}
use Rattle.pool.specs.declared.Book.{Book}
use Rattle.pool.specs.declared.Reason.{Reason as PoolReason}
use Rattle.pool.specs.declared.Reason.TheVariants.{OriginUnaligned, LengthUnaligned, PoolLarge, PoolSmall, PoolOutside}
use Rattle.plan.specs.declared.Reason.{Reason}
use Rattle.plan.specs.declared.maps.Asked.{Asked}
use Rattle.plan.specs.Rights.{write_execute}
use Rattle.effect.specs.Whole.{Whole}
use Rattle.effect.specs.MapDone.{Fitted, Misses}
use Rattle.effect.specs.MapRefused.{Cause}
use Rattle.effect.specs.StartsAt.{StartsAt, NotThere, NotProtected}
use Rattle.effect.specs.UnmapDone.{SetAside}
use Rattle.tablepath.specs.declared.Gone.{Gone}
use Rattle.tablepath.specs.declared.Altered.{Altered}
use Rattle.tablepath.specs.Answers.{create_answer, create_writes, map_answer, map_writes, unmap_answer, unmap_writes, protect_answer, protect_writes, told_answer, told_writes}
use Rattle.tablepath.specs.Calls.{means}
use Rattle.tablepath.specs.Looks.{in_window, look_up, In, WholeBytes}

-- Before and after: the pages in the window h and h', the words m and m'; role is what each page was.
module _ (h h' : ℕ → Bool) (sp : Space) (m m' : ℕ → ℕ) (role : ℕ → Role) where
  -- every address of the range means o now, and every other what it did
  pub record Turned (base size : ℕ) (o : Found) : Type 0 where
    pub inside : (va : ℕ) → In base size va → means h' sp m' va ≡ o
    pub beside : (va : ℕ) → ¬ In base size va → means h' sp m' va ≡ means h sp m va

  -- Map ------------------------------------------------------------------------------------------------------------------------

  -- MAP ANSWERED that it made k tables
  pub record MapMade (q : Asked) (k : ℕ) : Type 0 where
    -- every address of the range has the page that was asked
    pub turned : Turned q.base q.size (found.Page q.base q.size q.frame q.rights)
    -- the pages' roles now
    pub role' : ℕ → Role
    -- the space is whole
    pub whole : Whole h' sp m' role'
    -- there are k tables more
    pub tables : tables_of sp role' ≡ tables_of sp role + k
    -- and k free pages fewer
    pub fewer : (book_of m sp).free ≡ (book_of m' sp).free + k
    -- they were the k oldest free ones; no other page has another role
    pub taken : Taken (page_at m sp) k role role'
    -- the level of the page that was asked: its size is one of the three, aligned and in range
    pub level : ℕ
    pub fitted : Fitted level q
    -- k levels were missing on the way to it
    pub missing : Misses (setting_of h sp) m q.base level k
    -- at most three
    pub few : k ≤ 3

  pub record MapSays (q : Asked) (r : Result ℕ Reason) : Type 0 where
    -- it refuses for a reason exactly where the cause of that reason holds
    pub refused : (y : Reason) → (r ≡ Err y) ↔ Cause h sp m q y
    -- it is done exactly where there is no cause
    pub done : ((k : ℕ) × (r ≡ Ok k)) ↔ ((y : Reason) → ¬ Cause h sp m q y)
    -- and what it answers then is the number of tables that were made
    pub made : (k : ℕ) → r ≡ Ok k → MapMade q k

  -- Unmap ----------------------------------------------------------------------------------------------------------------------

  -- UNMAP ANSWERED g
  pub record UnmapGone (va : ℕ) (g : Gone) : Type 0 where
    -- the page that was there, with some rights, had this frame and this size
    pub had : Rights
    pub before : means h sp m va ≡ found.Page va g.size g.frame had
    -- every address of it means nothing
    pub turned : Turned va g.size found.Nothing
    -- the pages' roles now
    pub role' : ℕ → Role
    -- the space is whole
    pub whole : Whole h' sp m' role'
    -- each page is what it was, or was a table and is set aside, with a number from the old ticket on
    pub fate : (p : ℕ) → (role' p ≡ role p) ⊎ SetAside sp role role' m' (ticket_of (book_of m sp)) (ticket_of (book_of m sp) + g.aside) p
    -- so many tables fewer
    pub tables : tables_of sp role ≡ tables_of sp role' + g.aside
    -- so many pages more are set aside
    pub more : (book_of m' sp).aside ≡ (book_of m sp).aside + g.aside
    -- the ticket is that of the moment after it
    pub ticket : g.ticket ≡ ticket_of (book_of m' sp)
    -- reported, it releases all that is set aside until then, exactly while tickets are left
    pub releases : (told_answer h' m' sp g.ticket ≡ Ok (book_of m' sp).aside) ↔ (g.ticket ≤ 2 ^ 62)

  pub record UnmapSays (va : ℕ) (r : Result Gone Reason) : Type 0 where
    -- it refuses exactly where no page is found: va is no address, or none starts there
    pub refused : (y : Reason) → (r ≡ Err y) ↔ NotThere (setting_of h sp) m va y
    -- it is done exactly where one starts
    pub done : ((g : Gone) × (r ≡ Ok g)) ↔ StartsAt (setting_of h sp) m va
    -- and what it answers then is so
    pub gone : (g : Gone) → r ≡ Ok g → UnmapGone va g

  -- Protect --------------------------------------------------------------------------------------------------------------------

  -- PROTECT ANSWERED g
  pub record ProtectSame (va : ℕ) (rights : Rights) (g : Altered) : Type 0 where
    -- the page that was there, with some rights, had this frame and this size
    pub had : Rights
    pub before : means h sp m va ≡ found.Page va g.size g.frame had
    -- every address of it has the new rights
    pub turned : Turned va g.size (found.Page va g.size g.frame rights)
    -- the space is whole, each page with its role
    pub whole : Whole h' sp m' role
    -- of every word but for the rights all is as it was, the machine's marks too
    pub kept : (x : ℕ) → SameButRights (m' x) (m x)
    -- the ticket is that of the moment after it, which is that of the moment before
    pub ticket : (g.ticket ≡ ticket_of (book_of m' sp)) × (g.ticket ≡ ticket_of (book_of m sp))

  pub record ProtectSays (va : ℕ) (rights : Rights) (r : Result Altered Reason) : Type 0 where
    -- it refuses exactly where the page would be writable and executable, and then, as unmap, where none is found
    pub refused : (y : Reason) → (r ≡ Err y) ↔ NotProtected (setting_of h sp) m va rights y
    -- it is done exactly where one starts and it would not
    pub done : ((g : Altered) × (r ≡ Ok g)) ↔ ((write_execute rights ≡ false) × StartsAt (setting_of h sp) m va)
    -- and what it answers then is so
    pub same : (g : Altered) → r ≡ Ok g → ProtectSame va rights g

  -- Told -----------------------------------------------------------------------------------------------------------------------

  -- TOLD ANSWERED that it released k pages
  pub record ToldReleased (t k : ℕ) : Type 0 where
    -- the pages' roles now
    pub role' : ℕ → Role
    -- the space is whole
    pub whole : Whole h' sp m' role'
    -- k free pages more
    pub more : (book_of m' sp).free ≡ (book_of m sp).free + k
    -- k pages fewer are set aside
    pub fewer : (book_of m sp).aside ≡ (book_of m' sp).aside + k
    -- those whose number is below the ticket became free: of a ticket between two that were handed out, too
    pub frees : (p n : ℕ) → Numbered m sp p n → n < t → role' p ≡ free
    -- the others stay set aside, with their numbers
    pub stays : (p n : ℕ) → Numbered m sp p n → t ≤ n → (role' p ≡ aside) × Numbered m' sp p n
    -- and no other page has another role
    pub others : (p : ℕ) → role p ≢ aside → role' p ≡ role p

  pub record ToldSays (t : ℕ) (r : Result ℕ NotReleased) : Type 0 where
    -- unknown: exactly a ticket above the present one; one below it need not have been handed out
    pub unknown : (r ≡ Err notreleased.Unknown) ↔ (ticket_of (book_of m sp) < t)
    -- spent: exactly one that is not, and with which the numbers would run out
    pub spent : (r ≡ Err notreleased.Spent) ↔ ((t ≤ ticket_of (book_of m sp)) × (2 ^ 62 < t))
    -- done with exactly all others
    pub done : ((k : ℕ) × (r ≡ Ok k)) ↔ ((t ≤ ticket_of (book_of m sp)) × (t ≤ 2 ^ 62))
    -- the book is never refused
    pub never : (y : PoolReason) → r ≢ Err (notreleased.Pool y)
    -- no address means anything else
    pub same : (va : ℕ) → means h' sp m' va ≡ means h sp m va
    -- and what it answers is the number of pages that were released
    pub released : (k : ℕ) → r ≡ Ok k → ToldReleased t k

-- Look-up and state ----------------------------------------------------------------------------------------------------------------

-- LOOK-UP ANSWERED o for the number va
pub record LookUpSays (h : ℕ → Bool) (sp : Space) (va : ℕ) (o : Found) : Type 0 where
  -- it says that va is no address exactly where it is none
  pub no_address : (o ≡ found.NoAddress) ↔ (canonical va ≡ false)
  -- the way does not leave the window
  pub never : o ≢ found.Outside
  -- the address lies in the page, and the frame apart from the pool
  pub page : (base size frame : ℕ) (rights : Rights) → o ≡ found.Page base size frame rights → In base size va × Apart (setting_of h sp) frame size

-- For any bytes -----------------------------------------------------------------------------------------------------------------

-- TOLD, of any memory
pub record ToldOpened (h : ℕ → Bool) (m : ℕ → ℕ) (sp : Space) (t : ℕ) : Type 0 where
  -- it refuses exactly where the book does not open, for that reason
  pub refused : (y : PoolReason) → (told_answer h m sp t ≡ Err (notreleased.Pool y)) ↔ (opened_of h m sp ≡ Err y)
  -- it releases pages exactly where the book opened and so many are due
  pub released : (k : ℕ) → (told_answer h m sp t ≡ Ok k) ↔ ((b : Book) × (opened_of h m sp ≡ Ok b) × (due_of b t ≡ Ok k))

-- the window begins and ends at page boundaries
abbrev pub AlignedWindow : List ℕ → ℕ → Type 0
AlignedWindow s origin = (origin % 4096 ≡ 0) × (length s % 4096 ≡ 0)

-- CREATE: why it refuses: one cause for each reason, in the order of the tests
pub data CreateCause (s : List ℕ) (origin first pages : ℕ) : PoolReason → Type 0 where
  -- the window does not begin at a page boundary
  origin_unaligned : origin % 4096 ≢ 0 → CreateCause s origin first pages OriginUnaligned
  -- it does not end at one
  length_unaligned : origin % 4096 ≡ 0 → length s % 4096 ≢ 0 → CreateCause s origin first pages LengthUnaligned
  -- the pool has too many pages to be counted
  large : AlignedWindow s origin → 2 ^ 32 < pages → CreateCause s origin first pages PoolLarge
  -- it has no room for the book, a root and a page more
  small : AlignedWindow s origin → pages ≤ 2 ^ 32 → pages < book_pages pages + 2 → CreateCause s origin first pages PoolSmall
  -- some page of it is not in the window
  outside : AlignedWindow s origin → pages ≤ 2 ^ 32 → book_pages pages + 2 ≤ pages → (p : ℕ) → first ≤ p → p < first + pages → holds s origin p ≡ false
      → CreateCause s origin first pages PoolOutside

-- CREATE, of the bytes s at entry and s' at exit
pub record CreateSays (s s' : List ℕ) (origin first pages : ℕ) (r : Result ℕ PoolReason) : Type 0 where
  -- it refuses for a reason exactly where the cause of that reason holds
  pub refused : (y : PoolReason) → (r ≡ Err y) ↔ CreateCause s origin first pages y
  -- and then leaves every byte
  pub leaves : (y : PoolReason) → r ≡ Err y → s' ≡ s
  -- it answers the page behind the book exactly where there is no cause, and no other page ever
  pub done : (p : ℕ) → (r ≡ Ok p) ↔ (((y : PoolReason) → ¬ CreateCause s origin first pages y) × (p ≡ first + book_pages pages))
  -- then the space is whole, with every page behind the root free
  pub whole : (p : ℕ) → r ≡ Ok p → WholeBytes s' (new_space origin first pages) (new_role (new_space origin first pages))
  -- and no address is mapped
  pub empty : (p : ℕ) → r ≡ Ok p → (va : ℕ) → canonical va ≡ true → look_up s' (new_space origin first pages) va ≡ found.Nothing

-- what told answers besides pages released: refusals, all three
abbrev pub Declined : Result ℕ NotReleased → Type 0
Declined (Ok k) = ⊥
Declined (Err notreleased.Unknown) = Unit {0}
Declined (Err notreleased.Spent) = Unit {0}
Declined (Err (notreleased.Pool y)) = Unit {0}

-- A REFUSAL LEAVES EVERY BYTE: where the answer is one, the window after the operation is the window s before it
pub record RefusalLeaves (s : List ℕ) : Type 0 where
  pub create : (origin first pages : ℕ) (y : PoolReason) → create_answer s origin first pages ≡ Err y
      → carried s origin (create_writes s origin first pages) ≡ s
  pub map : (sp : Space) (q : Asked) (y : Reason) → in_window s sp.origin map_answer sp q ≡ Err y
      → carried s sp.origin (in_window s sp.origin map_writes sp q) ≡ s
  pub unmap : (sp : Space) (va : ℕ) (y : Reason) → in_window s sp.origin unmap_answer sp va ≡ Err y
      → carried s sp.origin (in_window s sp.origin unmap_writes sp va) ≡ s
  pub protect : (sp : Space) (va : ℕ) (r : Rights) (y : Reason) → in_window s sp.origin protect_answer sp va r ≡ Err y
      → carried s sp.origin (in_window s sp.origin protect_writes sp va r) ≡ s
  pub told : (sp : Space) (t : ℕ) → Declined (in_window s sp.origin told_answer sp t)
      → carried s sp.origin (in_window s sp.origin told_writes sp t) ≡ s
