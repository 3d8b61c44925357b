-- The book of a pool, in the pool's first pages; Layout.antt says which word of it is what. Word k is entry k % 512 of the pool's page k / 512.
-- The slots are a ring. From the head on it lists the free pages, oldest first, and right behind them the pages set aside, oldest first.
-- Everything here is over a memory m, with h: which pages lie in the window.
use Rattle.std.specs.Prelude.{ℕ, ◌+◌, ◌-◌, ◌*◌, ◌/◌, ◌%◌, ◌^◌, ◌<◌, ◌≤◌, Bool, cond, not, ◌&&◌, ◌==◌, nat_le, nat_lt, Option, Result, Some, None, Ok, Err}
use Rattle.pool.specs.declared.NotDue.TheVariants as notdue
use Rattle.pool.specs.declared.Reason.{Reason}
use Rattle.pool.specs.declared.NotDue.{NotDue}
use Rattle.pool.specs.declared.Space.{Space}
use Rattle.pool.specs.declared.Book.{Book}
use Rattle.pool.specs.declared.Reason.TheVariants.{PoolLarge, PoolSmall, PoolOutside, BadRoot, NoBook, OtherBook, BadBook}
use Rattle.pool.specs.Layout.{signature_at, pages_at, root_at, head_at, free_at, aside_at, tickets_at, slot_at, book_pages}

-- the number of word k of the book, in memory
abbrev pub word_of : Space → ℕ → ℕ
word_of sp k = 512 * sp.first + k

-- "the-book" in ASCII
abbrev pub signature : ℕ
signature = 7741528751932270708

-- the header's counts
abbrev pub book_of : (ℕ → ℕ) → Space → Book
book_of m sp = record { head = m (word_of sp head_at); free = m (word_of sp free_at); aside = m (word_of sp aside_at); tickets = m (word_of sp tickets_at) }

-- the slot k positions behind the head, on a ring of so many slots
unfoldable pub slot_of : ℕ → ℕ → ℕ → ℕ
slot_of pages head k = cond (nat_lt k (pages - head)) (head + k) (k - (pages - head))

-- the page at position k
unfoldable pub page_at : (ℕ → ℕ) → Space → ℕ → ℕ
page_at m sp k = m (word_of sp (slot_at (slot_of sp.pages (book_of m sp).head k)))

-- What is tested --------------------------------------------------------------------------------------------------------------

-- a pool that can be counted, has room for its book, a root and a page more, and lies in the window
unfoldable pub room_of : (ℕ → Bool) → ℕ → ℕ → Result (Unit {0}) Reason
room_of h first pages =
    cond (nat_le pages (2 ^ 32))
    (cond (nat_le (book_pages pages + 2) pages)
    (cond (h first && h (first + pages - 1)) (Ok tt) (Err PoolOutside))
    (Err PoolSmall))
    (Err PoolLarge)

-- a page of the pool behind its book
unfoldable pub in_pool : Space → ℕ → Bool
in_pool sp p = nat_le (sp.first + book_pages sp.pages) p && nat_lt p (sp.first + sp.pages)

-- counts that the book of a pool of so many pages can have
unfoldable pub adds_up_of : ℕ → Book → Bool
adds_up_of pages b =
    (nat_le pages (2 ^ 32) && nat_lt b.head pages) && (nat_le (b.free + b.aside + book_pages pages + 1) pages && nat_le b.tickets (2 ^ 62))

-- the same, as numbers
pub record AddsUp (pages : ℕ) (b : Book) : Type 0 where
  pub small : pages ≤ 2 ^ 32
  pub head_in : b.head < pages
  pub room : b.free + b.aside + book_pages pages + 1 ≤ pages
  pub early : b.tickets ≤ 2 ^ 62

-- the header is that of a book of so many pages, with that root
unfoldable pub headed_of : (ℕ → ℕ) → Space → Result (Unit {0}) Reason
headed_of m sp =
    cond (m (word_of sp signature_at) == signature)
    (cond (m (word_of sp pages_at) == sp.pages)
    (cond (m (word_of sp root_at) == sp.root) (Ok tt) (Err BadRoot))
    (Err OtherBook))
    (Err NoBook)

-- and the root is a page of the pool behind the book
unfoldable pub rooted_in : Space → Result (Unit {0}) Reason → Result (Unit {0}) Reason
rooted_in sp (Ok tt) = cond (in_pool sp sp.root) (Ok tt) (Err BadRoot)
rooted_in sp (Err r) = Err r

unfoldable pub names_in : (ℕ → ℕ) → Space → Result (Unit {0}) Reason → Result (Unit {0}) Reason
names_in m sp (Ok tt) = rooted_in sp (headed_of m sp)
names_in m sp (Err r) = Err r

-- THE BOOK NAMES THIS SPACE: the pool lies in the window, and the book there has its signature, its pages and its root
unfoldable pub names_of : (ℕ → Bool) → (ℕ → ℕ) → Space → Result (Unit {0}) Reason
names_of h m sp = names_in m sp (room_of h sp.first sp.pages)

unfoldable pub counts_of : (ℕ → ℕ) → Space → Result Book Reason
counts_of m sp = cond (adds_up_of sp.pages (book_of m sp)) (Ok (book_of m sp)) (Err BadBook)

unfoldable pub opened_in : (ℕ → ℕ) → Space → Result (Unit {0}) Reason → Result Book Reason
opened_in m sp (Ok tt) = counts_of m sp
opened_in m sp (Err r) = Err r

-- WHAT OPENING ANSWERS: the counts of a book that names this space
unfoldable pub opened_of : (ℕ → Bool) → (ℕ → ℕ) → Space → Result Book Reason
opened_of h m sp = opened_in m sp (names_of h m sp)

-- a page that can become a table: in the pool, not the book's and not the root
unfoldable pub usable_of : Space → ℕ → Option ℕ
usable_of sp p = cond (not (p == sp.root) && in_pool sp p) (Some p) None

-- the page that word k of the book names
unfoldable pub named_of : (ℕ → Bool) → (ℕ → ℕ) → Space → ℕ → Option ℕ
named_of h m sp k = cond (h (sp.first + k / 512)) (usable_of sp (m (word_of sp k))) None

-- the free page at position k
unfoldable pub listed_of : (ℕ → Bool) → (ℕ → ℕ) → Space → Book → ℕ → Option ℕ
listed_of h m sp b k =
    cond (nat_lt k b.free && adds_up_of sp.pages b) (named_of h m sp (slot_at (slot_of sp.pages b.head k))) None

-- Tickets ---------------------------------------------------------------------------------------------------------------------

-- Pages are numbered in the order in which they are set aside; tickets counts those that were released. The ticket of a moment:
-- the number that the next page will have.
abbrev pub ticket_of : Book → ℕ
ticket_of b = b.tickets + b.aside

-- the same as a number of 64 bits; a book that can be has no larger one
unfoldable pub ticket_in : Book → ℕ
ticket_in b = ticket_of b % 2 ^ 64

-- and once n pages more are set aside
unfoldable pub ticket_after : Book → ℕ → ℕ
ticket_after b n = (ticket_in b + n) % 2 ^ 64

-- how many pages a report of this ticket releases: those whose number is below it
unfoldable pub due_of : Book → ℕ → Result ℕ NotDue
due_of b t =
    cond (nat_le t b.tickets)
    (Ok 0)
    (cond (nat_le (t - b.tickets) b.aside) (cond (nat_le t (2 ^ 62)) (Ok (t - b.tickets)) (Err notdue.Spent)) (Err notdue.Unknown))
