-- A space that makes sense, before any book is read; and a book with room for pages to be set aside.
use Rattle.std.specs.Prelude.{ℕ, ◌+◌, ◌^◌, ◌<◌, ◌≤◌, Bool, cond, ◌&&◌, List, [], nat_le, Option, Result, None}
use Rattle.pool.specs.declared.Reason.{Reason}
use Rattle.word.specs.Memory.{page_count}
use Rattle.word.specs.Runs.{among_of, among_writes, among_zeros}
use Rattle.word.specs.Writes.{Write}
use Rattle.pool.specs.declared.Space.{Space}
use Rattle.pool.specs.declared.Book.{Book}
use Rattle.pool.specs.Layout.{book_pages}
use Rattle.pool.specs.Book.{room_of, rooted_in, adds_up_of}

-- the pool lies in the window with its book, and the root behind that
unfoldable pub stands_of : (ℕ → Bool) → Space → Result (Unit {0}) Reason
stands_of h sp = rooted_in sp (room_of h sp.first sp.pages)

-- what reading entry i of page p answers, where the pool lies in the window and p is a page of it, and not the book's
unfoldable pub read_entry_of : List ℕ → Space → ℕ → ℕ → Option ℕ
read_entry_of s sp p i = cond (nat_le sp.pages (2 ^ 32)) (among_of s sp.origin sp.first (book_pages sp.pages) sp.pages p i) None

-- setting that entry to w is one write; where there is none, no write
unfoldable pub entry_writes : List ℕ → Space → ℕ → ℕ → ℕ → List Write
entry_writes s sp p i w = cond (nat_le sp.pages (2 ^ 32)) (among_writes s sp.origin sp.first (book_pages sp.pages) sp.pages p i w) []

-- clearing that page
unfoldable pub clear_writes : List ℕ → Space → ℕ → List Write
clear_writes s sp p = cond (nat_le sp.pages (2 ^ 32)) (among_zeros s sp.origin sp.first (book_pages sp.pages) sp.pages p) []

-- n pages more can be set aside
unfoldable pub takes_of : Space → Book → ℕ → Bool
takes_of sp b n = adds_up_of sp.pages b && nat_le (b.free + b.aside + n + book_pages sp.pages + 1) sp.pages

-- the numbers of a pool that lies in a window
pub record Counted (sp : Space) : Type 0 where
  pub low : sp.first < page_count
  pub small : sp.pages ≤ 2 ^ 32
  pub enough : book_pages sp.pages ≤ sp.pages
