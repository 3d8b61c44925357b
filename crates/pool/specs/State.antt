-- The book's counts as they stand, and what asking for the state of a pool answers.
use Rattle.std.specs.Prelude.{ℕ, ◌-◌, Bool, List, Option, Result, Some, None, Ok, Err}
use Rattle.pool.specs.declared.Reason.{Reason}
use Rattle.word.specs.Runs.{among_of}
use Rattle.pool.specs.declared.Space.{Space}
use Rattle.pool.specs.declared.Book.{Book}
use Rattle.pool.specs.declared.moment.Counts.{Counts}
use Rattle.pool.specs.Layout.{head_at, free_at, aside_at, tickets_at, book_pages}
use Rattle.pool.specs.Book.{opened_of, ticket_in}

unfoldable pub word_in : Option ℕ → ℕ
word_in (Some w) = w
word_in None = 0

-- word i of the book's first page; 0 where there is none in the window
unfoldable pub word_now : List ℕ → Space → ℕ → ℕ
word_now s sp i = word_in (among_of s sp.origin sp.first 0 sp.pages sp.first i)

-- THE COUNTS AS THEY STAND, of any bytes
unfoldable pub book_now : List ℕ → Space → Book
book_now s sp = record {
  head = word_now s sp head_at;
  free = word_now s sp free_at;
  aside = word_now s sp aside_at;
  tickets = word_now s sp tickets_at;
}

-- tables: the pages that are not the book's, nor the root, nor free, nor set aside
unfoldable pub counted_of : Space → Book → Counts
counted_of sp b = record {
  pages = sp.pages;
  free = b.free;
  aside = b.aside;
  tables = sp.pages - book_pages sp.pages - 1 - b.free - b.aside;
  ticket = ticket_in b;
}

unfoldable pub stated_of : Space → Result Book Reason → Result Counts Reason
stated_of sp (Ok b) = Ok (counted_of sp b)
stated_of sp (Err r) = Err r

-- WHAT STATE ANSWERS
unfoldable pub state_of : (ℕ → Bool) → (ℕ → ℕ) → Space → Result Counts Reason
state_of h m sp = stated_of sp (opened_of h m sp)
