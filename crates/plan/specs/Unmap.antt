-- Unmap: the decision, a function of the memory and what is asked, and the writes of its plan.
use Rattle.std.specs.Prelude.{ℕ, ◌+◌, ◌<◌, Bool, cond, List, [], ◌∷◌, ◌++◌, ◌==◌, nat_le, Result, Ok, Err}
use Rattle.pool.specs.declared.Reason.{Reason as PoolReason}
use Rattle.plan.specs.declared.Reason.{Reason}
use Rattle.word.specs.Scan.{besides_of}
use Rattle.word.specs.Writes.{Write, write}
use Rattle.walk.specs.Walk.{index_of}
use Rattle.pool.specs.Stands.{takes_of}
use Rattle.pool.specs.Book.{book_of, opened_of, ticket_after}
use Rattle.pool.specs.Changes.{aside_writes, aside_book}
use Rattle.pool.specs.declared.Space.{Space}
use Rattle.pool.specs.declared.Book.{Book}
use Rattle.pool.specs.declared.Reason.TheVariants.{BadBook}
use Rattle.plan.specs.declared.Reason.TheVariants.{Pool}
use Rattle.plan.specs.declared.descent.Way.{Way}
use Rattle.plan.specs.declared.finding.PageEntry.{PageEntry}
use Rattle.plan.specs.declared.unmaps.Removal.{Removal}
use Rattle.plan.specs.Find.{find_of}
use Rattle.plan.specs.Map.{no_book}

-- Which tables become empty ------------------------------------------------------------------------------------------------------

-- how many tables become empty, from the one of the page's entry up; the root stays
unfoldable pub emptied_of : (ℕ → Bool) → (ℕ → ℕ) → ℕ → Way → ℕ
emptied_of h m va w =
    cond (nat_le 3 w.level) 0
    (cond (besides_of h m w.a (index_of w.level va) 512) 0
    (cond (nat_le 2 w.level) 1
    (cond (besides_of h m w.b (index_of (w.level + 1) va) 512) 1
    (cond (nat_le 1 w.level) 2 (cond (besides_of h m w.c (index_of 2 va) 512) 2 3)))))

-- The decision ---------------------------------------------------------------------------------------------------------------------

unfoldable pub booked_of : Space → PageEntry → ℕ → Book → Result Removal Reason
booked_of sp s n b = cond (takes_of sp b n) (Ok (record { page = s; empties = n; book = b })) (Err (Pool BadBook))

unfoldable pub open_of : Space → PageEntry → ℕ → Result Book PoolReason → Result Removal Reason
open_of sp s n (Ok b) = booked_of sp s n b
open_of sp s n (Err r) = Err (Pool r)

-- a book is needed only where a table becomes empty
unfoldable pub remove_of : (ℕ → Bool) → (ℕ → ℕ) → Space → PageEntry → ℕ → Result Removal Reason
remove_of h m sp s n = cond (n == 0) (Ok (record { page = s; empties = 0; book = no_book })) (open_of sp s n (opened_of h m sp))

unfoldable pub removing_of : (ℕ → Bool) → (ℕ → ℕ) → Space → ℕ → Result PageEntry Reason → Result Removal Reason
removing_of h m sp va (Ok s) = remove_of h m sp s (emptied_of h m va s.way)
removing_of h m sp va (Err y) = Err y

-- WHAT UNMAP DECIDES
unfoldable pub decide_of : (ℕ → Bool) → (ℕ → ℕ) → Space → ℕ → Result Removal Reason
decide_of h m sp va = removing_of h m sp va (find_of h m sp va)

-- The plan -------------------------------------------------------------------------------------------------------------------------

-- the page's level is one of the four, with as many tables above it as become empty
abbrev pub low : Removal → Type 0
low r = r.page.way.level + r.empties < 4

-- the table `child` is the k-th of n that became empty: it is unlinked, and set aside
unfoldable pub cut_writes : Space → ℕ → ℕ → ℕ → ℕ → ℕ → Book → List Write
cut_writes sp k n parent index child b = cond (nat_le n k) [] (write parent index 0 ∷ aside_writes sp b child)

unfoldable pub cut_book : Space → ℕ → ℕ → Book → Book
cut_book sp k n b = cond (nat_le n k) b (aside_book sp b)

abbrev pub book1 : Space → Removal → Book
book1 sp r = cut_book sp 0 r.empties r.book

abbrev pub book2 : Space → Removal → Book
book2 sp r = cut_book sp 1 r.empties (book1 sp r)

-- WHAT UNMAP WRITES: the page's entry, then for each table that became empty its parent's entry and the book
unfoldable pub writes_of : Space → ℕ → Removal → List Write
writes_of sp va r =
    (write r.page.way.a (index_of r.page.way.level va) 0 ∷ [])
    ++ (cut_writes sp 0 r.empties r.page.way.b (index_of (r.page.way.level + 1) va) r.page.way.a r.book
    ++ (cut_writes sp 1 r.empties r.page.way.c (index_of (r.page.way.level + 2) va) r.page.way.b (book1 sp r)
    ++ cut_writes sp 2 r.empties r.page.way.d (index_of (r.page.way.level + 3) va) r.page.way.c (book2 sp r)))

unfoldable pub did_of : Space → ℕ → Result Removal Reason → List Write
did_of sp va (Ok r) = writes_of sp va r
did_of sp va (Err y) = []

-- what is done, and the ticket of the book after it: so many pages more are set aside
unfoldable pub unmapping_of : (ℕ → ℕ) → Space → Result Removal Reason → Result (Removal × ℕ) Reason
unmapping_of m sp (Ok r) = Ok (r, ticket_after (book_of m sp) r.empties)
unmapping_of m sp (Err y) = Err y
