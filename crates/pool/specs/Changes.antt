-- What is written to a book, as lists of one-word writes. Where the counts make no sense, or there are fewer pages, nothing is.
use Rattle.std.specs.Prelude.{ℕ, ◌+◌, ◌-◌, ◌/◌, ◌%◌, cond, ◌&&◌, List, [], ◌∷◌, nat_le}
use Rattle.word.specs.Writes.{Write, write}
use Rattle.pool.specs.declared.Space.{Space}
use Rattle.pool.specs.declared.Book.{Book}
use Rattle.pool.specs.Layout.{head_at, free_at, aside_at, tickets_at, slot_at}
use Rattle.pool.specs.Book.{adds_up_of, slot_of}

-- word k of the book becomes w
abbrev pub put : Space → ℕ → ℕ → Write
put sp k w = write (sp.first + k / 512) (k % 512) w

-- the k oldest free pages are taken
unfoldable pub took_writes : Space → Book → ℕ → List Write
took_writes sp b k =
    cond (nat_le k b.free && adds_up_of sp.pages b)
    (put sp head_at (slot_of sp.pages b.head k) ∷ put sp free_at (b.free - k) ∷ [])
    []

-- page p is set aside, behind all others
unfoldable pub aside_writes : Space → Book → ℕ → List Write
aside_writes sp b p =
    cond (adds_up_of sp.pages b)
    (put sp (slot_at (slot_of sp.pages b.head (b.free + b.aside))) p ∷ put sp aside_at (b.aside + 1) ∷ [])
    []

unfoldable pub aside_book : Space → Book → Book
aside_book sp b =
    cond (adds_up_of sp.pages b) (record { head = b.head; free = b.free; aside = b.aside + 1; tickets = b.tickets }) b

-- the k oldest pages set aside become free
unfoldable pub release_writes : Space → Book → ℕ → List Write
release_writes sp b k =
    cond (nat_le k b.aside && adds_up_of sp.pages b)
    (put sp free_at (b.free + k) ∷ put sp aside_at (b.aside - k) ∷ put sp tickets_at (b.tickets + k) ∷ [])
    []
