-- WHERE A BOOK HAS WHAT, by words: a header, then a slot of the ring for each page of the pool, then a count for each. No number of these
-- is written anywhere else but in src/layout.rt.
use Rattle.std.specs.Prelude.{ℕ, ◌+◌, ◌*◌, ◌/◌}

-- the header: the signature, the number of pages, the root, how many pages were ever released, the free, those set aside, the ring's head
unfoldable pub signature_at : ℕ
signature_at = 0

unfoldable pub pages_at : ℕ
pages_at = 1

unfoldable pub root_at : ℕ
root_at = 2

unfoldable pub tickets_at : ℕ
tickets_at = 3

unfoldable pub free_at : ℕ
free_at = 4

unfoldable pub aside_at : ℕ
aside_at = 5

unfoldable pub head_at : ℕ
head_at = 6

-- what later requests keep, 0 until then: the physical width, and the kernel's half; all behind them is 0
unfoldable pub width_at : ℕ
width_at = 7

unfoldable pub kernel_at : ℕ
kernel_at = 8

unfoldable pub header_words : ℕ
header_words = 16

-- slot j of the ring
unfoldable pub slot_at : ℕ → ℕ
unfolding header_words
slot_at j = header_words + j

-- the count of page j of the pool, 0 until a later request counts
unfoldable pub count_at : ℕ → ℕ → ℕ
unfolding header_words
count_at pages j = header_words + pages + j

-- how many words the book of a pool has, and how many pages they take
unfoldable pub book_words : ℕ → ℕ
unfolding header_words
book_words pages = header_words + 2 * pages

unfoldable pub book_pages : ℕ → ℕ
unfolding book_words
book_pages pages = (book_words pages + 511) / 512
