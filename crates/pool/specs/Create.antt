-- What making a pool answers and writes.
use Rattle.std.specs.Prelude.{ℕ, zero, suc, ◌+◌, ◌-◌, ◌*◌, ◌%◌, ◌^◌, ◌<◌, ◌≤◌, Bool, cond, List, [], ◌∷◌, ◌++◌, length, take, ◌==◌, Result, Ok, Err}
use Rattle.pool.specs.declared.Reason.{Reason}
use Rattle.word.specs.Memory.{holds}
use Rattle.word.specs.Writes.{Write, write, zeros, carried}
use Rattle.pool.specs.declared.Space.{Space}
use Rattle.pool.specs.declared.Reason.TheVariants.{OriginUnaligned, LengthUnaligned}
use Rattle.pool.specs.Layout.{signature_at, pages_at, root_at, tickets_at, free_at, aside_at, header_words, slot_at, book_pages}
use Rattle.pool.specs.Book.{signature, room_of}
use Rattle.pool.specs.Changes.{put}

-- the window's ends are page boundaries, and the pool fits
unfoldable pub may_create : ℕ → (ℕ → Bool) → ℕ → ℕ → ℕ → Result (Unit {0}) Reason
may_create len h origin first pages =
    cond (origin % 4096 == 0)
    (cond (len % 4096 == 0) (room_of h first pages) (Err LengthUnaligned))
    (Err OriginUnaligned)

-- a new pool's root is the page behind its book
abbrev pub new_space : ℕ → ℕ → ℕ → Space
new_space origin first pages = record { origin = origin; first = first; pages = pages; root = first + book_pages pages }

-- n words of the book, from word k on, become f 0, f 1, ..
unfoldable pub row : Space → ℕ → (ℕ → ℕ) → ℕ → List Write
row sp k f zero = []
row sp k f (suc n) = row sp k f n ++ (put sp (k + n) (f n) ∷ [])

-- the first n slots list the pages from `from` on
abbrev pub fills : Space → ℕ → ℕ → List Write
fills sp from n = row sp (slot_at 0) (λ j. from + j) n

-- n words from word k on become 0
abbrev pub blanks : Space → ℕ → ℕ → List Write
blanks sp k n = row sp k (λ j. 0) n

-- n pages from page p on begin with 0, where a book would have its signature
unfoldable pub unmarks : ℕ → ℕ → List Write
unmarks p zero = []
unmarks p (suc n) = unmarks p n ++ (write (p + n) signature_at 0 ∷ [])

-- no signature is left, here or in the n pages behind the root
unfoldable pub bared : Space → ℕ → List Write
bared sp n = put sp signature_at 0 ∷ unmarks (sp.root + 1) n

-- the first n slots list the pages behind the root; every other slot is 0, and every count
unfoldable pub slots : Space → ℕ → List Write
slots sp n = fills sp (sp.root + 1) n ++ blanks sp (slot_at n) (2 * sp.pages - n)

-- a header without its signature: the pool's pages and its root, how many pages are free, and else 0
unfoldable pub header_writes : Space → ℕ → List Write
header_writes sp free =
    put sp pages_at sp.pages ∷ put sp root_at sp.root ∷ put sp tickets_at 0 ∷ put sp free_at free ∷ blanks sp aside_at (header_words - aside_at)

-- how many pages of a new pool are free
abbrev pub new_free : Space → ℕ
new_free sp = sp.pages - book_pages sp.pages - 1

-- first no signature; then the slots and the counts, the header, the root, and the signature last
unfoldable pub lay_out : Space → List Write
lay_out sp = bared sp (new_free sp) ++ (slots sp (new_free sp) ++ (header_writes sp (new_free sp) ++ (zeros sp.root 512 ++ (put sp signature_at signature ∷ []))))

-- there is room for the book, the root and a page more, and the numbers are small
pub record Roomy (sp : Space) : Type 0 where
  pub small : sp.pages ≤ 2 ^ 32
  pub enough : book_pages sp.pages + 2 ≤ sp.pages
  pub low : sp.root < 2 ^ 41

unfoldable pub created_in : ℕ → ℕ → Result (Unit {0}) Reason → Result ℕ Reason
created_in first pages (Ok tt) = Ok (first + book_pages pages)
created_in first pages (Err r) = Err r

-- WHAT MAKING A POOL ANSWERS
unfoldable pub created_of : ℕ → (ℕ → Bool) → ℕ → ℕ → ℕ → Result ℕ Reason
created_of len h origin first pages = created_in first pages (may_create len h origin first pages)

unfoldable pub create_in : Space → Result (Unit {0}) Reason → List Write
create_in sp (Ok tt) = lay_out sp
create_in sp (Err r) = []

-- WHAT IT WRITES
unfoldable pub create_writes : ℕ → (ℕ → Bool) → ℕ → ℕ → ℕ → List Write
create_writes len h origin first pages = create_in (new_space origin first pages) (may_create len h origin first pages)

-- the window when so many of these words are written
abbrev pub created_up_to : List ℕ → ℕ → ℕ → ℕ → ℕ → List ℕ
created_up_to s origin first pages k = carried s origin (take k (create_writes (length s) (holds s origin) origin first pages))
