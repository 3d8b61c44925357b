-- Where a change of the book writes: words of 64 bits, to pages of the book and nowhere else. For any counts.
use Rattle.std.proofs.Common.{◌≡◌, ℕ, zero, suc, ◌+◌, ◌-◌, ◌*◌, ◌^◌, ◌<◌, ◌≤◌, Bool, true, false, cond, ◌&&◌, leb, List, [], ◌∷◌, refl, arith, leb-true}
use Rattle.word.specs.Writes.{Write, Proper, Every}
use Rattle.word.proofs.Tests.{and_both}
use Rattle.word.proofs.Writes.{every_append}
use Rattle.word.specs.Writes.Every.{none, more}
use Rattle.pool.specs.declared.Space.{Space}
use Rattle.pool.specs.declared.Book.{Book}
use Rattle.pool.specs.Layout.{signature_at, pages_at, root_at, tickets_at, free_at, aside_at, head_at, header_words, slot_at, book_words, book_pages}
use Rattle.pool.specs.Book.{slot_of, adds_up_of, AddsUp}
use Rattle.pool.specs.Changes.{put, took_writes, aside_writes, release_writes}
use Rattle.pool.specs.Create.{row, fills, blanks, header_writes}
use Rattle.pool.proofs.Counting.{adds_up_is, slot_in}
use Rattle.pool.proofs.Words.{word_page, header_word, slot_word}

-- page q is one of the book's
abbrev pub OfBook : Space → ℕ → Type 0
OfBook sp q = (sp.first ≤ q) × (q < sp.first + book_pages sp.pages)

-- a list that is written only where a test holds
if_so : {Q : ℕ → Type 0} (t : Bool) (xs : List Write) → (t ≡ true → Every Q xs) → Every Q (cond t xs [])
if_so true xs h = h refl
if_so false xs h = none

-- a word of the book; one of the header, and a slot's
word_proper : (sp : Space) (k w : ℕ) → k < book_words sp.pages → w < 2 ^ 64 → Proper (OfBook sp) (put sp k w)
word_proper sp k w u v = record { in_page = (omega arith, omega (arith, word_page sp.pages k u)); in_index = omega arith; in_word = v }

header_proper : (sp : Space) (k w : ℕ) → k < header_words → w < 2 ^ 64 → Proper (OfBook sp) (put sp k w)
header_proper sp k w u v = word_proper sp k w (header_word sp.pages k u) v

slot_proper : (sp : Space) (j w : ℕ) → j < sp.pages → w < 2 ^ 64 → Proper (OfBook sp) (put sp (slot_at j) w)
slot_proper sp j w u v = word_proper sp (slot_at j) w (slot_word sp.pages j u) v

pub took_proper : (sp : Space) (b : Book) (k : ℕ) → Every (OfBook sp) (took_writes sp b k)
unfolding took_writes head_at free_at header_words
took_proper sp b k = if_so (leb k b.free && adds_up_of sp.pages b) _ (λ e. let t = and_both (leb k b.free) (adds_up_of sp.pages b) e in go (leb-true k b.free t.0) (adds_up_is sp.pages b t.1))
  where
    go : k ≤ b.free → AddsUp sp.pages b → Every (OfBook sp) (put sp head_at (slot_of sp.pages b.head k) ∷ put sp free_at (b.free - k) ∷ [])
    go u s =
        more (header_proper sp head_at (slot_of sp.pages b.head k) (omega arith) (omega (arith, s.small, slot_in sp.pages b.head k s.head_in (omega (arith, s.room)))))
        (more (header_proper sp free_at (b.free - k) (omega arith) (omega (arith, s.small, s.room))) none)

pub aside_proper : (sp : Space) (b : Book) (p : ℕ) → p < 2 ^ 64 → Every (OfBook sp) (aside_writes sp b p)
unfolding aside_writes aside_at header_words
aside_proper sp b p u = if_so (adds_up_of sp.pages b) _ (λ e. go (adds_up_is sp.pages b e))
  where
    go : AddsUp sp.pages b → Every (OfBook sp) (put sp (slot_at (slot_of sp.pages b.head (b.free + b.aside))) p ∷ put sp aside_at (b.aside + 1) ∷ [])
    go s =
        more (slot_proper sp _ p (slot_in sp.pages b.head (b.free + b.aside) s.head_in (omega (arith, s.room))) u)
        (more (header_proper sp aside_at (b.aside + 1) (omega arith) (omega (arith, s.small, s.room))) none)

pub release_proper : (sp : Space) (b : Book) (k : ℕ) → Every (OfBook sp) (release_writes sp b k)
unfolding release_writes free_at aside_at tickets_at header_words
release_proper sp b k = if_so (leb k b.aside && adds_up_of sp.pages b) _ (λ e. let t = and_both (leb k b.aside) (adds_up_of sp.pages b) e in go (leb-true k b.aside t.0) (adds_up_is sp.pages b t.1))
  where
    go : k ≤ b.aside → AddsUp sp.pages b → Every (OfBook sp) (put sp free_at (b.free + k) ∷ put sp aside_at (b.aside - k) ∷ put sp tickets_at (b.tickets + k) ∷ [])
    go u s =
        more (header_proper sp free_at (b.free + k) (omega arith) (omega (arith, s.small, s.room)))
        (more (header_proper sp aside_at (b.aside - k) (omega arith) (omega (arith, s.small, s.room)))
        (more (header_proper sp tickets_at (b.tickets + k) (omega arith) (omega (arith, s.small, s.room, s.early))) none))

-- A new pool: the book, and the root
pub row_proper : (sp : Space) (k : ℕ) (f : ℕ → ℕ) (n : ℕ) → k + n ≤ book_words sp.pages → ((j : ℕ) → j < n → f j < 2 ^ 64) → Every (OfBook sp) (row sp k f n)
unfolding row
row_proper sp k f zero u v = none
row_proper sp k f (suc n) u v =
    every_append (row sp k f n) _ (row_proper sp k f n (omega arith) (λ j w. v j (omega arith))) (more (word_proper sp (k + n) (f n) (omega arith) (v n (omega arith))) none)

pub fills_proper : (sp : Space) (from n : ℕ) → n ≤ sp.pages → from + n < 2 ^ 64 → Every (OfBook sp) (fills sp from n)
unfolding slot_at book_words
fills_proper sp from n u v = row_proper sp (slot_at 0) (λ j. from + j) n (omega arith) (λ j w. omega arith)

pub rest_proper : (sp : Space) (n : ℕ) → n ≤ 2 * sp.pages → Every (OfBook sp) (blanks sp (slot_at n) (2 * sp.pages - n))
unfolding slot_at book_words
rest_proper sp n u = row_proper sp (slot_at n) (λ j. 0) (2 * sp.pages - n) (omega arith) (λ j w. omega arith)

pub header_writes_proper : (sp : Space) (free : ℕ) → sp.pages < 2 ^ 64 → sp.root < 2 ^ 64 → free < 2 ^ 64 → Every (OfBook sp) (header_writes sp free)
unfolding header_writes pages_at root_at tickets_at free_at aside_at book_words
header_writes_proper sp free u r v =
    more (header_proper sp pages_at _ (omega arith) u)
    (more (header_proper sp root_at _ (omega arith) r)
    (more (header_proper sp tickets_at 0 (omega arith) (omega arith))
    (more (header_proper sp free_at _ (omega arith) v) (row_proper sp aside_at (λ j. 0) (header_words - aside_at) (omega arith) (λ j w. omega arith)))))

pub mark_proper : (sp : Space) (w : ℕ) → w < 2 ^ 64 → Every (OfBook sp) (put sp signature_at w ∷ [])
unfolding signature_at header_words
mark_proper sp w u = more (header_proper sp signature_at w (omega arith) u) none
