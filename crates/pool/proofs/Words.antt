-- The words of a book: where they lie, and what writing some of them makes of the others.
use Rattle.std.proofs.Common.{◌≡◌, ℕ, ◌+◌, ◌/◌, ◌<◌, ◌≤◌, false, cond, eqb, List, [], ◌∷◌, refl, ap, ◌∙◌, arith, eq-eqb, ne_eqb}
use native.Mathlib.Decide.{ℕ_discrete}
use Rattle.word.specs.Memory.{set}
use Rattle.word.specs.Writes.{Write, after}
use Rattle.word.proofs.Set.{set_at, set_other}
use Rattle.pool.specs.declared.Space.{Space}
use Rattle.pool.specs.Layout.{head_at, free_at, aside_at, tickets_at, header_words, slot_at, book_words, book_pages}
use Rattle.pool.specs.Book.{word_of, book_of}
use Rattle.pool.specs.Changes.{put}
use Rattle.pool.proofs.Far.{word_at_lem}

-- Where they lie ------------------------------------------------------------------------------------------------------------------

-- a word of the book lies in a page of the book
pub word_page : (pages k : ℕ) → k < book_words pages → k / 512 < book_pages pages
unfolding book_pages
word_page pages k u = omega arith

-- and is entry k % 512 of that page
pub word_in_lem : (sp : Space) (k : ℕ) → k < book_words sp.pages → (sp.first ≤ word_of sp k / 512) × (word_of sp k / 512 < sp.first + book_pages sp.pages)
word_in_lem sp k u = (omega arith, omega (arith, word_page sp.pages k u))

-- a book has a page, and a small pool's has no other
pub book_some : (pages : ℕ) → 0 < book_pages pages
unfolding book_pages
book_some pages = omega arith

pub small_book : (pages : ℕ) → pages ≤ 248 → book_pages pages ≡ 1
unfolding book_pages
small_book pages u = omega arith

-- the words of the header and the slots are words of the book
pub header_word : (pages k : ℕ) → k < header_words → k < book_words pages
unfolding book_words
header_word pages k u = omega arith

pub slot_word : (pages j : ℕ) → j < pages → slot_at j < book_words pages
unfolding book_words slot_at
slot_word pages j u = omega arith

-- no slot is a word of the header, and two slots are two words
pub header_slot : (k j : ℕ) → k < header_words → eqb k (slot_at j) ≡ false
unfolding slot_at
header_slot k j u = ne_eqb k (slot_at j) (λ e. omega arith)

pub slot_header : (k j : ℕ) → k < header_words → eqb (slot_at j) k ≡ false
unfolding slot_at
slot_header k j u = ne_eqb (slot_at j) k (λ e. omega arith)

pub slot_once : (j k : ℕ) → slot_at j ≡ slot_at k → j ≡ k
unfolding slot_at
slot_once j k e = omega arith

-- What is written -----------------------------------------------------------------------------------------------------------------

-- a write of word k, as memory
pub after_put : (m : ℕ → ℕ) (sp : Space) (k w : ℕ) (xs : List Write) → after m (put sp k w ∷ xs) ≡ after (set m (word_of sp k) w) xs
unfolding after
after_put m sp k w xs = ap (λ x. after (set m x w) xs) (word_at_lem sp.first k)

-- words of the book, each with what it becomes, are written in this order
unfoldable pub puts : Space → List (ℕ × ℕ) → List Write
puts sp [] = []
puts sp (x ∷ xs) = put sp x.0 x.1 ∷ puts sp xs

-- what word k, which was w, then is
unfoldable pub becomes : List (ℕ × ℕ) → ℕ → ℕ → ℕ
becomes [] k w = w
becomes (x ∷ xs) k w = becomes xs k (cond (eqb x.0 k) x.1 w)

set_word : (m : ℕ → ℕ) (sp : Space) (j v k : ℕ) → set m (word_of sp j) v (word_of sp k) ≡ cond (eqb j k) v (m (word_of sp k))
set_word m sp j v k = go (ℕ_discrete j k)
  where
    go : Dec (j ≡ k) → set m (word_of sp j) v (word_of sp k) ≡ cond (eqb j k) v (m (word_of sp k))
    go (yes e) = rw (eq-eqb j k e) (set_at m (word_of sp j) v (word_of sp k) (ap (word_of sp) e))
    go (no d) = rw (ne_eqb j k d) (set_other m (word_of sp j) v (word_of sp k) (λ e. d (omega arith)))

pub puts_word : (m : ℕ → ℕ) (sp : Space) (xs : List (ℕ × ℕ)) (k : ℕ) → after m (puts sp xs) (word_of sp k) ≡ becomes xs k (m (word_of sp k))
unfolding after puts becomes
puts_word m sp [] k = refl
puts_word m sp (x ∷ xs) k =
    ap (λ (f : ℕ → ℕ). f (word_of sp k)) (after_put m sp x.0 x.1 (puts sp xs))
    ∙ puts_word (set m (word_of sp x.0) x.1) sp xs k
    ∙ ap (becomes xs k) (set_word m sp x.0 x.1 k)

-- the counts
pub puts_book : (m : ℕ → ℕ) (sp : Space) (xs : List (ℕ × ℕ))
    → book_of (after m (puts sp xs)) sp
    ≡ record { head = becomes xs head_at (book_of m sp).head; free = becomes xs free_at (book_of m sp).free; aside = becomes xs aside_at (book_of m sp).aside; tickets = becomes xs tickets_at (book_of m sp).tickets }
puts_book m sp xs = rw (puts_word m sp xs head_at, puts_word m sp xs free_at, puts_word m sp xs aside_at, puts_word m sp xs tickets_at)
