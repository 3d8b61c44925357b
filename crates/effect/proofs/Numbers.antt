-- The numbers of the pages that are set aside: what leaves them, and that a page set aside later has a later number.
use Prim.Native.Nat.{ℕ, ◌+◌, ◌-◌, ◌<◌, ◌≤◌}
use mathlib.Core.Path.{◌≡◌, refl, sym, ap, ◌∙◌, subst}
use native.Mathlib.Decide.{dec_lt}
use native.Mathlib.Omega.{arith}
use Rattle.word.specs.Writes.{after}
use Rattle.tables.specs.Roles.{Role}
use Rattle.pool.specs.Book.{book_of, page_at, ticket_of}
use Rattle.pool.specs.Booked.{Booked, SameBook, Numbered}
use Rattle.pool.specs.declared.Space.{Space}
use Rattle.pool.specs.declared.Book.{Book}
use Rattle.pool.specs.Changes.{took_writes, release_writes}
use Rattle.pool.proofs.Booked.{same_counts, same_numbered}
use Rattle.pool.proofs.Taking.{took_numbered, took_book}
use Rattle.pool.proofs.Releasing.{release_book}
use Rattle.effect.specs.Numbers.{KeepsNumbers}

pub keeps_self : (sp : Space) (m : ℕ → ℕ) → KeepsNumbers sp m m
keeps_self sp m = record { numbers = λ p k h. h; tickets = refl; more = omega arith }

pub keeps_then : {sp : Space} {m m' m'' : ℕ → ℕ} → KeepsNumbers sp m m' → KeepsNumbers sp m' m'' → KeepsNumbers sp m m''
keeps_then a b = record { numbers = λ p k h. b.numbers p k (a.numbers p k h); tickets = b.tickets ∙ a.tickets; more = omega (arith, a.more, b.more) }

pub same_keeps : {sp : Space} {m m' : ℕ → ℕ} {role : ℕ → Role} → Booked sp m role → SameBook sp m m' → KeepsNumbers sp m m'
same_keeps b e = record {
  numbers = same_numbered e b;
  tickets = ap (λ (y : Book). y.tickets) (same_counts e);
  more = omega (arith, ap (λ (y : Book). y.aside) (same_counts e));
}

-- a number has one page
pub one_page : (sp : Space) (m : ℕ → ℕ) (p q k : ℕ) → Numbered m sp p k → Numbered m sp q k → p ≡ q
one_page sp m p q k h g =
    let same : h.0 ≡ g.0 = omega (arith, h.3, g.3) in
    sym h.2 ∙ ap (λ i. page_at m sp ((book_of m sp).free + i)) same ∙ g.2

-- A PAGE WITH A NUMBER BELOW THE TICKET had it before.
pub earlier_number : {sp : Space} {m m' : ℕ → ℕ} → KeepsNumbers sp m m' → (p k : ℕ) → Numbered m' sp p k → k < ticket_of (book_of m sp) → Numbered m sp p k
earlier_number {sp} {m} {m'} a p k h u =
    let i : ℕ = k - (book_of m sp).tickets in
    let first : (book_of m sp).tickets ≤ k = omega (arith, h.3, a.tickets) in
    let q : ℕ = page_at m sp ((book_of m sp).free + i) in
    let g : Numbered m sp q k = (i, omega arith, refl, omega arith) in
    subst (λ x. Numbered m sp x k) (one_page sp m' q p k (a.numbers q k g) h) g

-- So a page that is set aside later has a later number: what had none has one from the ticket on.
pub later_number : {sp : Space} {m m' : ℕ → ℕ} → KeepsNumbers sp m m' → (p k : ℕ) → Numbered m' sp p k → ((j : ℕ) → ¬ Numbered m sp p j) → ticket_of (book_of m sp) ≤ k
later_number {sp} {m} a p k h n = elim (dec_lt k (ticket_of (book_of m sp))) [ yes u ↦ absurd (n k (earlier_number a p k h u)) | no u ↦ omega arith ]

-- The book's own changes --------------------------------------------------------------------------------------------------------

-- pages are taken
pub took_keeps : {sp : Space} {m : ℕ → ℕ} {role : ℕ → Role} → Booked sp m role → (k : ℕ) → k ≤ (book_of m sp).free → KeepsNumbers sp m (after m (took_writes sp (book_of m sp) k))
took_keeps b k u =
    record { numbers = took_numbered b k u; tickets = ap (λ (y : Book). y.tickets) (took_book b k u); more = omega (arith, ap (λ (y : Book). y.aside) (took_book b k u)) }

-- A REPORT leaves the ticket of the moment as it is
pub release_ticket : {sp : Space} {m : ℕ → ℕ} {role : ℕ → Role} → Booked sp m role → (k : ℕ) → k ≤ (book_of m sp).aside
    → ticket_of (book_of (after m (release_writes sp (book_of m sp) k)) sp) ≡ ticket_of (book_of m sp)
release_ticket b k u = ap ticket_of (release_book b k u) ∙ omega arith
