-- TICKETS: what state answers, and which calls hand out a ticket. One may be handed out again, by calls that set nothing aside: it speaks of the
-- last moment at which it was.
use Rattle.std.specs.Prelude.{ℕ, ◌+◌, ◌≤◌, Bool, ◌↔◌, ◌≡◌, Result, Ok, Err}
use Rattle.tables.specs.Roles.{Role}
use Rattle.pool.specs.Layout.{book_pages}
use Rattle.pool.specs.Book.{book_of, ticket_of, opened_of}
use Rattle.pool.specs.Booked.{how_many, is_free, is_aside, tables_of}
use Rattle.pool.specs.State.{state_of}
use Rattle.pool.specs.declared.Space.{Space}
use Rattle.pool.specs.declared.Reason.{Reason}
use Rattle.pool.specs.declared.moment.Counts.{Counts}
use Rattle.tablepath.specs.declared.Gone.{Gone}
use Rattle.tablepath.specs.declared.Altered.{Altered}
use Rattle.tablepath.specs.Answers.{unmap_answer, protect_answer, told_answer}
use Rattle.tablepath.specs.Calls.{Call, map, unmap, protect, told}

-- State --------------------------------------------------------------------------------------------------------------------------

-- STATE, in a space that is whole, answered r
pub record StateSays (sp : Space) (m : ℕ → ℕ) (role : ℕ → Role) (r : Result Counts Reason) : Type 0 where
  -- it never refuses
  pub counts : Counts
  pub answered : r ≡ Ok counts
  -- the pool's pages, and how many of them have each role
  pub pages : counts.pages ≡ sp.pages
  pub free : counts.free ≡ how_many (λ p. is_free (role p)) sp.first sp.pages
  pub aside : counts.aside ≡ how_many (λ p. is_aside (role p)) sp.first sp.pages
  -- tables: the root is not among them
  pub tables : counts.tables ≡ tables_of sp role
  -- with the book's pages and the root these are all
  pub all : book_pages sp.pages + 1 + counts.tables + counts.free + counts.aside ≡ counts.pages
  -- the ticket is that of the moment
  pub ticket : counts.ticket ≡ ticket_of (book_of m sp)

-- STATE, of any memory: it refuses exactly where the book does not open, for that reason
pub record StateOpened (h : ℕ → Bool) (m : ℕ → ℕ) (sp : Space) : Type 0 where
  pub refused : (y : Reason) → (state_of h m sp ≡ Err y) ↔ (opened_of h m sp ≡ Err y)

-- Tickets ------------------------------------------------------------------------------------------------------------------------

-- the call is done, and hands out the ticket t
unfoldable pub Handed : (ℕ → Bool) → (ℕ → ℕ) → Space → Call → ℕ → Type 0
Handed h m sp (map q) t = ⊥
Handed h m sp (unmap va) t = (g : Gone) × (unmap_answer h m sp va ≡ Ok g) × (g.ticket ≡ t)
Handed h m sp (protect va r) t = (g : Altered) × (protect_answer h m sp va r ≡ Ok g) × (g.ticket ≡ t)
Handed h m sp (told n) t = ⊥

-- the report of the ticket t is done, and releases n pages or more
abbrev pub Reports : (ℕ → Bool) → (ℕ → ℕ) → Space → ℕ → ℕ → Type 0
Reports h m sp t n = (k : ℕ) × (told_answer h m sp t ≡ Ok k) × (n ≤ k)
