-- UNMAP, DONE: what it did, in a space that is whole.
use Rattle.std.specs.Prelude.{ℕ, ◌+◌, ◌%◌, ◌<◌, ◌≤◌, Bool, ◌⊎◌, ◌≡◌}
use Rattle.word.specs.Writes.{after, Every}
use Rattle.entry.specs.Entry.{size_of}
use Rattle.entry.specs.declared.Rights.{Rights}
use Rattle.walk.specs.declared.Found.TheVariants as found
use Rattle.tables.specs.Roles.{Role, aside, table, left}
use Rattle.tables.specs.Way.{Comes}
use Rattle.tables.specs.Meaning.{meaning}
use Rattle.tables.specs.Operation.{Changed}
use Rattle.pool.specs.Book.{book_of, ticket_of, ticket_after}
use Rattle.pool.specs.Booked.{setting_of, Numbered, tables_of}
use Rattle.pool.specs.declared.Space.{Space}
use Rattle.pool.specs.declared.Book.{Book}
use Rattle.plan.specs.declared.unmaps.Removal.{Removal}
use Rattle.effect.specs.OfPool.{OfPool}
use Rattle.plan.specs.Unmap.{low, writes_of}
use Rattle.effect.specs.Whole.{Whole}

-- a book with n pages more set aside
abbrev pub aside_more : ℕ → Book → Book
aside_more n b = record { head = b.head; free = b.free; aside = b.aside + n; tickets = b.tickets }

-- page p was a table, and is set aside now; its number is one of those from `from` to `upto` - 1
pub record SetAside (sp : Space) (role role' : ℕ → Role) (m' : ℕ → ℕ) (from upto p : ℕ) : Type 0 where
  pub levels : ℕ
  pub parent : ℕ
  pub index : ℕ
  pub was : role p ≡ table levels parent index
  pub is : role' p ≡ aside
  pub number : ℕ
  pub numbered : Numbered m' sp p number
  pub since : from ≤ number
  pub below : number < upto

-- before: the page that started at va, whose frame and size it answers. changed: every address of the page means nothing now, by one write; no
-- other address changes; empty tables are unlinked. counts: so many pages more are set aside, and no count else changes; ticket: what it
-- answers is the ticket of that book. fate: each page has its role still, or was a table and is set aside, with a number below the ticket;
-- fewer: so many of them. on_way: it lay on the way of va. proper: it writes to the pool.
pub record UnmapDone (h : ℕ → Bool) (sp : Space) (m : ℕ → ℕ) (role : ℕ → Role) (va : ℕ) (r : Removal) : Type 0 where
  pub role' : ℕ → Role
  pub size_is : r.page.size ≡ size_of r.page.way.level
  pub aligned : va % r.page.size ≡ 0
  pub had : Rights
  pub before : meaning (setting_of h sp) m va ≡ found.Page va r.page.size r.page.frame had
  pub changed : Changed (setting_of h sp) m role va r.page.way.level found.Nothing (writes_of sp va r) (after m (writes_of sp va r)) role'
  pub whole : Whole h sp (after m (writes_of sp va r)) role'
  pub proper : Every (OfPool sp) (writes_of sp va r)
  pub is_low : low r
  pub counts : book_of (after m (writes_of sp va r)) sp ≡ aside_more r.empties (book_of m sp)
  pub ticket : ticket_after (book_of m sp) r.empties ≡ ticket_of (book_of (after m (writes_of sp va r)) sp)
  pub fate : (p : ℕ) → (role' p ≡ role p) ⊎ SetAside sp role role' (after m (writes_of sp va r)) (ticket_of (book_of m sp)) (ticket_of (book_of m sp) + r.empties) p
  pub on_way : (p : ℕ) → (role' p ≡ role p) ⊎ Comes (setting_of h sp) m va (left (role p)) p
  pub fewer : tables_of sp role ≡ tables_of sp role' + r.empties
  pub numbers : (p n : ℕ) → Numbered m sp p n → Numbered (after m (writes_of sp va r)) sp p n
