-- PROTECT, DONE: what it did, in a space that is whole.
use Rattle.std.specs.Prelude.{ℕ, ◌/◌, ◌%◌, Bool, ◌≡◌}
use Rattle.word.specs.Memory.{at}
use Rattle.word.specs.Writes.{after, Every}
use Rattle.entry.specs.Entry.{size_of}
use Rattle.entry.specs.Kept.{SameButRights}
use Rattle.entry.specs.declared.Rights.{Rights}
use Rattle.walk.specs.declared.Found.TheVariants as found
use Rattle.tables.specs.Roles.{Role}
use Rattle.tables.specs.Meaning.{meaning}
use Rattle.tables.specs.Operation.{Changed}
use Rattle.pool.specs.Book.{book_of, ticket_of}
use Rattle.pool.specs.Booked.{setting_of, Numbered}
use Rattle.pool.specs.declared.Space.{Space}
use Rattle.plan.specs.declared.protects.Change.{Change}
use Rattle.effect.specs.OfPool.{OfPool}
use Rattle.plan.specs.Protect.{writes_of}
use Rattle.effect.specs.Whole.{Whole}

-- before: the page that started at va, whose frame and size it answers. changed: every address of the page has it with the new rights, by
-- one write; no other address changes; the roles stay. kept, marks: of the entry only the rights changed. proper: it writes to the pool.
-- book, numbers: the book is as it was; ticket: what it answers is the ticket of that book.
pub record ProtectDone (h : ℕ → Bool) (sp : Space) (m : ℕ → ℕ) (role : ℕ → Role) (va : ℕ) (rights : Rights) (c : Change) : Type 0 where
  pub level : ℕ
  pub size_is : c.size ≡ size_of level
  pub aligned : va % c.size ≡ 0
  pub had : Rights
  pub before : meaning (setting_of h sp) m va ≡ found.Page va c.size c.frame had
  pub changed : Changed (setting_of h sp) m role va level (found.Page va c.size c.frame rights) (writes_of c) (after m (writes_of c)) role
  pub whole : Whole h sp (after m (writes_of c)) role
  pub kept : SameButRights c.word (m (at c.table c.index))
  pub marks : c.word / 32 % 4 ≡ m (at c.table c.index) / 32 % 4
  pub proper : Every (OfPool sp) (writes_of c)
  pub book : book_of (after m (writes_of c)) sp ≡ book_of m sp
  pub ticket : c.ticket ≡ ticket_of (book_of m sp)
  pub numbers : (p n : ℕ) → Numbered m sp p n → Numbered (after m (writes_of c)) sp p n
