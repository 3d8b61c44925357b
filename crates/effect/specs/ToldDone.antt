-- TOLD, DONE: what the report of a ticket did, in a space that is whole.
use Rattle.std.specs.Prelude.{ℕ, ◌<◌, ◌≤◌, Bool, ◌≢◌, ◌≡◌}
use Rattle.word.specs.Writes.{after, Every}
use Rattle.world.specs.OneChange.{Quiet}
use Rattle.tables.specs.Roles.{Role, free, aside}
use Rattle.tables.specs.Meaning.{meaning}
use Rattle.tables.specs.Discipline.{walker_of, ObeysOf}
use Rattle.tables.specs.Clearing.{events_of}
use Rattle.pool.specs.Book.{book_of}
use Rattle.pool.specs.Booked.{setting_of, released, Numbered}
use Rattle.pool.specs.Changes.{release_writes}
use Rattle.pool.specs.declared.Space.{Space}
use Rattle.effect.specs.OfPool.{OfPool}
use Rattle.effect.specs.Whole.{Whole}

-- same, quiet: no address's meaning changes, at any moment. frees, stays, others: exactly the pages whose number is below the ticket become free.
-- obeys: nothing that was set aside is written.
pub record ToldDone (h : ℕ → Bool) (sp : Space) (m : ℕ → ℕ) (role : ℕ → Role) (t k : ℕ) : Type 0 where
  pub whole : Whole h sp (after m (release_writes sp (book_of m sp) k)) (released m sp k role)
  pub same : (va : ℕ) → meaning (setting_of h sp) (after m (release_writes sp (book_of m sp) k)) va ≡ meaning (setting_of h sp) m va
  pub quiet : Quiet (walker_of (setting_of h sp)) m (events_of (release_writes sp (book_of m sp) k))
  pub obeys : ObeysOf (setting_of h sp) role m (events_of (release_writes sp (book_of m sp) k)) role
  pub proper : Every (OfPool sp) (release_writes sp (book_of m sp) k)
  pub enough : k ≤ (book_of m sp).aside
  pub frees : (p n : ℕ) → Numbered m sp p n → n < t → released m sp k role p ≡ free
  pub stays : (p n : ℕ) → Numbered m sp p n → t ≤ n → (released m sp k role p ≡ aside) × Numbered (after m (release_writes sp (book_of m sp) k)) sp p n
  pub others : (p : ℕ) → role p ≢ aside → released m sp k role p ≡ role p
