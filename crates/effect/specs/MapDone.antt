-- WHAT IS SO WHEN MAP HAS DONE IT, in a space that is whole: exactly what was asked has changed, by one write, and the space is whole.
use Rattle.std.specs.Prelude.{ℕ, suc, ◌+◌, ◌%◌, ◌≤◌, Bool, true, false, ◌≡◌}
use Rattle.word.specs.Writes.{after, Every}
use Rattle.entry.specs.Entry.{size_of, frame_end}
use Rattle.entry.specs.declared.Entry.TheVariants.{Nothing}
use Rattle.walk.specs.Walk.{canonical, index_of}
use Rattle.walk.specs.declared.Found.TheVariants as found
use Rattle.tables.specs.Roles.{Setting, Role, Home, entry_at}
use Rattle.tables.specs.Way.{Comes}
use Rattle.tables.specs.Operation.{Changed}
use Rattle.pool.specs.Book.{book_of, page_at}
use Rattle.pool.specs.Booked.{setting_of, Booked, Taken, tables_of}
use Rattle.pool.specs.declared.Space.{Space}
use Rattle.plan.specs.declared.maps.Asked.{Asked}
use Rattle.plan.specs.declared.maps.Mapping.{Mapping}
use Rattle.plan.specs.Map.{writes_of}
use Rattle.plan.specs.Rights.{write_execute}
use Rattle.effect.specs.Whole.{Whole}
use Rattle.effect.specs.Numbers.{KeepsNumbers}

-- what is asked is a page of level l, aligned, at an address and in range, and not both writable and executable; it lies in one half of the
-- addresses (`page_in_half`)
pub record Fitted (l : ℕ) (q : Asked) : Type 0 where
  pub level : l ≤ 2
  pub size_is : q.size ≡ size_of l
  pub base_aligned : q.base % q.size ≡ 0
  pub frame_aligned : q.frame % q.size ≡ 0
  pub base_fits : canonical q.base ≡ true
  pub frame_fits : q.frame + q.size ≤ frame_end
  pub strict : write_execute q.rights ≡ false

-- n tables are missing on the way of va to level l: it stops n levels above, where nothing is
pub record Misses (σ : Setting) (m : ℕ → ℕ) (va l n : ℕ) : Type 0 where
  pub table : ℕ
  pub comes : Comes σ m va (suc (l + n)) table
  pub nothing : entry_at m (l + n) table (index_of (l + n) va) ≡ Nothing

-- changed: every address of [base, base + size) has the page that was asked, and no other address has changed; see Operation.antt.
-- missing, few, taken: the tables that were missing, at most three, are the oldest free pages; no other page has another role.
-- fewer, more: so many free pages fewer, so many tables more.
-- proper: words are written to pages of the pool that lie in the window, and nowhere else.
pub record MapDone (h : ℕ → Bool) (sp : Space) (m : ℕ → ℕ) (role : ℕ → Role) (q : Asked) (p : Mapping) : Type 0 where
  pub role' : ℕ → Role
  pub fitted : Fitted p.target q
  pub missing : Misses (setting_of h sp) m q.base p.target p.fresh.need
  pub few : p.fresh.need ≤ 3
  pub taken : Taken (page_at m sp) p.fresh.need role role'
  pub fewer : (book_of m sp).free ≡ (book_of (after m (writes_of sp p)) sp).free + p.fresh.need
  pub more : tables_of sp role' ≡ tables_of sp role + p.fresh.need
  pub changed : Changed (setting_of h sp) m role q.base p.target (found.Page q.base q.size q.frame q.rights) (writes_of sp p)
      (after m (writes_of sp p)) role'
  pub booked : Booked sp (after m (writes_of sp p)) role'
  pub whole : Whole h sp (after m (writes_of sp p)) role'
  pub proper : Every (Home (setting_of h sp)) (writes_of sp p)
  pub numbers : KeepsNumbers sp m (after m (writes_of sp p))
