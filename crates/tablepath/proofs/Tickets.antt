-- THE TICKET THAT UNMAP ANSWERS can be reported, and then every table that it set aside is free again.
use Prim.Native.Nat.{ℕ, ◌^◌, ◌≤◌}
use mathlib.Core.List.{List}
use mathlib.Core.Path.{◌≡◌}
use native.Mathlib.Omega.{arith}
use Rattle.std.proofs.Common.{Ok}
use Rattle.word.specs.Memory.{memory, holds}
use Rattle.word.specs.Writes.{after, carried}
use Rattle.word.proofs.Writes.{holds_carried, memory_carried}
use Rattle.tables.specs.Roles.{Role}
use Rattle.pool.specs.Book.{book_of}
use Rattle.pool.specs.declared.Space.{Space}
use Rattle.tablepath.specs.Answers.{unmap_answer, unmap_writes}
use Rattle.tablepath.specs.Calls.{call_writes}
use Rattle.tablepath.specs.Calls as calls
use Rattle.tablepath.specs.Says.{UnmapGone}
use Rattle.tablepath.specs.declared.Gone.{Gone}
use Rattle.tablepath.proofs.Says.{unmap_says}
use Rattle.tablepath.specs.Looks.{in_window, WholeBytes}
use Rattle.tablepath.specs.Tickets.{Reports}
use Rattle.tablepath.proofs.Wholes.{call_leaves}

module _ (s : List ℕ) (sp : Space) (role : ℕ → Role) (w : WholeBytes s sp role) (base : ℕ) (g : Gone)
    (done : in_window s sp.origin unmap_answer sp base ≡ Ok g) (early : g.ticket ≤ 2 ^ 62) where
  -- the memory after it
  abbrev now : ℕ → ℕ
  now = after (memory s sp.origin) (in_window s sp.origin unmap_writes sp base)

  said : UnmapGone (holds s sp.origin) (holds s sp.origin) sp (memory s sp.origin) now role base g
  said = (unmap_says w base).gone g done

  reports : Reports (holds s sp.origin) now sp g.ticket g.aside
  reports = ((book_of now sp).aside, said.releases.1 early, omega (arith, said.more))

  -- THE REPORT of the ticket, right after, is done: what was set aside is free again
  pub told_after_unmap : Reports (holds (carried s sp.origin (in_window s sp.origin unmap_writes sp base)) sp.origin)
      (memory (carried s sp.origin (in_window s sp.origin unmap_writes sp base)) sp.origin) sp g.ticket g.aside
  unfolding call_writes
  told_after_unmap =
      rw (holds_carried s sp.origin _, memory_carried s sp.origin _ (call_leaves _ sp _ role w (calls.unmap base)).1) reports
