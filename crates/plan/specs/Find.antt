-- The page that starts exactly at a base: where its entry is and what it says, or why there is none.
use Rattle.std.specs.Prelude.{ℕ, ◌%◌, Bool, cond, ◌==◌, nat_le, Result, Ok, Err}
use Rattle.pool.specs.declared.Reason.{Reason as PoolReason}
use Rattle.plan.specs.declared.Reason.{Reason}
use Rattle.plan.specs.declared.finding.PageEntry.{PageEntry}
use Rattle.entry.specs.Entry.{size_of, says}
use Rattle.entry.specs.declared.Entry.{Entry}
use Rattle.entry.specs.declared.Entry.TheVariants as entry
use Rattle.walk.specs.Walk.{canonical, index_of}
use Rattle.pool.specs.Book.{names_of}
use Rattle.pool.specs.declared.Space.{Space}
use Rattle.plan.specs.declared.Reason.TheVariants.{BaseRange, NothingStarts, Stray, Pool}
use Rattle.plan.specs.declared.descent.Why.{Why}
use Rattle.plan.specs.declared.descent.Why.TheVariants as why
use Rattle.plan.specs.declared.descent.Way.{Way}
use Rattle.plan.specs.Descend.{way_of}

-- va is the first address that an entry of level n covers
unfoldable pub starts_of : ℕ → ℕ → Bool
starts_of n va = va % size_of n == 0

-- the way stopped at a page
unfoldable pub page_entry_of : ℕ → Way → Entry → Result PageEntry Reason
page_entry_of va w entry.Nothing = Err NothingStarts
page_entry_of va w (entry.Page f g) = Ok (record { way = w; index = index_of w.level va; frame = f; size = size_of w.level })
page_entry_of va w (entry.Table t g) = Err NothingStarts

unfoldable pub found_because_of : ℕ → Way → Why → Result PageEntry Reason
found_because_of va w why.Stray = Err Stray
found_because_of va w why.Nothing = Err NothingStarts
found_because_of va w why.Table = Err NothingStarts
found_because_of va w why.Page = cond (starts_of w.level va) (page_entry_of va w (says w.level w.word)) (Err NothingStarts)

unfoldable pub found_stopped_of : ℕ → Way → Result PageEntry Reason
found_stopped_of va w = cond (nat_le w.level 3) (found_because_of va w w.why) (Err Stray)

unfoldable pub sought_of : (ℕ → Bool) → (ℕ → ℕ) → Space → ℕ → Result (Unit {0}) PoolReason → Result PageEntry Reason
sought_of h m sp va (Ok tt) = cond (canonical va) (found_stopped_of va (way_of h m sp va 4)) (Err BaseRange)
sought_of h m sp va (Err r) = Err (Pool r)

-- WHAT IS FOUND
unfoldable pub find_of : (ℕ → Bool) → (ℕ → ℕ) → Space → ℕ → Result PageEntry Reason
find_of h m sp va = sought_of h m sp va (names_of h m sp)
