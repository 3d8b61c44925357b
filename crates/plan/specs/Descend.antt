-- The way from the root towards the entry of an address at a target level: a fold of steps that read one entry each.
-- It goes through pages of the pool only, and remembers the tables that it came through, the last one first.
use Rattle.std.specs.Prelude.{◌≡◌, ℕ, zero, suc, Bool, cond, ◌==◌}
use Rattle.std.specs.declared.ops.ControlFlow.{ControlFlow}
use Rattle.std.specs.declared.ops.ControlFlow.TheVariants.{Continue, Break}
use Rattle.entry.specs.declared.Rights.{Rights}
use Rattle.entry.specs.Entry.{says}
use Rattle.entry.specs.declared.Entry.{Entry}
use Rattle.entry.specs.declared.Entry.TheVariants as entry
use Rattle.walk.specs.Walk.{index_of, entry_of}
use Rattle.pool.specs.Book.{in_pool}
use Rattle.pool.specs.declared.Space.{Space}
use Rattle.plan.specs.declared.descent.Why.{Why}
use Rattle.plan.specs.declared.descent.Why.TheVariants.{Nothing, Page, Table, Stray}
use Rattle.plan.specs.declared.descent.Way.{Way}
use Rattle.plan.specs.declared.descent.Arrival.{Arrival}

-- a way that goes on at the table in a page, or has stopped
pub data Descent : Type 0 where
  Going : ℕ → Way → Descent
  Stopped : Way → Descent

unfoldable pub push_of : Way → ℕ → Way
push_of w t = record { why = Stray; level = w.level; word = w.word; a = t; b = w.a; c = w.b; d = w.c }

abbrev pub stop_way : Why → ℕ → ℕ → Way → Way
stop_way y n x w = record { why = y; level = n; word = x; a = w.a; b = w.b; c = w.c; d = w.d }

unfoldable pub stop_of : Why → ℕ → ℕ → Way → Descent
stop_of y n x w = Stopped (stop_way y n x w)

-- the entry of level n, whose word is x, says so
unfoldable pub at_entry_of : ℕ → ℕ → ℕ → Way → Entry → Descent
at_entry_of target n x w entry.Nothing = stop_of Nothing n x w
at_entry_of target n x w (entry.Page f g) = stop_of Page n x w
at_entry_of target n x w (entry.Table t g) = cond (n == target) (stop_of Table n x w) (Going t w)

-- the way has come to the table in page t, of level n
unfoldable pub arrive_of : (ℕ → Bool) → (ℕ → ℕ) → Space → ℕ → ℕ → ℕ → ℕ → Way → Descent
arrive_of h m sp target va n t w =
    cond (in_pool sp t)
    (cond (h t) (at_entry_of target n (m (entry_of n va t)) (push_of w t) (says n (m (entry_of n va t)))) (stop_of Stray n 0 w))
    (stop_of Stray n 0 w)

unfoldable pub step_down_of : (ℕ → Bool) → (ℕ → ℕ) → Space → ℕ → ℕ → ℕ → Descent → Descent
step_down_of h m sp target va n (Going t w) = arrive_of h m sp target va n t w
step_down_of h m sp target va n (Stopped w) = Stopped w

-- the steps at the levels below n, from the top
unfoldable pub down_of : (ℕ → Bool) → (ℕ → ℕ) → Space → ℕ → ℕ → ℕ → Descent → Descent
down_of h m sp target va zero s = s
down_of h m sp target va (suc n) s = down_of h m sp target va n (step_down_of h m sp target va n s)

unfoldable pub end_of : Descent → Way
end_of (Going t w) = w
end_of (Stopped w) = w

abbrev pub no_way : Way
no_way = record { why = Stray; level = 0; word = 0; a = 0; b = 0; c = 0; d = 0 }

abbrev pub start_of : Space → Descent
start_of sp = Going sp.root no_way

-- THE WAY of an address to its entry at the target level
unfoldable pub way_of : (ℕ → Bool) → (ℕ → ℕ) → Space → ℕ → ℕ → Way
way_of h m sp va target = end_of (down_of h m sp target va 4 (start_of sp))

-- What the code keeps of it, so as not to find it out again: the index of the entry where the way stopped, and its frame ---------

abbrev pub framed_of : Entry → ℕ
framed_of entry.Nothing = 0
framed_of (entry.Page f g) = f
framed_of (entry.Table t g) = 0

-- the entry where the way stopped is a page's
pub record Paged (w : Way) : Type 0 where
  pub frame : ℕ
  pub rights : Rights
  pub entry : says w.level w.word ≡ entry.Page frame rights

unfoldable pub stop_at : ℕ → Way → Arrival
stop_at va w = record { way = w; index = index_of w.level va; frame = framed_of (says w.level w.word) }

unfoldable pub descending_of : ℕ → Descent → ControlFlow Arrival (ℕ × Way)
descending_of va (Going t w) = Continue (t, w)
descending_of va (Stopped w) = Break (stop_at va w)

abbrev pub level_of : Descent → ℕ
level_of (Going t w) = w.level
level_of (Stopped w) = w.level
