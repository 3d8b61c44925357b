-- OF ANY BYTES: the tables that a way came through are pages of the pool, behind the book.
use Prim.Native.Nat.{ℕ, zero, suc, ◌+◌, ◌^◌, ◌<◌, ◌≤◌}
use mathlib.Core.Bool.{Bool, true, false, cond}
use mathlib.Core.Logic.{◌≢◌}
use mathlib.Core.Path.{◌≡◌, refl, sym, subst}
use native.Mathlib.Omega.{arith}
use lib.Dec.{eqb}
use Rattle.entry.specs.Entry.{says}
use Rattle.entry.specs.declared.Entry.{Entry}
use Rattle.entry.specs.declared.Entry.TheVariants as entry
use Rattle.entry.proofs.Fields.{table_small}
use Rattle.walk.specs.Walk.{entry_of}
use Rattle.pool.specs.Book.{in_pool}
use Rattle.pool.specs.declared.Space.{Space}
use Rattle.pool.proofs.Counting.{InPool, pool_in}
use Rattle.plan.specs.declared.descent.Way.{Way}
use Rattle.plan.specs.declared.descent.Why.{Why}
use Rattle.plan.specs.declared.descent.Why.TheVariants as why
use Rattle.plan.specs.Descend.{Descent, Going, Stopped}
use Rattle.plan.specs.declared.finding.PageEntry.{PageEntry}
use Rattle.plan.specs.Descend.{push_of, stop_of, at_entry_of, arrive_of, step_down_of, down_of, end_of, no_way, way_of}
use Rattle.plan.proofs.Found.{FoundAt}
use Rattle.effect.proofs.Emptying.{table_at}

-- a way down to level n: its tables lie in the pool, and those below the root were named by an entry
pub record WayInPool (sp : Space) (n : ℕ) (w : Way) : Type 0 where
  pub inside : (j : ℕ) → j + n ≤ 3 → InPool sp (table_at w j)
  pub small : (j : ℕ) → j + n ≤ 2 → table_at w j < 2 ^ 40

-- one table more
push_through : (sp : Space) (n t : ℕ) (w : Way) → InPool sp t → (n ≤ 2 → t < 2 ^ 40) → WayInPool sp (suc n) w → WayInPool sp n (push_of w t)
unfolding push_of
push_through sp n t w i u k = record { inside = inside; small = small }
  where
    inside : (j : ℕ) → j + n ≤ 3 → InPool sp (table_at (push_of w t) j)
    inside zero v = i
    inside (suc zero) v = k.inside 0 (omega arith)
    inside (suc (suc zero)) v = k.inside 1 (omega arith)
    inside (suc (suc (suc zero))) v = k.inside 2 (omega arith)
    inside (suc (suc (suc (suc j)))) v = absurd (omega arith)

    small : (j : ℕ) → j + n ≤ 2 → table_at (push_of w t) j < 2 ^ 40
    small zero v = u (omega arith)
    small (suc zero) v = k.small 0 (omega arith)
    small (suc (suc zero)) v = k.small 1 (omega arith)
    small (suc (suc (suc j))) v = absurd (omega arith)

-- what a descent shows before the step of the level below n; nothing where the way is lost
abbrev DescentInPool : Space → ℕ → Descent → Type 0
DescentInPool sp n (Going t w) = (w.why ≡ why.Stray) × (n ≤ 3 → t < 2 ^ 40) × WayInPool sp n w
DescentInPool sp n (Stopped w) = w.why ≢ why.Stray → (w.level ≤ 3) × WayInPool sp w.level w

lost_inside : (sp : Space) (n l x : ℕ) (w : Way) → DescentInPool sp n (stop_of why.Stray l x w)
unfolding stop_of
lost_inside sp n l x w = λ d. absurd (d refl)

stop_inside : (sp : Space) (y : Why) (n x : ℕ) (w : Way) → n ≤ 3 → WayInPool sp n w → DescentInPool sp n (stop_of y n x w)
unfolding stop_of
stop_inside sp y n x w u k = λ d. (u, record { inside = λ j v. rw (same j) (k.inside j v); small = λ j v. rw (same j) (k.small j v) })
  where
    same : (j : ℕ) → table_at (record { why = y; level = n; word = x; a = w.a; b = w.b; c = w.c; d = w.d }) j ≡ table_at w j
    same zero = refl
    same (suc zero) = refl
    same (suc (suc zero)) = refl
    same (suc (suc (suc j))) = refl

module _ (h : ℕ → Bool) (m : ℕ → ℕ) (sp : Space) (target va : ℕ) where
  told_inside : (n x : ℕ) (w : Way) (e : Entry) → says n x ≡ e → n ≤ 3 → w.why ≡ why.Stray → WayInPool sp n w → DescentInPool sp n (at_entry_of target n x w e)
  unfolding at_entry_of
  told_inside n x w entry.Nothing s u y k = stop_inside sp why.Nothing n x w u k
  told_inside n x w (entry.Page f g) s u y k = stop_inside sp why.Page n x w u k
  told_inside n x w (entry.Table t g) s u y k = go (eqb n target)
    where
      go : (b : Bool) → DescentInPool sp n (cond b (stop_of why.Table n x w) (Going t w))
      go true = stop_inside sp why.Table n x w u k
      go false = (y, λ v. table_small n x t g s, k)

  step_inside : (n : ℕ) (s : Descent) → n ≤ 3 → DescentInPool sp (suc n) s → DescentInPool sp n (step_down_of h m sp target va n s)
  unfolding step_down_of arrive_of
  step_inside n (Stopped w) u k = k
  step_inside n (Going t w) u k = go (in_pool sp t) (h t) refl
    where
      go : (a b : Bool) → in_pool sp t ≡ a
          → DescentInPool sp n (cond a (cond b (at_entry_of target n (m (entry_of n va t)) (push_of w t) (says n (m (entry_of n va t)))) (stop_of why.Stray n 0 w)) (stop_of why.Stray n 0 w))
      go true true e =
          told_inside n (m (entry_of n va t)) (push_of w t) (says n (m (entry_of n va t))) refl u (unfold push_of in refl)
          (push_through sp n t w (pool_in sp t e) (λ v. k.1 (omega arith)) k.2)
      go true false e = lost_inside sp n n 0 w
      go false b e = lost_inside sp n n 0 w

  down_inside : (n : ℕ) (s : Descent) → n ≤ 4 → DescentInPool sp n s → DescentInPool sp 0 (down_of h m sp target va n s)
  unfolding down_of
  down_inside zero s u k = k
  down_inside (suc n) s u k = down_inside n (step_down_of h m sp target va n s) (omega arith) (step_inside n s (omega arith) k)

  end_inside : (s : Descent) → DescentInPool sp 0 s → (end_of s).why ≢ why.Stray → ((end_of s).level ≤ 3) × WayInPool sp (end_of s).level (end_of s)
  unfolding end_of
  end_inside (Going t w) k d = absurd (d k.0)
  end_inside (Stopped w) k d = k d

  -- THE WAY, where it is not lost
  pub way_through : (way_of h m sp va target).why ≢ why.Stray
      → ((way_of h m sp va target).level ≤ 3) × WayInPool sp (way_of h m sp va target).level (way_of h m sp va target)
  unfolding way_of
  way_through = end_inside (down_of h m sp target va 4 (Going sp.root no_way)) (down_inside 4 (Going sp.root no_way) (omega arith) start)
    where
      start : DescentInPool sp 4 (Going sp.root no_way)
      start = (refl, λ v. absurd (omega arith), record { inside = λ j v. absurd (omega arith); small = λ j v. absurd (omega arith) })

-- the way to a page that was found
pub entry_in_pool : {h : ℕ → Bool} {m : ℕ → ℕ} {sp : Space} {va : ℕ} {s : PageEntry} → FoundAt h m sp va s → WayInPool sp s.way.level s.way
entry_in_pool {h} {m} {sp} {va} {s} f = subst Ends f.way (λ d. (way_through h m sp 4 va d).1) (λ e. clash (sym f.page) e)
  where
    Ends : Way → Type 0
    Ends w = w.why ≢ why.Stray → WayInPool sp w.level w

    clash : why.Page ≡ s.way.why → s.way.why ≡ why.Stray → ⊥
    clash a b = let z : ◌≡◌ {A = ℕ} 0 1 = cc in omega arith
