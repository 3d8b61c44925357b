-- A step of the way by what it read; and an entry of the way that is set.
use Rattle.std.proofs.Common.{◌≡◌, ℕ, Bool, true, false, cond, List, [], ◌∷◌, refl, arith, le-leb, Option, Some, None, Ok, Err}
use Rattle.plan.specs.declared.direct.Stop.TheVariants as stop
use Rattle.word.specs.Memory.{memory, holds}
use Rattle.word.specs.Writes.{write}
use Rattle.word.specs.Runs.{among_of}
use Rattle.word.proofs.Runs.{run_holds, InRun, word_among, outside_among, among_is, one_among}
use Rattle.entry.specs.Entry.{says}
use Rattle.walk.specs.Walk.{index_of}
use Rattle.walk.specs.Walk as walk
use Rattle.walk.proofs.Digits.{index_lt}
use Rattle.pool.specs.Layout.{book_pages}
use Rattle.pool.specs.Book.{in_pool}
use Rattle.pool.specs.Stands.{stands_of, read_entry_of, entry_writes}
use Rattle.pool.specs.declared.Space.{Space}
use Rattle.pool.proofs.Counting.{in_pool_lem, pool_in}
use Rattle.pool.proofs.Opening.{fit_runs}
use Rattle.plan.specs.declared.descent.Way.{Way}
use Rattle.plan.specs.declared.descent.Why.TheVariants.{Stray}
use Rattle.plan.specs.Descend.{push_of, stop_of, at_entry_of, arrive_of}
use Rattle.plan.specs.AtOnce.{lead_by, lead_of}
use Rattle.plan.proofs.Standing.{stands}

module _ (s : List ℕ) (sp : Space) (e : stands_of (holds s sp.origin) sp ≡ Ok tt) where
  entry_among : (p i : ℕ) (x : Option ℕ) → read_entry_of s sp p i ≡ x → among_of s sp.origin sp.first (book_pages sp.pages) sp.pages p i ≡ x
  unfolding read_entry_of
  entry_among p i x r = simp (le-leb _ _ (stands (holds s sp.origin) sp e).fits.small) at r

  -- a page of the pool is one of a run that lies in the window
  pool_among : (n va t : ℕ) → in_pool sp t ≡ true → InRun s sp.origin sp.first sp.pages (book_pages sp.pages) t (index_of n va)
  pool_among n va t here =
      let k = pool_in sp t here in
      record { run = fit_runs _ _ _ _ (stands (holds s sp.origin) sp e).fits; small = index_lt n va; behind = k.behind; before_end = k.before_end }

  module _ (va n t : ℕ) where
    record Read (x : ℕ) : Type 0 where
      here : in_pool sp t ≡ true
      held : holds s sp.origin t ≡ true
      word : memory s sp.origin (walk.entry_of n va t) ≡ x

    was_read : (x : ℕ) → read_entry_of s sp t (index_of n va) ≡ Some x → Read x
    was_read x r =
        let k = word_among _ _ _ _ _ _ _ x (entry_among t (index_of n va) (Some x) r) in
        let a = k.0 in
        record {
          here = in_pool_lem sp t (record { behind = a.behind; before_end = a.before_end });
          held = run_holds _ _ _ _ a.run t (omega (arith, a.behind)) a.before_end;
          word = k.1;
        }

    no_page : read_entry_of s sp t (index_of n va) ≡ None → in_pool sp t ≡ false
    no_page r = go (in_pool sp t) refl
      where
        go : (b : Bool) → in_pool sp t ≡ b → b ≡ false
        go true here = absurd (outside_among _ _ _ _ _ _ _ (entry_among t (index_of n va) None r) (pool_among n va t here))
        go false here = refl

    module _ (target : ℕ) (w : Way) where
      pub arrive_word : (x : ℕ) → read_entry_of s sp t (index_of n va) ≡ Some x
          → arrive_of (holds s sp.origin) (memory s sp.origin) sp target va n t w ≡ at_entry_of target n x (push_of w t) (says n x)
      unfolding arrive_of
      arrive_word x r = let k = was_read x r in rw (k.here, k.held, k.word)

      pub arrive_outside : read_entry_of s sp t (index_of n va) ≡ None → arrive_of (holds s sp.origin) (memory s sp.origin) sp target va n t w ≡ stop_of Stray n 0 w
      unfolding arrive_of
      arrive_outside r = rw (no_page r)

    pub lead_word : (x : ℕ) → read_entry_of s sp t (index_of n va) ≡ Some x → lead_of (holds s sp.origin) (memory s sp.origin) sp va n t ≡ lead_by (says n x)
    unfolding lead_of
    lead_word x r = let k = was_read x r in rw (k.here, k.held, k.word)

    pub lead_outside : read_entry_of s sp t (index_of n va) ≡ None → lead_of (holds s sp.origin) (memory s sp.origin) sp va n t ≡ Err stop.Stray
    unfolding lead_of
    lead_outside r = rw (no_page r)

    lead_in : lead_of (holds s sp.origin) (memory s sp.origin) sp va n t ≡ Err stop.Nothing → in_pool sp t ≡ true
    unfolding lead_of
    lead_in r = go (in_pool sp t) refl r
      where
        go : (b : Bool) → in_pool sp t ≡ b
            → cond b (cond (holds s sp.origin t) (lead_by (says n (memory s sp.origin (walk.entry_of n va t)))) (Err stop.Stray)) (Err stop.Stray) ≡ Err stop.Nothing
            → b ≡ true
        go true here k = refl
        go false here k = let z : ◌≡◌ {A = ℕ} 0 1 = cc in absurd (omega arith)

    -- where an entry leads to nothing, setting it is one write
    pub lead_entry : (x : ℕ) → lead_of (holds s sp.origin) (memory s sp.origin) sp va n t ≡ Err stop.Nothing
        → entry_writes s sp t (index_of n va) x ≡ write t (index_of n va) x ∷ []
    unfolding entry_writes
    lead_entry x r =
        simp (le-leb _ _ (stands (holds s sp.origin) sp e).fits.small)
        (one_among _ _ _ _ _ _ _ x (among_is _ _ _ _ _ _ _ (pool_among n va t (lead_in r))))
