-- Of any bytes: where a way stops is one of the four levels, and one that stopped at a page did; and what the code keeps of a way.
use Rattle.std.proofs.Common.{◌≡◌, ℕ, zero, suc, ◌<◌, ◌≤◌, Bool, true, false, cond, eqb, refl, ap, arith, Continue, Break}
use Rattle.entry.specs.Entry.{bit, says}
use Rattle.entry.specs.declared.Entry.{Entry}
use Rattle.entry.specs.declared.Entry.TheVariants as entry
use Rattle.entry.proofs.Fields.{last_no_table}
use Rattle.walk.specs.Walk.{entry_of, index_of}
use Rattle.pool.specs.Book.{in_pool}
use Rattle.pool.specs.declared.Space.{Space}
use Rattle.plan.specs.declared.descent.Way.{Way}
use Rattle.plan.specs.declared.descent.Why.{Why}
use Rattle.plan.specs.declared.descent.Why.TheVariants as why
use Rattle.plan.specs.declared.descent.Arrival.{Arrival}
use Rattle.plan.specs.Descend.{Descent, Going, Stopped, push_of, stop_of, at_entry_of, arrive_of, step_down_of, down_of, end_of, no_way, start_of, way_of, level_of, Paged, framed_of, stop_at, descending_of}

-- Levels -----------------------------------------------------------------------------------------------------------------------

end_level : (s : Descent) → (end_of s).level ≡ level_of s
unfolding end_of
end_level (Going t w) = refl
end_level (Stopped w) = refl

told_low : (target n x : ℕ) (w : Way) (e : Entry) → n < 4 → w.level < 4 → level_of (at_entry_of target n x w e) < 4
unfolding at_entry_of stop_of
told_low target n x w entry.Nothing u v = u
told_low target n x w (entry.Page f g) u v = u
told_low target n x w (entry.Table t g) u v = go (eqb n target)
  where
    go : (b : Bool) → level_of (cond b (stop_of why.Table n x w) (Going t w)) < 4
    go true = u
    go false = v

step_low : (h : ℕ → Bool) (m : ℕ → ℕ) (sp : Space) (target va n : ℕ) (s : Descent) → n < 4 → level_of s < 4 → level_of (step_down_of h m sp target va n s) < 4
unfolding step_down_of arrive_of stop_of push_of
step_low h m sp target va n (Stopped w) u v = v
step_low h m sp target va n (Going t w) u v = go (in_pool sp t) (h t)
  where
    go : (a b : Bool)
        → level_of (cond a (cond b (at_entry_of target n (m (entry_of n va t)) (push_of w t) (says n (m (entry_of n va t)))) (stop_of why.Stray n 0 w)) (stop_of why.Stray n 0 w)) < 4
    go true true = told_low target n (m (entry_of n va t)) (push_of w t) (says n (m (entry_of n va t))) u v
    go true false = u
    go false b = u

down_low : (h : ℕ → Bool) (m : ℕ → ℕ) (sp : Space) (target va n : ℕ) (s : Descent) → n ≤ 4 → level_of s < 4 → level_of (down_of h m sp target va n s) < 4
unfolding down_of
down_low h m sp target va zero s u v = v
down_low h m sp target va (suc n) s u v =
    down_low h m sp target va n (step_down_of h m sp target va n s) (omega arith) (step_low h m sp target va n s (omega arith) v)

pub way_low : (h : ℕ → Bool) (m : ℕ → ℕ) (sp : Space) (va target : ℕ) → (way_of h m sp va target).level < 4
unfolding way_of
way_low h m sp va target =
    rw (end_level (down_of h m sp target va 4 (Going sp.root no_way))) (down_low h m sp target va 4 (Going sp.root no_way) (omega arith) (omega arith))

-- A way that has stopped comes no further, and at the last table each has -------------------------------------------------------

pub down_stopped : (h : ℕ → Bool) (m : ℕ → ℕ) (sp : Space) (target va n : ℕ) (w : Way) → down_of h m sp target va n (Stopped w) ≡ Stopped w
unfolding down_of step_down_of
down_stopped h m sp target va zero w = refl
down_stopped h m sp target va (suc n) w = down_stopped h m sp target va n w

abbrev Ended : Descent → Type 0
Ended (Going t w) = ⊥
Ended (Stopped w) = Unit {0}

told_ended : (target x : ℕ) (w : Way) (e : Entry) → says 0 x ≡ e → Ended (at_entry_of target 0 x w e)
unfolding at_entry_of stop_of
told_ended target x w entry.Nothing e = tt
told_ended target x w (entry.Page f g) e = tt
told_ended target x w (entry.Table t g) e = absurd (last_no_table x t g e)

step_ended : (h : ℕ → Bool) (m : ℕ → ℕ) (sp : Space) (target va : ℕ) (s : Descent) → Ended (step_down_of h m sp target va 0 s)
unfolding step_down_of arrive_of stop_of
step_ended h m sp target va (Stopped w) = tt
step_ended h m sp target va (Going t w) = go (in_pool sp t) (h t)
  where
    go : (a b : Bool)
        → Ended (cond a (cond b (at_entry_of target 0 (m (entry_of 0 va t)) (push_of w t) (says 0 (m (entry_of 0 va t)))) (stop_of why.Stray 0 0 w)) (stop_of why.Stray 0 0 w))
    go true true = told_ended target (m (entry_of 0 va t)) (push_of w t) (says 0 (m (entry_of 0 va t))) refl
    go true false = tt
    go false b = tt

-- A way that stopped at a page -------------------------------------------------------------------------------------------------

abbrev Known : Descent → Type 0
Known (Going t w) = w.why ≡ why.Stray
Known (Stopped w) = w.why ≡ why.Page → Paged w

told_known : (target n x : ℕ) (w : Way) (e : Entry) → says n x ≡ e → w.why ≡ why.Stray → Known (at_entry_of target n x w e)
unfolding at_entry_of stop_of
told_known target n x w entry.Nothing e s = λ k. let z : ◌≡◌ {A = ℕ} 0 1 = cc in absurd (omega arith)
told_known target n x w (entry.Page f g) e s = λ k. record { frame = f; rights = g; entry = e }
told_known target n x w (entry.Table t g) e s = go (eqb n target)
  where
    go : (b : Bool) → Known (cond b (stop_of why.Table n x w) (Going t w))
    go true = λ k. let z : ◌≡◌ {A = ℕ} 0 1 = cc in absurd (omega arith)
    go false = s

step_known : (h : ℕ → Bool) (m : ℕ → ℕ) (sp : Space) (target va n : ℕ) (s : Descent) → Known s → Known (step_down_of h m sp target va n s)
unfolding step_down_of arrive_of stop_of push_of
step_known h m sp target va n (Stopped w) k = k
step_known h m sp target va n (Going t w) k = go (in_pool sp t) (h t)
  where
    go : (a b : Bool)
        → Known (cond a (cond b (at_entry_of target n (m (entry_of n va t)) (push_of w t) (says n (m (entry_of n va t)))) (stop_of why.Stray n 0 w)) (stop_of why.Stray n 0 w))
    go true true = told_known target n (m (entry_of n va t)) (push_of w t) (says n (m (entry_of n va t))) refl refl
    go true false = λ e. let z : ◌≡◌ {A = ℕ} 0 1 = cc in absurd (omega arith)
    go false b = λ e. let z : ◌≡◌ {A = ℕ} 0 1 = cc in absurd (omega arith)

down_known : (h : ℕ → Bool) (m : ℕ → ℕ) (sp : Space) (target va n : ℕ) (s : Descent) → Known s → Known (down_of h m sp target va n s)
unfolding down_of
down_known h m sp target va zero s k = k
down_known h m sp target va (suc n) s k = down_known h m sp target va n (step_down_of h m sp target va n s) (step_known h m sp target va n s k)

end_known : (s : Descent) → Known s → (end_of s).why ≡ why.Page → Paged (end_of s)
unfolding end_of
end_known (Going t w) k e = let z : ◌≡◌ {A = ℕ} 0 1 = cc in absurd (omega arith)
end_known (Stopped w) k e = k e

pub way_paged : (h : ℕ → Bool) (m : ℕ → ℕ) (sp : Space) (va target : ℕ) → (way_of h m sp va target).why ≡ why.Page → Paged (way_of h m sp va target)
unfolding way_of
way_paged h m sp va target = end_known (down_of h m sp target va 4 (Going sp.root no_way)) (down_known h m sp target va 4 (Going sp.root no_way) refl)

-- The table that a way stopped in is the pool's --------------------------------------------------------------------------------

module _ (h : ℕ → Bool) (m : ℕ → ℕ) (sp : Space) (target va : ℕ) where
  abbrev Inside : Descent → Type 0
  Inside (Going t w) = w.why ≡ why.Stray
  Inside (Stopped w) = w.why ≡ why.Nothing → in_pool sp w.a ≡ true

  told_inside : (n x : ℕ) (w : Way) (e : Entry) → in_pool sp w.a ≡ true → w.why ≡ why.Stray → Inside (at_entry_of target n x w e)
  unfolding at_entry_of stop_of
  told_inside n x w entry.Nothing i s = λ _. i
  told_inside n x w (entry.Page f g) i s = λ _. i
  told_inside n x w (entry.Table t g) i s = go (eqb n target)
    where
      go : (b : Bool) → Inside (cond b (stop_of why.Table n x w) (Going t w))
      go true = λ _. i
      go false = s

  step_inside : (n : ℕ) (s : Descent) → Inside s → Inside (step_down_of h m sp target va n s)
  unfolding step_down_of arrive_of stop_of push_of
  step_inside n (Stopped w) k = k
  step_inside n (Going t w) k = go (in_pool sp t) (h t) refl
    where
      go : (a b : Bool) → in_pool sp t ≡ a
          → Inside (cond a (cond b (at_entry_of target n (m (entry_of n va t)) (push_of w t) (says n (m (entry_of n va t)))) (stop_of why.Stray n 0 w)) (stop_of why.Stray n 0 w))
      go true true i = told_inside n (m (entry_of n va t)) (push_of w t) (says n (m (entry_of n va t))) i refl
      go true false i = λ e. let z : ◌≡◌ {A = ℕ} 0 1 = cc e in absurd (omega arith)
      go false b i = λ e. let z : ◌≡◌ {A = ℕ} 0 1 = cc e in absurd (omega arith)

  down_inside : (n : ℕ) (s : Descent) → Inside s → Inside (down_of h m sp target va n s)
  unfolding down_of
  down_inside zero s k = k
  down_inside (suc n) s k = down_inside n (step_down_of h m sp target va n s) (step_inside n s k)

  end_inside : (s : Descent) → Inside s → (end_of s).why ≡ why.Nothing → in_pool sp (end_of s).a ≡ true
  unfolding end_of
  end_inside (Going t w) k e = let z : ◌≡◌ {A = ℕ} 0 1 = cc in absurd (omega arith)
  end_inside (Stopped w) k e = k e

pub way_in : (h : ℕ → Bool) (m : ℕ → ℕ) (sp : Space) (va target : ℕ) → (way_of h m sp va target).why ≡ why.Nothing → in_pool sp (way_of h m sp va target).a ≡ true
unfolding way_of
way_in h m sp va target = end_inside h m sp target va (down_of h m sp target va 4 (Going sp.root no_way)) (down_inside h m sp target va 4 (Going sp.root no_way) refl)

-- What the code keeps ----------------------------------------------------------------------------------------------------------

pub nothing_framed : (n : ℕ) → framed_of (says n 0) ≡ 0
unfolding says bit
nothing_framed n = refl

module _ (va : ℕ) where
  module _ (h : ℕ → Bool) (m : ℕ → ℕ) (sp : Space) (target : ℕ) where
    going : (n u : ℕ) (v : Way) (o : Descent) → Continue (u, v) ≡ descending_of va o → down_of h m sp target va n o ≡ down_of h m sp target va n (Going u v)
    unfolding descending_of
    going n u v (Going t w) e = let q : ◌≡◌ {A = ℕ × Way} (u, v) (t, w) = cc in cc (ap (λ p. p.0) q, ap (λ p. p.1) q)
    going n u v (Stopped w) e = let z : ◌≡◌ {A = ℕ} 0 1 = cc in absurd (omega arith)

    stopped : (n : ℕ) (x : Arrival) (o : Descent) → Break x ≡ descending_of va o → Break x ≡ descending_of va (down_of h m sp target va n o)
    unfolding descending_of
    stopped n x (Going t w) e = let z : ◌≡◌ {A = ℕ} 0 1 = cc in absurd (omega arith)
    stopped n x (Stopped w) e = rw (down_stopped h m sp target va n w) e

    -- by what the code finds in the table in page t, of level n
    module _ (n t : ℕ) (w : Way) where
      pub went_on : (u : ℕ) (v : Way) → Continue (u, v) ≡ descending_of va (arrive_of h m sp target va n t w)
          → down_of h m sp target va (suc n) (Going t w) ≡ down_of h m sp target va n (Going u v)
      unfolding down_of step_down_of
      went_on u v e = going n u v (arrive_of h m sp target va n t w) e

      pub went_to : (x : Arrival) → Break x ≡ descending_of va (arrive_of h m sp target va n t w)
          → Break x ≡ descending_of va (down_of h m sp target va (suc n) (Going t w))
      unfolding down_of step_down_of
      went_to x e = stopped n x (arrive_of h m sp target va n t w) e

    -- and at the last table
    pub went_last : (t : ℕ) (w : Way) → down_of h m sp target va 1 (Going t w) ≡ arrive_of h m sp target va 0 t w
    unfolding down_of step_down_of
    went_last t w = refl

    ended : (o : Descent) → Ended o → descending_of va o ≡ Break (stop_at va (end_of o))
    unfolding descending_of end_of
    ended (Going t w) k = absurd k
    ended (Stopped w) k = refl

    pub descended : descending_of va (down_of h m sp target va 4 (start_of sp)) ≡ Break (stop_at va (way_of h m sp va target))
    unfolding way_of down_of
    descended = ended _ (step_ended h m sp target va _)

  -- an entry that was told
  pub told_stop : (y : Why) (n x i f : ℕ) (w : Way) → i ≡ index_of n va → framed_of (says n x) ≡ f
      → Break (record { way = record { why = y; level = n; word = x; a = w.a; b = w.b; c = w.c; d = w.d }; index = i; frame = f }) ≡ descending_of va (stop_of y n x w)
  unfolding descending_of stop_at stop_of
  told_stop y n x i f w e k = rw (e, k)
