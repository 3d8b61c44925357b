-- THE PERIODS OF A NIGHT, step by step: the last one is a run of calls from a moment on at which all was whole, and each shootdown under way began
-- in it.
use Prim.Native.Nat.{ℕ}
use mathlib.Core.Bool.{Bool}
use mathlib.Core.List.{List, [], ◌∷◌, ◌++◌, append_assoc, append-nil}
use mathlib.Core.Path.{◌≡◌, refl, sym, ap, ◌∙◌, subst}
use Rattle.world.specs.Events.{Event, after}
use Rattle.world.proofs.Events.{after_append}
use Rattle.world.specs.Marks.{writes}
use Rattle.world.specs.Reports.{Period, now, last, underway, next, oldest, younger}
use Rattle.world.proofs.Reports.{last_ends}
use Rattle.tables.specs.Roles.{Role}
use Rattle.pool.specs.Book.{book_of, ticket_of}
use Rattle.pool.specs.declared.Space.{Space}
use Rattle.effect.specs.Whole.{Whole}
use Rattle.tablepath.specs.Calls.{Within, Saw, Act, act_writes, wrote, Runs, UpTo, Others, Reached}
use Rattle.tablepath.specs.Nights.{Night, dusk, calls, happens, begins, done, history, last_began, last_since, behind, joined, lately, due, uncovered, waiting, code_sees}
use Rattle.tablepath.proofs.Marking.{writes_append, saw_self, saw_then, others_saw, others_append}
use Rattle.tablepath.proofs.Periods.{joined_append, wrote_append, runs_more, saw_same, upto_more, Later, Chain, chain_longer, chain_begins, later_whole, later_reached, later_waits}

module _ (h : ℕ → Bool) (sp : Space) where
  -- a run of which this waits still, where reports go no further than the ticket n
  abbrev pub Reaching : ℕ → (ℕ → ℕ) → List Act → List (Event ℕ) → List (Event ℕ) → Type 0
  Reaching n m cs gs w = (r : Reached h sp n m cs gs) × (r.waiting ≡ w)

  pub reach_none : (n : ℕ) (m : ℕ → ℕ) → Reaching n m [] [] []
  unfolding wrote Runs UpTo Others writes
  reach_none n m = (record { runs = tt; upto = tt; waiting = []; in_order = refl; others = tt }, refl)

  module _ (n : ℕ) (m : ℕ → ℕ) (cs : List Act) (gs w : List (Event ℕ)) (r : Reaching n m cs gs w) (x : ℕ → ℕ) (ends : after m gs ≡ x) where
    -- what the code sees is what its writes make of memory, but for marks
    pub reach_saw : Saw sp (after m (wrote h sp cs)) (after x w)
    reach_saw =
        subst (λ l. Saw sp (after m l) (after x w)) r.0.in_order
        (subst (λ y. Saw sp y (after x w)) (sym (after_append (writes gs) r.0.waiting m))
        (subst (λ l. Saw sp (after (after m (writes gs)) l) (after x w)) (sym r.1)
        (subst (λ y. Saw sp (after (after m (writes gs)) w) (after y w)) ends
        (saw_same h sp w _ _ (others_saw sp gs m m r.0.others (saw_self sp m))))))

    -- one call more
    pub reach_calls : (a : Act) → Saw sp (after x w) a.saw → Within n a.call → Reaching n m (cs ++ (a ∷ [])) gs (w ++ act_writes h sp a)
    reach_calls a saw within = (
      record {
        runs = runs_more h sp cs a m r.0.runs (saw_then sp reach_saw saw);
        upto = upto_more n cs a r.0.upto within;
        waiting = r.0.waiting ++ act_writes h sp a;
        in_order = sym (append_assoc (writes gs) r.0.waiting (act_writes h sp a)) ∙ ap (λ l. l ++ act_writes h sp a) r.0.in_order
            ∙ sym (wrote_append h sp cs (a ∷ []) ∙ ap (λ l. wrote h sp cs ++ l) one);
        others = r.0.others;
      },
      ap (λ l. l ++ act_writes h sp a) r.1,
    )
      where
        one : wrote h sp (a ∷ []) ≡ act_writes h sp a
        one = unfold wrote in append-nil (act_writes h sp a)

    -- one event more, of which these writes are ours
    pub reach_event : (e : Event ℕ) (rest : List (Event ℕ)) → writes (e ∷ []) ++ rest ≡ w → Others sp x (e ∷ []) → Reaching n m cs (gs ++ (e ∷ [])) rest
    reach_event e rest order others = (
      record {
        runs = r.0.runs;
        upto = r.0.upto;
        waiting = rest;
        in_order = ap (λ l. l ++ rest) (writes_append gs (e ∷ [])) ∙ append_assoc (writes gs) (writes (e ∷ [])) rest ∙ ap (λ l. writes gs ++ l) (order ∙ sym r.1) ∙ r.0.in_order;
        others = others_append sp gs (e ∷ []) m r.0.others (subst (λ y. Others sp y (e ∷ [])) (sym ends) others);
      },
      refl,
    )

  -- so many calls were made since the last period began, and this has happened; the shootdowns under way began in it, one after the other
  pub record Facts (N : Night) : Type 0 where
    pub role : ℕ → Role
    pub whole : Whole h sp (last_began N) role
    pub reached : Reaching (ticket_of (book_of (last_began N) sp)) (last_began N) (uncovered N) (last_since N) (waiting h sp N)
    pub chain : Chain h sp (last (history N)) (underway (history N)) (due N)

  pub facts_dusk : (m : ℕ → ℕ) (role : ℕ → Role) → Whole h sp m role → Facts (dusk m)
  unfolding history last underway lately due waiting Chain
  facts_dusk m role w = record { role = role; whole = w; reached = reach_none (ticket_of (book_of m sp)) m; chain = tt }

  pub facts_calls : (N : Night) (a : Act) → Facts N → Saw sp (code_sees h sp N) a.saw → Within (ticket_of (book_of (last_began N) sp)) a.call → Facts (calls N a)
  unfolding history lately due waiting
  facts_calls N a f saw within = record {
    role = f.role;
    whole = f.whole;
    reached = subst (λ l. Reaching (ticket_of (book_of (last_began N) sp)) (last_began N) l (last_since N) (waiting h sp N ++ act_writes h sp a))
        (append_assoc (joined (due N)) (lately N) (a ∷ []))
        (reach_calls (ticket_of (book_of (last_began N) sp)) (last_began N) (uncovered N) (last_since N) (waiting h sp N) f.reached (now (history N)) (last_ends (history N)) a saw within);
    chain = f.chain;
  }

  -- an event, of which these writes are ours
  pub facts_event : (N : Night) (e : Event ℕ) (rest : List (Event ℕ)) → Facts N → writes (e ∷ []) ++ rest ≡ waiting h sp N → waiting h sp (happens N e) ≡ rest
      → Others sp (now (history N)) (e ∷ []) → Facts (happens N e)
  unfolding history last underway lately due
  facts_event N e rest f order left_over others = record {
    role = f.role;
    whole = f.whole;
    reached = subst (λ l. Reaching (ticket_of (book_of (last_began N) sp)) (last_began N) (uncovered N) (last_since N ++ (e ∷ [])) l) (sym left_over)
        (reach_event (ticket_of (book_of (last_began N) sp)) (last_began N) (uncovered N) (last_since N) (waiting h sp N) f.reached (now (history N)) (last_ends (history N)) e rest order others);
    chain = chain_longer h sp e (last (history N)) (underway (history N)) (due N) f.chain;
  }

  pub facts_begins : (N : Night) → Facts N → waiting h sp N ≡ [] → Facts (begins N)
  unfolding history last underway lately due waiting
  facts_begins N f empty = record {
    role = f.role;
    whole = f.whole;
    reached = subst (λ l. Reaching (ticket_of (book_of (last_began N) sp)) (last_began N) l (last_since N) (waiting h sp N)) list f.reached;
    chain = chain_begins h sp (now (history N)) (last (history N)) (underway (history N)) (due N) (lately N) f.chain (last_ends (history N))
        (ap (λ l. writes (last_since N) ++ l) (sym (f.reached.1 ∙ empty)) ∙ f.reached.0.in_order);
  }
    where
      list : uncovered N ≡ joined (due N ++ (lately N ∷ [])) ++ []
      list = sym (append-nil _ ∙ joined_append (due N) (lately N))

  -- THE NEXT SHOOTDOWN to be done, where one is under way
  pub record Coming (N : Night) (D : List Act) (Ds : List (List Act)) : Type 0 where
    pub later : Later h sp (last (history N)) (next (history N)) D
    pub others : Chain h sp (next (history N)) (younger (underway (history N))) Ds

  pub coming : (N : Night) (D : List Act) (Ds : List (List Act)) → due N ≡ D ∷ Ds → Facts N → Coming N D Ds
  unfolding Chain oldest younger
  coming N D Ds e f = go (underway (history N)) refl
    where
      go : (rs : List (Period ℕ)) → underway (history N) ≡ rs → Coming N D Ds
      go [] u = absurd (subst (λ l. Chain h sp (last (history N)) [] l) e (subst (λ l. Chain h sp (last (history N)) l (due N)) u f.chain))
      go (r ∷ rs) u =
          let c : Chain h sp (last (history N)) (r ∷ rs) (D ∷ Ds) = subst (λ l. Chain h sp (last (history N)) (r ∷ rs) l) e (subst (λ l. Chain h sp (last (history N)) l (due N)) u f.chain) in
          record { later = rw u c.0; others = rw u c.1 }

  module _ (N : Night) (T : ℕ → Type 0) (D : List Act) (Ds : List (List Act)) (e : due N ≡ D ∷ Ds) (f : Facts N) where
    -- the calls that it covers come first
    pub split_calls : Reaching (ticket_of (book_of (last_began N) sp)) (last_began N) (D ++ (joined Ds ++ lately N)) (last_since N) (waiting h sp N)
    split_calls = subst (λ l. Reaching (ticket_of (book_of (last_began N) sp)) (last_began N) l (last_since N) (waiting h sp N)) (ap (λ l. joined l ++ lately N) e ∙ append_assoc D (joined Ds) (lately N)) f.reached

    abbrev c : Coming N D Ds
    c = coming N D Ds e f

    pub facts_done : Facts (done N T)
    unfolding history last underway lately due waiting
    facts_done = record {
      role = _;
      whole = later_whole h sp (last (history N)) (next (history N)) D (joined Ds ++ lately N) c.later f.role f.whole split_calls.0;
      reached = subst (λ l. Reaching (ticket_of (book_of (next (history N)).began sp)) (next (history N)).began (joined (behind l) ++ lately N) (next (history N)).since (waiting h sp N)) (sym e) (
        later_reached h sp (last (history N)) (next (history N)) D (joined Ds ++ lately N) c.later f.role f.whole split_calls.0,
        later_waits h sp (last (history N)) (next (history N)) D (joined Ds ++ lately N) c.later f.role f.whole split_calls.0 ∙ split_calls.1,
      );
      chain = subst (λ l. Chain h sp (next (history N)) (younger (underway (history N))) (behind l)) (sym e) c.others;
    }
