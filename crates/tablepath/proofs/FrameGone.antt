-- A FRAME IS GONE when every page that meets it was unmapped, and a shootdown that began then is done: no walk and no cache, for any address, gives
-- a page that meets it, until a call maps one. Statement: specs/Shown.antt, FrameGone.
use Prim.Native.Nat.{ℕ, ◌+◌, ◌*◌, ◌%◌, ◌<◌, ◌≤◌}
use mathlib.Core.Bool.{Bool}
use mathlib.Core.List.{List, [], ◌∷◌, ◌++◌}
use mathlib.Core.Logic.{◌⊎◌, inl, inr}
use mathlib.Core.Path.{◌≡◌, refl, sym, ap, ◌∙◌, subst}
use native.Mathlib.Decide.{dec_le}
use native.Mathlib.Omega.{arith}
use Rattle.std.proofs.Common.{Result, Ok, Err}
use Rattle.plan.specs.declared.Reason.{Reason}
use Rattle.plan.specs.declared.unmaps.Removal.{Removal}
use Rattle.word.specs.Writes as word
use Rattle.entry.specs.declared.Rights.{Rights}
use Rattle.walk.specs.Walk.{base_of}
use Rattle.walk.specs.declared.Found.{Found}
use Rattle.walk.specs.declared.Found.TheVariants.{Page, Nothing, Outside, NoAddress}
use Rattle.walk.proofs.Ranges.{page_covers}
use Rattle.world.specs.Events.{Event, after, All}
use Rattle.world.proofs.Events.{after_append, all_map, all_both, all_append, all_last, among_all}
use Rattle.world.specs.Reports.{last, next}
use Rattle.tables.specs.Roles.{Role}
use Rattle.tables.specs.Near.{Near}
use Rattle.tables.proofs.Near.{near_range}
use Rattle.tables.proofs.Overlap.{aligned_base}
use Rattle.tables.specs.Clearing.{events_of}
use Rattle.tables.proofs.Clearing.{events_after}
use Rattle.pool.specs.Book.{book_of, ticket_of}
use Rattle.pool.specs.Booked.{setting_of}
use Rattle.pool.specs.declared.Space.{Space}
use Rattle.plan.specs.Unmap as unmap
use Rattle.effect.specs.Whole.{Whole}
use Rattle.effect.proofs.UnmapDone.{unmapped}
use Rattle.effect.proofs.Searching.{nowhere}
use Rattle.effect.proofs.Exactly.{unmap_exactly}
use Rattle.tablepath.specs.Answers.{unmap_writes}
use Rattle.tablepath.specs.Calls.{means, Call, Within, call_writes, Saw, Act, act_writes, wrote, Runs, UpTo, Reached}
use Rattle.tablepath.specs.Calls as calls
use Rattle.tablepath.specs.Nights.{Night, history, last_began, last_since, joined, Some, lately, due, covered, uncovered, but_rights, untold_kept, Gets, Honest, Telling, Complete}
use Rattle.tablepath.specs.Nights as night
use Rattle.tablepath.specs.Gone.{dawn, Avoids, MappedAt, Maps, StillMapped}
use Rattle.tablepath.specs.Shown.{FrameGone}
use Rattle.tablepath.proofs.Serving.{IsBuilt}
use Rattle.tablepath.proofs.Running.{act_served, act_whole, act_ticket, seen_whole, Ran, reached_ran, reached_all}
use Rattle.tablepath.proofs.Did.{Did, same, mapped, gone, changed, Stirs, saw_means, act_means, act_stirs}
use Rattle.tablepath.proofs.Periods.{runs_front, upto_front, later_ran, saw_later}
use Rattle.tablepath.proofs.Facts.{Facts, coming, split_calls}
use Rattle.tablepath.proofs.Nights.{night_facts, night_page}

module _ (h : ℕ → Bool) (sp : Space) where
  -- AFTER UNMAP OF b, whatever it answers, no address has a page that starts at b.
  unmap_clears : (m : ℕ → ℕ) (role : ℕ → Role) → Whole h sp m role → (b : ℕ) (x : Result Removal Reason) → unmap.decide_of h m sp b ≡ x
      → (va size frame : ℕ) (r : Rights) → ¬ (means h sp (word.after m (unmap.did_of sp b x)) va ≡ Page b size frame r)
  unfolding unmap.did_of word.after
  unmap_clears m role w b (Err y) e va size frame r k =
      nowhere (setting_of h sp) m b y (((unmap_exactly w b).refused y).0 e) (record { address = va; size = size; frame = frame; rights = r; means = k })
  unmap_clears m role w b (Ok g) e va size frame r k =
      let d = unmapped w b g e in
      let far : ¬ Near g.page.way.level b va = λ n. let z : ◌≡◌ {A = ℕ} 0 1 = cc (d.changed.turns.in_range va n) in omega arith in
      let was : means h sp m va ≡ Page b size frame r = sym (d.changed.turns.elsewhere va far) ∙ k in
      let c = page_covers h m (4096 * sp.root) va b size frame r was in
      let first : Page b size frame r ≡ Page b g.page.size g.page.frame d.had = sym (c.everywhere b (omega arith) (omega (arith, c.begins, c.reaches))) ∙ d.before in
      let sizes : size ≡ g.page.size = cc in
      let base : base_of g.page.way.level b ≡ b = aligned_base g.page.way.level b (subst (λ z. b % z ≡ 0) d.size_is d.aligned) in
      far ((near_range g.page.way.level b va).1 (omega (arith, c.begins), omega (arith, c.reaches, d.size_is)))

  module _ (f s : ℕ) where
    -- U has the base of every page that meets the frame
    abbrev Has : (ℕ → Type 0) → (ℕ → ℕ) → Type 0
    Has U m = (va base size frame : ℕ) (r : Rights) → means h sp m va ≡ Page base size frame r → frame < f + s → f < frame + size → U base

    -- no address means a page that meets it
    abbrev Clear : (ℕ → ℕ) → Type 0
    Clear m = (va : ℕ) → Avoids f s (means h sp m va)

    none_clear : (U : ℕ → Type 0) (m : ℕ → ℕ) → ((b : ℕ) → ¬ U b) → Has U m → Clear m
    none_clear U m none has va base size frame r e = go (dec_le (frame + size) f) (dec_le (f + s) frame)
      where
        go : Dec (frame + size ≤ f) → Dec (f + s ≤ frame) → (frame + size ≤ f) ⊎ (f + s ≤ frame)
        go (yes u) v = inl u
        go (no u) (yes v) = inr v
        go (no u) (no v) = absurd (none base (has va base size frame r e (omega arith) (omega arith)))

    -- One call ----------------------------------------------------------------------------------------------------------------------------

    module _ (n : ℕ) (m : ℕ → ℕ) (role : ℕ → Role) (w : Whole h sp m role) (u : n ≤ ticket_of (book_of m sp)) (a : Act) (saw : Saw sp m a.saw) (within : Within n a.call) where
      abbrev es : List (Event ℕ)
      es = act_writes h sp a

      stirs : Stirs h sp a.call a.saw m es
      stirs = act_stirs h sp n m role w u a saw within

      act_clears : (b : ℕ) → a.call ≡ calls.unmap b → (va size frame : ℕ) (r : Rights) → ¬ (means h sp (after m es) va ≡ Page b size frame r)
      unfolding call_writes unmap_writes
      act_clears b e va size frame r k =
          unmap_clears a.saw role (seen_whole h sp n m role w u a saw within) b (unmap.decide_of h a.saw sp b) refl va size frame r
          (ap (λ x. means h sp x va) (sym (events_after a.saw _) ∙ ap (λ c. after a.saw (events_of (call_writes h a.saw sp c))) (sym e)) ∙ sym (act_means h sp n m role w u a saw within va) ∙ k)

      -- where a page comes from that an address has after it
      came : (U : ℕ → Type 0) → Has U m → (va base size frame : ℕ) (r : Rights) → means h sp (after m es) va ≡ Page base size frame r → frame < f + s → f < frame + size
          → U base ⊎ Maps h sp f s base a
      came U has va base size frame r k below above = go a.call refl (stirs.did va)
        where
          go : (c : Call) → a.call ≡ c → Did h sp a.saw va c (means h sp m va) (means h sp (after m es) va) → U base ⊎ Maps h sp f s base a
          go c e (same d) = inl (has va base size frame r (sym d ∙ k) below above)
          go c e (mapped {q = q} j d x y) =
              let page : Page q.base q.size q.frame q.rights ≡ Page base size frame r = sym y ∙ k in
              let bases : q.base ≡ base = cc in
              let sizes : q.size ≡ size = cc in
              let frames : q.frame ≡ frame = cc in
              inr (record { asked = q; is_map = e; tables = j; is_done = d; at_base = bases; begins_before = omega arith; ends_behind = omega arith })
          go c e (gone t x y) = let z : ◌≡◌ {A = ℕ} 0 1 = cc in absurd (omega arith)
          go c e (changed {base = b} {size = z} {frame = g} {had} t x y) =
              let page : Page b z g _ ≡ Page base size frame r = sym y ∙ k in
              let bases : b ≡ base = cc in
              let sizes : z ≡ size = cc in
              let frames : g ≡ frame = cc in
              inl (subst U bases (has va b z g had x (omega arith) (omega arith)))

      act_has : (U : ℕ → Type 0) → Has U m → Has (λ c. (U c ⊎ Maps h sp f s c a) × ¬ (a.call ≡ calls.unmap c)) (after m es)
      act_has U has va base size frame r k below above = (came U has va base size frame r k below above, λ e. act_clears base e va size frame r k)

      act_clear : ((b : ℕ) → ¬ Maps h sp f s b a) → Clear m → All m es Clear
      act_clear spares clear = all_map es m _ Clear moment stirs.moments
        where
          end : Clear (after m es)
          end = none_clear (λ b. ⊥) (after m es) (λ b x. x) (λ va base size frame r k below above. elim (came (λ b. ⊥) none va base size frame r k below above) [ inl x ↦ x | inr x ↦ spares base x ])
            where
              none : Has (λ b. ⊥) m
              none va base size frame r k below above = elim (clear va base size frame r k) [ inl x ↦ omega arith | inr x ↦ omega arith ]

          moment : (x : ℕ → ℕ) → ((va : ℕ) → means h sp x va ≡ means h sp m va) ⊎ ((va : ℕ) → means h sp x va ≡ means h sp (after m es) va) → Clear x
          moment x (inl q) va base size frame r e = clear va base size frame r (sym (q va) ∙ e)
          moment x (inr q) va base size frame r e = end va base size frame r (sym (q va) ∙ e)

    -- A run -----------------------------------------------------------------------------------------------------------------------------------

    run_has : (n : ℕ) (m : ℕ → ℕ) (role : ℕ → Role) (cs : List Act) → Whole h sp m role → n ≤ ticket_of (book_of m sp) → Runs h sp m cs → UpTo n cs
        → (U : ℕ → Type 0) → Has U m → Has (StillMapped h sp f s U cs) (after m (wrote h sp cs))
    unfolding wrote Runs UpTo StillMapped after
    run_has n m role [] w u r t U has = has
    run_has n m role (a ∷ cs) w u r t U has = λ va base size frame g k.
        run_has n (after m (act_writes h sp a)) (act_served h sp n m role w u a r.0 t.0).role cs (act_whole h sp n m role w u a r.0 t.0) (act_ticket h sp n m role w u a r.0 t.0) r.1 t.1
        (λ c. (U c ⊎ Maps h sp f s c a) × ¬ (a.call ≡ calls.unmap c)) (act_has n m role w u a r.0 t.0 U has) va base size frame g
        (ap (λ x. means h sp x va) (sym (after_append (act_writes h sp a) (wrote h sp cs) m)) ∙ k)

    run_clear : (n : ℕ) (m : ℕ → ℕ) (role : ℕ → Role) (cs : List Act) → Whole h sp m role → n ≤ ticket_of (book_of m sp) → Runs h sp m cs → UpTo n cs
        → ((b : ℕ) → ¬ Some (Maps h sp f s b) cs) → Clear m → All m (wrote h sp cs) Clear
    unfolding wrote Runs UpTo Some All
    run_clear n m role [] w u r t spares clear = clear
    run_clear n m role (a ∷ cs) w u r t spares clear =
        let one = act_clear n m role w u a r.0 t.0 (λ b x. spares b (inl x)) clear in
        all_append (act_writes h sp a) (wrote h sp cs) m Clear one
        (run_clear n (after m (act_writes h sp a)) (act_served h sp n m role w u a r.0 t.0).role cs (act_whole h sp n m role w u a r.0 t.0) (act_ticket h sp n m role w u a r.0 t.0) r.1 t.1
        (λ b x. spares b (inr x)) (all_last (act_writes h sp a) m Clear one))

    mapped_append : (cs ds : List Act) (U : ℕ → Type 0) (b : ℕ) → StillMapped h sp f s (StillMapped h sp f s U cs) ds b → StillMapped h sp f s U (cs ++ ds) b
    unfolding StillMapped
    mapped_append [] ds U b x = x
    mapped_append (c ∷ cs) ds U b x = mapped_append cs ds _ b x

    -- A night ---------------------------------------------------------------------------------------------------------------------------------

    -- what the calls say that a shootdown covers: when it began, no page met the frame but those that were not unmapped
    night_has : (N : Night) → Honest h sp untold_kept N → Complete h sp N → Has (StillMapped h sp f s (MappedAt h sp f s (dawn N)) (covered N)) (last_began N)
    unfolding Honest Telling dawn covered history last
    night_has (night.dusk m) k c = λ va base size frame r e below above.
        unfold StillMapped in record { address = va; size = size; frame = frame; rights = r; meant = e; begins_before = below; ends_behind = above }
    night_has (night.calls N a) k c = night_has N k.0 c
    night_has (night.happens N x) k c = night_has N k.0 c
    night_has (night.begins N) k c = night_has N k.0 c
    night_has (night.done N T) (k, D, Ds, e) c = λ va base size frame r i below above.
        mapped_append (covered N) (night.front (due N)) (MappedAt h sp f s (dawn N)) base
        (subst (λ l. StillMapped h sp f s (StillMapped h sp f s (MappedAt h sp f s (dawn N)) (covered N)) (night.front l) base) (sym e)
        (run_has (ticket_of (book_of (last_began N) sp)) (last_began N) fs.role D fs.whole (omega arith) (runs_front h sp D (joined Ds ++ lately N) (last_began N) r1.runs)
        (upto_front (ticket_of (book_of (last_began N) sp)) D (joined Ds ++ lately N) r1.upto) (StillMapped h sp f s (MappedAt h sp f s (dawn N)) (covered N)) (night_has N k c.0) va base size frame r
        (sym (saw_means h sp _ _ (saw_later h sp (last (history N)) (next (history N)) D (joined Ds ++ lately N) (coming h sp N D Ds e fs).later fs.role fs.whole r1) (built.role, built.whole.sound.built) va) ∙ i)
        below above))
      where
        fs : Facts h sp N
        fs = night_facts h sp N k c.0

        r1 : Reached h sp (ticket_of (book_of (last_began N) sp)) (last_began N) (D ++ (joined Ds ++ lately N)) (last_since N)
        r1 = (split_calls h sp N T D Ds e fs).0

        built : Ran h sp (ticket_of (book_of (last_began N) sp)) (last_began N) D
        built = later_ran h sp (last (history N)) (next (history N)) D (joined Ds ++ lately N) (coming h sp N D Ds e fs).later fs.role fs.whole r1

    -- the frame is avoided, whatever the rights
    but_avoids : (o o' : Found) → but_rights o ≡ but_rights o' → Avoids f s o → Avoids f s o'
    unfolding but_rights
    but_avoids (Page base size frame r) (Page base' size' frame' r') e k b z g q i =
        let page : Page base' size' frame' r' ≡ Page b z g q = i in
        let sizes : size ≡ z = cc in
        let frames : frame ≡ g = cc in
        elim (k base size frame r refl) [ inl u ↦ inl (omega arith) | inr u ↦ inr (omega arith) ]
    but_avoids Nothing (Page base' size' frame' r') e k b z g q i = let x : ◌≡◌ {A = ℕ} 0 1 = cc in absurd (omega arith)
    but_avoids Outside (Page base' size' frame' r') e k b z g q i = let x : ◌≡◌ {A = ℕ} 0 1 = cc in absurd (omega arith)
    but_avoids NoAddress (Page base' size' frame' r') e k b z g q i = let x : ◌≡◌ {A = ℕ} 0 1 = cc in absurd (omega arith)
    but_avoids o Nothing e k b z g q i = let x : ◌≡◌ {A = ℕ} 0 1 = cc in absurd (omega arith)
    but_avoids o Outside e k b z g q i = let x : ◌≡◌ {A = ℕ} 0 1 = cc in absurd (omega arith)
    but_avoids o NoAddress e k b z g q i = let x : ◌≡◌ {A = ℕ} 0 1 = cc in absurd (omega arith)

    gone_now : (N : Night) → Honest h sp untold_kept N → Complete h sp N
        → ((b : ℕ) → ¬ StillMapped h sp f s (MappedAt h sp f s (dawn N)) (covered N) b) → ((b : ℕ) → ¬ Some (Maps h sp f s b) (uncovered N))
        → (va : ℕ) (o : Found) → Gets h sp untold_kept N va o → Avoids f s o
    gone_now N k c unmapped_all spares va o gets =
        let fs = night_facts h sp N k c in
        let n = ticket_of (book_of (last_began N) sp) in
        let ran = reached_ran h sp n (last_began N) fs.role fs.whole (omega arith) (uncovered N) (last_since N) fs.reached.0 in
        let clear = run_clear n (last_began N) fs.role (uncovered N) fs.whole (omega arith) fs.reached.0.runs fs.reached.0.upto spares
        (none_clear _ (last_began N) unmapped_all (night_has N k c)) in
        let all : All (last_began N) (last_since N) Clear = reached_all h sp n (last_began N) fs.role fs.whole (omega arith) (uncovered N) (last_since N) fs.reached.0 (λ x. IsBuilt h sp x × Clear x) Clear
        (λ x y s b vb base size frame r e. b.1 vb base size frame r (sym (saw_means h sp x y s b.0 vb) ∙ e))
        (all_both (wrote h sp (uncovered N)) (last_began N) (IsBuilt h sp) Clear ran.built clear) in
        let t = among_all (last_since N) (last_began N) Clear (λ x. but_rights (means h sp x va) ≡ but_rights o) all (night_page h sp N k c va o gets) in
        but_avoids (means h sp t.0 va) o t.2 (t.1 va)

  -- THE FRAME IS GONE.
  pub frame_gone : (N : Night) → Honest h sp untold_kept N → Complete h sp N → FrameGone h sp N
  frame_gone N k c f s = gone_now f s N k c
