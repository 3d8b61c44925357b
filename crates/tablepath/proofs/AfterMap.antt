-- AFTER MAP. Once its writes have reached memory the address means the page, and a walk that begins then finds it. What goes on from a cache may find
-- nothing still, and nothing else; after a shootdown that begins then it finds the page too. Statements: specs/Shown.antt.
use Prim.Native.Nat.{ℕ, ◌+◌, ◌*◌, ◌%◌, ◌<◌, ◌≤◌}
use mathlib.Core.Bool.{Bool}
use mathlib.Core.List.{List, [], ◌∷◌, ◌++◌}
use mathlib.Core.Logic.{◌⊎◌, inl, inr}
use mathlib.Core.Path.{◌≡◌, refl, sym, ap, ◌∙◌, subst}
use native.Mathlib.Omega.{arith}
use Rattle.std.proofs.Common.{Ok}
use Rattle.word.specs.Writes as word
use Rattle.walk.specs.Walk.{base_of}
use Rattle.walk.specs.declared.Found.{Found}
use Rattle.walk.specs.declared.Found.TheVariants.{Page, Nothing, Outside, NoAddress}
use Rattle.world.specs.Events.{Event, after, All}
use Rattle.world.proofs.Events.{after_append, among_all, all_map, all_both, all_append, all_last}
use Rattle.walk.proofs.Ranges.{no_address_only}
use Rattle.world.specs.Reports.{now}
use Rattle.world.proofs.Reports.{last_ends}
use Rattle.tables.specs.Roles.{Role}
use Rattle.tables.specs.Near.{Near}
use Rattle.tables.proofs.Near.{near_range}
use Rattle.tables.proofs.Overlap.{aligned_base, nothing_mapped}
use Rattle.tables.proofs.Meaning.{never_outside}
use Rattle.tables.specs.Clearing.{events_of}
use Rattle.tables.proofs.Clearing.{events_after}
use Rattle.pool.specs.Book.{book_of, ticket_of}
use Rattle.pool.specs.declared.Space.{Space}
use Rattle.plan.specs.Map as map
use Rattle.plan.specs.Map.{Placed}
use Rattle.plan.specs.declared.maps.Asked.{Asked}
use Rattle.effect.specs.Whole.{Whole}
use Rattle.effect.proofs.MapDone.{decided_done, mapped_inside}
use Rattle.tablepath.specs.Answers.{map_said, map_answer, map_writes}
use Rattle.tablepath.specs.Calls.{means, Call, Within, call_writes, Saw, Act, act_writes, wrote, Runs, UpTo, Reached}
use Rattle.tablepath.specs.Nights.{Night, history, last_began, last_since, Some, uncovered, IsPage, untold_kept, Hit, Hits, Honest, Complete, Exact}
use Rattle.tablepath.specs.Gone.{MapsTo, page_of}
use Rattle.tablepath.specs.Shown.{MappedNow, FoundAtOnce, CachedAfterMap, KeptAfterReport}
use Rattle.tablepath.proofs.Marking.{saw_back}
use Rattle.tablepath.proofs.Serving.{IsBuilt}
use Rattle.tablepath.proofs.Running.{act_served, act_whole, act_ticket, seen_whole, Ran, run_ran, reached_ran, reached_saw, reached_all}
use Rattle.tablepath.proofs.Beside.{every_answer}
use Rattle.tablepath.proofs.Did.{Did, same, mapped, gone, changed, Stirs, saw_means, act_means, act_stirs}
use Rattle.tablepath.proofs.Lasting.{Lasts, run_lasts}
use Rattle.tablepath.proofs.Periods.{wrote_append, runs_front, runs_rest, upto_front, upto_rest}
use Rattle.tablepath.proofs.Facts.{Facts}
use Rattle.tablepath.proofs.Nights.{night_facts, night_answer, exact_complete}
use Rattle.tablepath.proofs.Onward.{night_whole, honest_before, complete_before, onward_reached}

module _ (h : ℕ → Bool) (sp : Space) where
  -- before it nothing was there, and after it the page
  map_turns : (m : ℕ → ℕ) (role : ℕ → Role) → Whole h sp m role → (q : Asked) (x : Placed) → map.decide_of h m sp q ≡ x → (k : ℕ) → map_said x ≡ Ok k
      → (va : ℕ) → q.base ≤ va → va < q.base + q.size → (means h sp m va ≡ Nothing) × (means h sp (word.after m (map.did_of sp x)) va ≡ page_of q)
  unfolding map_said map.did_of
  map_turns m role w q (map.Refused r) e k f va u v = let z : ◌≡◌ {A = ℕ} 0 1 = cc in absurd (omega arith)
  map_turns m role w q (map.Go p) e k f va u v =
      let d = decided_done w q p e in
      let base : base_of p.target q.base ≡ q.base = aligned_base p.target q.base (subst (λ z. q.base % z ≡ 0) d.fitted.size_is d.fitted.base_aligned) in
      let near : Near p.target q.base va = (near_range p.target q.base va).1 (omega arith, omega (arith, d.fitted.size_is)) in
      (nothing_mapped w.sound.built va (omega arith) d.missing.comes d.missing.nothing near, mapped_inside w q p d va u v)

  -- One call ------------------------------------------------------------------------------------------------------------------------------

  module _ (n : ℕ) (m : ℕ → ℕ) (role : ℕ → Role) (w : Whole h sp m role) (u : n ≤ ticket_of (book_of m sp)) (a : Act) (saw : Saw sp m a.saw) (within : Within n a.call) where
    abbrev es : List (Event ℕ)
    es = act_writes h sp a

    maps_turns : (q : Asked) (va : ℕ) → MapsTo h sp q va a → (means h sp m va ≡ Nothing) × (means h sp (after m es) va ≡ page_of q)
    unfolding call_writes map_writes map_answer
    maps_turns q va k =
        let seen = seen_whole h sp n m role w u a saw within in
        let t = map_turns a.saw role seen q (map.decide_of h a.saw sp q) refl k.tables k.is_done va k.from k.upto in (
          saw_means h sp a.saw m (saw_back sp saw) (role, seen.sound.built) va ∙ t.0,
          act_means h sp n m role w u a saw within va ∙ ap (λ c. means h sp (after a.saw (events_of (call_writes h a.saw sp c))) va) k.is_map
              ∙ ap (λ x. means h sp x va) (events_after a.saw _) ∙ t.1,
        )

    -- an address that it does not touch keeps its page
    act_keeps : (va : ℕ) (o : Found) → IsPage o → ¬ Hit h sp a.call a.saw va → means h sp m va ≡ o → All m es (λ x. means h sp x va ≡ o)
    act_keeps va o page spares e = all_map es m _ _ moment stirs.moments
      where
        stirs : Stirs h sp a.call a.saw m es
        stirs = act_stirs h sp n m role w u a saw within

        go : (c : Call) → ¬ Hit h sp c a.saw va → Did h sp a.saw va c (means h sp m va) (means h sp (after m es) va) → means h sp (after m es) va ≡ o
        go c s (same d) = d ∙ e
        go c s (mapped k d x y) = absurd (unfold IsPage in subst IsPage (sym e ∙ x) page)
        go c s (gone t x y) = absurd (s (inl t))
        go c s (changed t x y) = absurd (s (inr t))

        moment : (x : ℕ → ℕ) → ((vb : ℕ) → means h sp x vb ≡ means h sp m vb) ⊎ ((vb : ℕ) → means h sp x vb ≡ means h sp (after m es) vb) → means h sp x va ≡ o
        moment x (inl q) = q va ∙ e
        moment x (inr q) = q va ∙ go a.call spares (stirs.did va)

  -- A run that does not touch it
  run_keeps : (n : ℕ) (m : ℕ → ℕ) (role : ℕ → Role) (cs : List Act) → Whole h sp m role → n ≤ ticket_of (book_of m sp) → Runs h sp m cs → UpTo n cs
      → (va : ℕ) (o : Found) → IsPage o → ¬ Hits h sp (Hit h sp) cs va → means h sp m va ≡ o → All m (wrote h sp cs) (λ x. means h sp x va ≡ o)
  unfolding wrote Runs UpTo Some All
  run_keeps n m role [] w u r t va o page spares e = e
  run_keeps n m role (a ∷ cs) w u r t va o page spares e =
      let one = act_keeps n m role w u a r.0 t.0 va o page (λ x. spares (inl x)) e in
      all_append (act_writes h sp a) (wrote h sp cs) m _ one
      (run_keeps n (after m (act_writes h sp a)) (act_served h sp n m role w u a r.0 t.0).role cs (act_whole h sp n m role w u a r.0 t.0) (act_ticket h sp n m role w u a r.0 t.0) r.1 t.1 va o page
      (λ x. spares (inr x)) (all_last (act_writes h sp a) m _ one))

  -- what reaches memory of it
  reached_keeps : (n : ℕ) (m : ℕ → ℕ) (role : ℕ → Role) → Whole h sp m role → n ≤ ticket_of (book_of m sp) → (cs : List Act) (gs : List (Event ℕ)) → Reached h sp n m cs gs
      → (va : ℕ) (o : Found) → IsPage o → ¬ Hits h sp (Hit h sp) cs va → means h sp m va ≡ o → All m gs (λ x. means h sp x va ≡ o)
  reached_keeps n m role w u cs gs r va o page spares e =
      reached_all h sp n m role w u cs gs r (λ x. IsBuilt h sp x × (means h sp x va ≡ o)) (λ x. means h sp x va ≡ o) (λ x y s b. saw_means h sp x y s b.0 va ∙ b.1)
      (all_both (wrote h sp cs) m (IsBuilt h sp) _ (reached_ran h sp n m role w u cs gs r).built (run_keeps n m role cs w u r.runs r.upto va o page spares e))

  -- va has some page
  page_stays : (n va : ℕ) → Lasts h sp n (λ x. IsPage (means h sp x va)) (λ a. Hit h sp a.call a.saw va)
  unfolding IsPage
  page_stays n va m role w u a saw within = all_map (act_writes h sp a) m _ _ (λ y q k. moment y q k) s.moments
    where
      s : Stirs h sp a.call a.saw m (act_writes h sp a)
      s = act_stirs h sp n m role w u a saw within

      go : (c : Call) → IsPage (means h sp m va) → Did h sp a.saw va c (means h sp m va) (means h sp (after m (act_writes h sp a)) va)
          → IsPage (means h sp (after m (act_writes h sp a)) va) ⊎ Hit h sp c a.saw va
      go c k (same f) = inl (subst IsPage (sym f) k)
      go c k (mapped j d f g) = inl (subst IsPage (sym g) tt)
      go c k (gone t f g) = inr (inl t)
      go c k (changed t f g) = inr (inr t)

      moment : (y : ℕ → ℕ) → ((vb : ℕ) → means h sp y vb ≡ means h sp m vb) ⊎ ((vb : ℕ) → means h sp y vb ≡ means h sp (after m (act_writes h sp a)) vb)
          → IsPage (means h sp y va) → IsPage (means h sp (after m (act_writes h sp a)) va) ⊎ Hit h sp a.call a.saw va
      moment y (inl q) k = go a.call (subst IsPage (q va) k) (s.did va)
      moment y (inr q) k = inl (subst IsPage (q va) k)

  -- an address that means no page means nothing; and what means nothing once is an address
  nothing_else : (x y : ℕ → ℕ) (va : ℕ) → IsBuilt h sp x → means h sp y va ≡ Nothing → ¬ IsPage (means h sp x va) → means h sp x va ≡ Nothing
  unfolding IsPage
  nothing_else x y va b once none = go (means h sp x va) refl none
    where
      go : (o : Found) → means h sp x va ≡ o → ¬ IsPage o → o ≡ Nothing
      go Nothing e k = refl
      go Outside e k = absurd (never_outside b.1 va e)
      go NoAddress e k = let z : ◌≡◌ {A = ℕ} 0 1 = cc (once, (no_address_only h y (4096 * sp.root) va).1 ((no_address_only h x (4096 * sp.root) va).0 e)) in absurd (omega arith)
      go (Page base size frame r) e k = absurd (k tt)

  -- the page, or nothing yet
  abbrev PageOrNothing : Asked → ℕ → (ℕ → ℕ) → Type 0
  PageOrNothing q va x = (means h sp x va ≡ Nothing) ⊎ (means h sp x va ≡ page_of q)

  -- calls bs that do not touch va, a map of it, and calls cs that do not touch it
  around_map : (n : ℕ) (m : ℕ → ℕ) (role : ℕ → Role) (bs cs : List Act) (a : Act) → Whole h sp m role → n ≤ ticket_of (book_of m sp) → Runs h sp m (bs ++ (a ∷ cs)) → UpTo n (bs ++ (a ∷ cs))
      → (q : Asked) (va : ℕ) → MapsTo h sp q va a → ¬ Hits h sp (Hit h sp) bs va → ¬ Hits h sp (Hit h sp) cs va → All m (wrote h sp (bs ++ (a ∷ cs))) (PageOrNothing q va)
  around_map n m role bs cs a w u r t q va k before behind =
      subst (λ l. All m l (PageOrNothing q va)) (sym (wrote_append h sp bs (a ∷ cs)))
      (all_append (wrote h sp bs) (wrote h sp (a ∷ cs)) m (PageOrNothing q va)
      (all_map (wrote h sp bs) m _ _ (λ x y. inl (nothing_else x next va y.0 turns.0 (λ z. elim (y.1 z) [ inl c ↦ unfold IsPage in subst IsPage turns.0 c | inr c ↦ before c ])))
      (all_both (wrote h sp bs) m (IsBuilt h sp) _ ran.built (run_lasts h sp n _ _ (page_stays n va) m role bs w u (runs_front h sp bs (a ∷ cs) m r) (upto_front n bs (a ∷ cs) t)))) rest)
    where
      ran : Ran h sp n m bs
      ran = run_ran h sp n m role bs w u (runs_front h sp bs (a ∷ cs) m r) (upto_front n bs (a ∷ cs) t)

      next : ℕ → ℕ
      next = after m (wrote h sp bs)

      then : Runs h sp next (a ∷ cs)
      then = runs_rest h sp bs (a ∷ cs) m r

      upto : UpTo n (a ∷ cs)
      upto = upto_rest n bs (a ∷ cs) t

      turns : (means h sp next va ≡ Nothing) × (means h sp (after next (act_writes h sp a)) va ≡ page_of q)
      turns = unfold Runs UpTo in maps_turns n next ran.role ran.whole ran.ticket a then.0 upto.0 q va k

      rest : All next (wrote h sp (a ∷ cs)) (PageOrNothing q va)
      rest = unfold wrote Runs UpTo in
          all_append (act_writes h sp a) (wrote h sp cs) next (PageOrNothing q va)
          (all_map (act_writes h sp a) next _ _ (λ x y. elim y [ inl z ↦ inl (z va ∙ turns.0) | inr z ↦ inr (z va ∙ turns.1) ])
          (act_stirs h sp n next ran.role ran.whole ran.ticket a then.0 upto.0).moments)
          (all_map (wrote h sp cs) _ _ _ (λ x y. inr y)
          (run_keeps n (after next (act_writes h sp a)) (act_served h sp n next ran.role ran.whole ran.ticket a then.0 upto.0).role cs
          (act_whole h sp n next ran.role ran.whole ran.ticket a then.0 upto.0) (act_ticket h sp n next ran.role ran.whole ran.ticket a then.0 upto.0) then.1 upto.1
          va (page_of q) (unfold IsPage in tt) behind turns.1))

  -- calls bs, a map of va, and calls cs that do not touch it: then va has the page
  map_ends : (n : ℕ) (m : ℕ → ℕ) (role : ℕ → Role) (bs cs : List Act) (a : Act) → Whole h sp m role → n ≤ ticket_of (book_of m sp) → Runs h sp m (bs ++ (a ∷ cs)) → UpTo n (bs ++ (a ∷ cs))
      → (q : Asked) (va : ℕ) → MapsTo h sp q va a → ¬ Hits h sp (Hit h sp) cs va → means h sp (after m (wrote h sp (bs ++ (a ∷ cs)))) va ≡ page_of q
  map_ends n m role bs cs a w u r t q va k spares = ap (λ x. means h sp x va) list ∙ all_last (wrote h sp cs) end _ kept
    where
      ran : Ran h sp n m bs
      ran = run_ran h sp n m role bs w u (runs_front h sp bs (a ∷ cs) m r) (upto_front n bs (a ∷ cs) t)

      next : ℕ → ℕ
      next = after m (wrote h sp bs)

      end : ℕ → ℕ
      end = after next (act_writes h sp a)

      list : after m (wrote h sp (bs ++ (a ∷ cs))) ≡ after end (wrote h sp cs)
      list = unfold wrote in ap (after m) (wrote_append h sp bs (a ∷ cs)) ∙ after_append (wrote h sp bs) (act_writes h sp a ++ wrote h sp cs) m
          ∙ after_append (act_writes h sp a) (wrote h sp cs) next

      kept : All end (wrote h sp cs) (λ x. means h sp x va ≡ page_of q)
      kept = unfold Runs UpTo in
          let then : Runs h sp next (a ∷ cs) = runs_rest h sp bs (a ∷ cs) m r in
          let upto : UpTo n (a ∷ cs) = upto_rest n bs (a ∷ cs) t in
          run_keeps n end (act_served h sp n next ran.role ran.whole ran.ticket a then.0 upto.0).role cs
          (act_whole h sp n next ran.role ran.whole ran.ticket a then.0 upto.0) (act_ticket h sp n next ran.role ran.whole ran.ticket a then.0 upto.0) then.1 upto.1
          va (page_of q) (unfold IsPage in tt) spares (maps_turns n next ran.role ran.whole ran.ticket a then.0 upto.0 q va k).1

  pub mapped_now : (N : Night) → Honest h sp untold_kept N → Complete h sp N → MappedNow h sp N
  mapped_now N honest complete q va k empty =
      ap (λ x. means h sp x va) (sym (last_ends (history N))) ∙ saw_means h sp _ _ same (ran.role, ran.whole.sound.built) va ∙ end
    where
      f : Facts h sp N
      f = night_facts h sp N honest complete

      n : ℕ
      n = ticket_of (book_of (last_began N) sp)

      ran : Ran h sp n (last_began N) (uncovered N)
      ran = reached_ran h sp n (last_began N) f.role f.whole (omega arith) (uncovered N) (last_since N) f.reached.0

      same : Saw sp (after (last_began N) (wrote h sp (uncovered N))) (after (last_began N) (last_since N))
      same = reached_saw h sp n (last_began N) f.role f.whole (omega arith) (uncovered N) (last_since N) f.reached.0 (f.reached.1 ∙ empty)

      end : means h sp (after (last_began N) (wrote h sp (uncovered N))) va ≡ page_of q
      end = ap (λ l. means h sp (after (last_began N) (wrote h sp l)) va) k.are
          ∙ map_ends n (last_began N) f.role k.earlier k.later k.mapping f.whole (omega arith) (subst (Runs h sp (last_began N)) k.are f.reached.0.runs)
          (subst (UpTo n) k.are f.reached.0.upto) q va k.maps k.spares

  pub found_at_once : (N M : Night) → Honest h sp untold_kept M → Complete h sp M → FoundAtOnce h sp N M
  found_at_once N M honest complete cs gs o empty upto va page e is_page spares p page' held gives =
      let w = night_whole h sp N (honest_before h sp o honest) (complete_before h sp o complete) empty in
      let n = ticket_of (book_of (now (history N)) sp) in
      let r = (onward_reached h sp n o honest complete empty upto).0 in
      let t = among_all gs (now (history N)) (λ x. means h sp x va ≡ page) (λ x. means h sp x va ≡ page')
      (reached_keeps n (now (history N)) w.0 w.1 (omega arith) cs gs r va page is_page spares e)
      (every_answer h sp n (now (history N)) w.0 w.1 (omega arith) cs gs r va p page' held gives) in
      sym t.2 ∙ t.1

  module _ (N : Night) (honest : Honest h sp untold_kept N) (exact : Exact h sp N) where
    f : Facts h sp N
    f = night_facts h sp N honest (exact_complete h sp N exact)

    pub cached_after_map : CachedAfterMap h sp N
    cached_after_map q va k before o gets =
        let n = ticket_of (book_of (last_began N) sp) in
        let ran = reached_ran h sp n (last_began N) f.role f.whole (omega arith) (uncovered N) (last_since N) f.reached.0 in
        let along : All (last_began N) (wrote h sp (uncovered N)) (PageOrNothing q va) = subst (λ l. All (last_began N) (wrote h sp l) (PageOrNothing q va)) (sym k.are)
        (around_map n (last_began N) f.role k.earlier k.later k.mapping f.whole (omega arith) (subst (Runs h sp (last_began N)) k.are f.reached.0.runs)
        (subst (UpTo n) k.are f.reached.0.upto) q va k.maps before k.spares) in
        let all = reached_all h sp n (last_began N) f.role f.whole (omega arith) (uncovered N) (last_since N) f.reached.0 (λ x. IsBuilt h sp x × PageOrNothing q va x) (PageOrNothing q va) blind
        (all_both (wrote h sp (uncovered N)) (last_began N) (IsBuilt h sp) (PageOrNothing q va) ran.built along) in
        let t = among_all (last_since N) (last_began N) (PageOrNothing q va) (λ x. means h sp x va ≡ o) all (night_answer h sp N honest exact va o gets) in
        elim t.1 [ inl x ↦ inl (sym t.2 ∙ x) | inr x ↦ inr (sym t.2 ∙ x) ]
      where
        blind : (x y : ℕ → ℕ) → Saw sp x y → IsBuilt h sp x × PageOrNothing q va x → PageOrNothing q va y
        blind x y s (b, inl c) = inl (saw_means h sp x y s b va ∙ c)
        blind x y s (b, inr c) = inr (saw_means h sp x y s b va ∙ c)

    pub kept_after_report : KeptAfterReport h sp N
    kept_after_report va o page e spares o' gets =
        let n = ticket_of (book_of (last_began N) sp) in
        let t = among_all (last_since N) (last_began N) (λ x. means h sp x va ≡ o) (λ x. means h sp x va ≡ o')
        (reached_keeps n (last_began N) f.role f.whole (omega arith) (uncovered N) (last_since N) f.reached.0 va o page spares e) (night_answer h sp N honest exact va o' gets) in
        sym t.2 ∙ t.1
