-- NO PAGE IS WRITABLE AND EXECUTABLE: create leaves none, and every call keeps it so, at every moment; so no walk and no cache gives one.
-- Statements: specs/Strict.antt.
use Prim.Native.Nat.{ℕ, ◌*◌, ◌≤◌}
use mathlib.Core.Bool.{Bool, true, false, true≢false}
use mathlib.Core.List.{List, [], ◌∷◌, append-nil}
use mathlib.Core.Logic.{◌⊎◌, inl, inr}
use mathlib.Core.Path.{◌≡◌, refl, sym, ap, ◌∙◌, subst}
use native.Mathlib.Omega.{arith}
use Rattle.std.proofs.Common.{Result, Ok, Err}
use Rattle.plan.specs.declared.Reason.{Reason}
use Rattle.plan.specs.declared.unmaps.Removal.{Removal}
use Rattle.plan.specs.declared.protects.Change.{Change}
use Rattle.word.specs.Memory.{memory, holds}
use Rattle.word.specs.Writes as word
use Rattle.word.specs.Writes.{carried}
use Rattle.word.proofs.Writes.{holds_carried, memory_carried}
use Rattle.entry.specs.declared.Rights.{Rights}
use Rattle.walk.specs.Walk.{canonical}
use Rattle.walk.specs.declared.Found.{Found}
use Rattle.walk.proofs.Ranges.{no_address_only}
use Rattle.world.specs.Events.{Event, happen, after, All}
use Rattle.world.proofs.Events.{all_map, all_both, all_front, all_append, all_last, among_all}
use Rattle.world.specs.Walker.{Gives}
use Rattle.world.specs.Turns.{Turn, events, Idle, places, at_start}
use Rattle.world.specs.Reports.{Caches, now, last, next, Fresh}
use Rattle.world.proofs.Reports.{last_ends}
use Rattle.tables.specs.Walks.{Position}
use Rattle.tables.proofs.Walks.{one_space_meaning}
use Rattle.tables.specs.Roles.{Role}
use Rattle.tables.specs.Clearing.{events_of}
use Rattle.tables.proofs.Clearing.{events_after}
use Rattle.tables.specs.Discipline.{walker_of}
use Rattle.pool.specs.Book.{book_of, ticket_of}
use Rattle.pool.specs.Booked.{setting_of}
use Rattle.pool.specs.Create.{new_space}
use Rattle.pool.specs.declared.Book.{Book}
use Rattle.pool.specs.declared.Space.{Space}
use Rattle.plan.specs.Map as map
use Rattle.plan.specs.Protect as protect
use Rattle.plan.specs.Rights.{write_execute}
use Rattle.plan.specs.Unmap as unmap
use Rattle.plan.specs.declared.maps.Asked.{Asked}
use Rattle.plan.specs.declared.Reason.TheVariants.{WriteExecute}
use Rattle.plan.proofs.Strictly.{map_strict, map_refuses, map_only, protect_strict, protect_refuses, protect_only, unmap_never}
use Rattle.effect.specs.Whole.{Whole}
use Rattle.tablepath.specs.declared.Altered.{Altered}
use Rattle.tablepath.specs.Answers.{create_answer, create_writes, map_answer, map_said, unmap_answer, unmap_said, protect_answer, protect_said}
use Rattle.tablepath.specs.Calls.{means, Call, call_writes, Act, act_writes, wrote, Runs, UpTo, Reached}
use Rattle.tablepath.specs.Looks.{WholeBytes}
use Rattle.tablepath.specs.Nights.{Night, dusk, calls, happens, begins, done, history, last_began, last_since, due, uncovered, untold_kept, upper_dropped, Protects, Honest, Telling, Complete}
use Rattle.tablepath.specs.Gone.{dawn}
use Rattle.tablepath.specs.Strict.{NotBoth, Strict, StrictBytes, RefusesBoth, NightStrict, NeverBoth}
use Rattle.tablepath.proofs.SaysAny.{map_done_by, protect_done_by}
use Rattle.tablepath.proofs.Wholes.{create_whole, call_leaves}
use Rattle.tablepath.proofs.Witness.{nothing_yet}
use Rattle.tablepath.proofs.Serving.{IsBuilt}
use Rattle.tablepath.proofs.Running.{act_served, act_whole, act_ticket, reached_ran, reached_all}
use Rattle.tablepath.proofs.Did.{Did, same, mapped, gone, changed, Stirs, plan_stirs, saw_means, act_stirs}
use Rattle.tablepath.proofs.Beside.{each_walk_ends}
use Rattle.tablepath.proofs.Facts.{Facts, coming}
use Rattle.tablepath.proofs.Nights.{night_facts, night_told_fresh, night_fresh, stale_facts}

-- For any bytes -----------------------------------------------------------------------------------------------------------------------

-- an answer gives the reason of the decision
map_told : (x : map.Placed) → map_said x ≡ Err WriteExecute → x ≡ map.Refused WriteExecute
unfolding map_said
map_told (map.Go p) e = let z : ◌≡◌ {A = ℕ} 0 1 = cc in absurd (omega arith)
map_told (map.Refused y) e = let same : y ≡ WriteExecute = cc in ap map.Refused same

unmap_told : (b : Book) (x : Result Removal Reason) → unmap_said b x ≡ Err WriteExecute → x ≡ Err WriteExecute
unfolding unmap_said
unmap_told b (Ok r) e = let z : ◌≡◌ {A = ℕ} 0 1 = cc in absurd (omega arith)
unmap_told b (Err y) e = let same : y ≡ WriteExecute = cc in ap Err same

protect_told : (x : Result Change Reason) → protect_said x ≡ Err WriteExecute → x ≡ Err WriteExecute
unfolding protect_said
protect_told (Ok c) e = let z : ◌≡◌ {A = ℕ} 0 1 = cc in absurd (omega arith)
protect_told (Err y) e = let same : y ≡ WriteExecute = cc in ap Err same

module _ (h : ℕ → Bool) (m : ℕ → ℕ) (sp : Space) where
  -- where it is done, the rights that were asked are not both
  pub map_given : (q : Asked) (k : ℕ) → map_answer h m sp q ≡ Ok k → write_execute q.rights ≡ false
  unfolding map_answer
  map_given q k e = let f = map_done_by k (map.decide_of h m sp q) e in map_strict h m sp q f.0 f.1

  pub protect_given : (va : ℕ) (r : Rights) (g : Altered) → protect_answer h m sp va r ≡ Ok g → write_execute r ≡ false
  unfolding protect_answer
  protect_given va r g e = let f = protect_done_by g (protect.decide_of h m sp va r) e in (protect_strict h m sp va r f.0 f.1).0

  -- WHO ASKS FOR ONE IS REFUSED, and nobody else for that
  pub refuses_both : RefusesBoth h m sp
  unfolding map_answer map_said unmap_answer protect_answer protect_said
  refuses_both = record {
    map = λ q l e s. rw (map_refuses h m sp q l e s);
    never_mapped = λ q k s e. true≢false (sym s ∙ map_given q k e);
    protect = λ va r s. rw (protect_refuses h m sp va r s);
    only_map = λ q e. map_only h m sp q (map_told (map.decide_of h m sp q) e);
    only_protect = λ va r e. protect_only h m sp va r (protect_told (protect.decide_of h m sp va r) e);
    never_unmap = λ va e. unmap_never h m sp va (unmap_told (book_of m sp) (unmap.decide_of h m sp va) e);
  }

-- One call ------------------------------------------------------------------------------------------------------------------------------

module _ (h : ℕ → Bool) (sp : Space) where
  -- what a call does to an address
  did_strict : {s : ℕ → ℕ} {va : ℕ} {c : Call} {o o' : Found} → Did h sp s va c o o' → NotBoth o → NotBoth o'
  unfolding NotBoth Protects
  did_strict (same e) k = subst NotBoth (sym e) k
  did_strict {s} (mapped {q = q} j d x y) k = subst NotBoth (sym y) (map_given h s sp q j d)
  did_strict (gone t x y) k = subst NotBoth (sym y) tt
  did_strict {s} (changed {base = b} {now = r} t x y) k = subst NotBoth (sym y) (protect_given h s sp b r t.0 t.1)

  stirred : (c : Call) (s m : ℕ → ℕ) (es : List (Event ℕ)) → Stirs h sp c s m es → Strict h sp m → All m es (Strict h sp)
  stirred c s m es stirs k = all_map es m _ (Strict h sp) moment stirs.moments
    where
      end : Strict h sp (after m es)
      end va = did_strict (stirs.did va) (k va)

      moment : (x : ℕ → ℕ) → ((va : ℕ) → means h sp x va ≡ means h sp m va) ⊎ ((va : ℕ) → means h sp x va ≡ means h sp (after m es) va) → Strict h sp x
      moment x (inl q) va = subst NotBoth (sym (q va)) (k va)
      moment x (inr q) va = subst NotBoth (sym (q va)) (end va)

  module _ (m : ℕ → ℕ) (role : ℕ → Role) (w : Whole h sp m role) (c : Call) (k : Strict h sp m) where
    -- AFTER EACH SINGLE WRITE of a call no address means such a page
    pub moments_strict : All m (events_of (call_writes h m sp c)) (Strict h sp)
    moments_strict = stirred c m m (events_of (call_writes h m sp c)) (plan_stirs h sp m role w c) k

    pub call_strict : Strict h sp (word.after m (call_writes h m sp c))
    call_strict = subst (Strict h sp) (events_after m (call_writes h m sp c)) (all_last (events_of (call_writes h m sp c)) m (Strict h sp) moments_strict)

-- CREATE LEAVES NONE
pub create_strict : (s : List ℕ) (origin first pages p : ℕ) → create_answer s origin first pages ≡ Ok p
    → StrictBytes (carried s origin (create_writes s origin first pages)) (new_space origin first pages)
create_strict s origin first pages p e va = go (canonical va) refl
  where
    go : (b : Bool) → canonical va ≡ b → NotBoth (means (holds (carried s origin (create_writes s origin first pages)) origin) (new_space origin first pages) (memory (carried s origin (create_writes s origin first pages)) origin) va)
    go true a = unfold NotBoth in rw (nothing_yet (create_whole s origin first pages p e).1 va a) tt
    go false a = unfold NotBoth in rw ((no_address_only _ _ _ va).1 a) tt

-- EVERY CALL KEEPS IT, whatever it answers
pub call_keeps_strict : (s : List ℕ) (sp : Space) (role : ℕ → Role) → WholeBytes s sp role → (c : Call) → StrictBytes s sp
    → StrictBytes (carried s sp.origin (call_writes (holds s sp.origin) (memory s sp.origin) sp c)) sp
call_keeps_strict s sp role w c k =
    rw (holds_carried s sp.origin _, memory_carried s sp.origin _ (call_leaves _ sp _ role w c).1) (call_strict _ sp _ role w c k)

-- Runs -----------------------------------------------------------------------------------------------------------------------------------

module _ (h : ℕ → Bool) (sp : Space) where
  run_strict : (n : ℕ) (m : ℕ → ℕ) (role : ℕ → Role) (cs : List Act) → Whole h sp m role → n ≤ ticket_of (book_of m sp) → Runs h sp m cs → UpTo n cs
      → Strict h sp m → All m (wrote h sp cs) (Strict h sp)
  unfolding wrote Runs UpTo All
  run_strict n m role [] w u r t k = k
  run_strict n m role (a ∷ cs) w u r t k =
      let one : All m (act_writes h sp a) (Strict h sp) = stirred h sp a.call a.saw m (act_writes h sp a) (act_stirs h sp n m role w u a r.0 t.0) k in
      all_append (act_writes h sp a) (wrote h sp cs) m (Strict h sp) one
      (run_strict n (after m (act_writes h sp a)) (act_served h sp n m role w u a r.0 t.0).role cs (act_whole h sp n m role w u a r.0 t.0) (act_ticket h sp n m role w u a r.0 t.0) r.1 t.1
      (all_last (act_writes h sp a) m (Strict h sp) one))

  module _ (n : ℕ) (m : ℕ → ℕ) (role : ℕ → Role) (w : Whole h sp m role) (u : n ≤ ticket_of (book_of m sp)) (cs : List Act) (k : Strict h sp m) where
    -- AT EVERY MOMENT OF A RUN OF CALLS, each write alone and late, with the machine's marks and other programs' stores between
    pub run_moments_strict : (gs : List (Event ℕ)) → Reached h sp n m cs gs → All m gs (Strict h sp)
    run_moments_strict gs r =
        reached_all h sp n m role w u cs gs r (λ x. IsBuilt h sp x × Strict h sp x) (Strict h sp)
        (λ x y s b va. subst NotBoth (sym (saw_means h sp x y s b.0 va)) (b.1 va))
        (all_both (wrote h sp cs) m (IsBuilt h sp) (Strict h sp) (reached_ran h sp n m role w u cs gs r).built (run_strict n m role cs w u r.runs r.upto k))

    -- NO WALK BESIDE IT, nor a look-up, ends with such a page
    pub no_walk_both : (who : ℕ → ℕ) (ts : List (Turn ℕ)) → Reached h sp n m cs (events ts) → (i : ℕ) (o : Found)
        → Gives (walker_of (setting_of h sp)) (who i) (places (walker_of (setting_of h sp)) who m (at_start (walker_of (setting_of h sp)) who) ts i) o → NotBoth o
    unfolding Idle events after
    no_walk_both who ts r i o g =
        let among = each_walk_ends h sp n m role w u cs who [] ts [] (subst (λ l. Reached h sp n m cs (events l)) (sym (append-nil ts)) r) i tt tt o
        (subst (λ l. Gives (walker_of (setting_of h sp)) (who i) (places (walker_of (setting_of h sp)) who m (at_start (walker_of (setting_of h sp)) who) l i) o) (sym (append-nil ts)) g) in
        let t = among_all (events ts) m (Strict h sp) (λ x. means h sp x (who i) ≡ o) (run_moments_strict (events ts) r) among in
        subst NotBoth t.2 (t.1 (who i))

-- A night --------------------------------------------------------------------------------------------------------------------------------

module _ (h : ℕ → Bool) (sp : Space) where
  -- nights of which each part shows what it has to
  record Shows (K : Night → Type 0) : Type 1 where
    facts : (N : Night) → K N → Facts h sp N
    calls_less : (N : Night) (a : Act) → K (calls N a) → K N
    happens_less : (N : Night) (e : Event ℕ) → K (happens N e) → K N
    begins_less : (N : Night) → K (begins N) → K N
    done_less : (N : Night) (T : ℕ → Type 0) → K (done N T) → K N
    done_due : (N : Night) (T : ℕ → Type 0) → K (done N T) → (D : List Act) × (Ds : List (List Act)) × (due N ≡ D ∷ Ds)

  module _ (K : Night → Type 0) (shows : Shows K) where
    -- the last period is a run
    period_strict : (N : Night) → K N → Strict h sp (last_began N) → All (last_began N) (last_since N) (Strict h sp)
    period_strict N k s =
        let f = shows.facts N k in
        run_moments_strict h sp (ticket_of (book_of (last_began N) sp)) (last_began N) f.role f.whole (omega arith) (uncovered N) s (last_since N) f.reached.0

    began_strict : (N : Night) → K N → Strict h sp (dawn N) → Strict h sp (last_began N)
    unfolding dawn history last
    began_strict (dusk m) k s = s
    began_strict (calls N a) k s = began_strict N (shows.calls_less N a k) s
    began_strict (happens N e) k s = began_strict N (shows.happens_less N e k) s
    began_strict (begins N) k s = began_strict N (shows.begins_less N k) s
    began_strict (done N T) k s =
        let k' = shows.done_less N T k in
        let d = shows.done_due N T k in
        let l = (coming h sp N d.0 d.1 d.2 (shows.facts N k')).later in
        subst (Strict h sp) (sym l.began_is)
        (all_last l.before (last_began N) (Strict h sp)
        (all_front l.before (next (history N)).since (last_began N) (Strict h sp)
        (subst (λ z. All (last_began N) z (Strict h sp)) l.since_is (period_strict N k' (began_strict N k' s)))))

    always_strict : (N : Night) → K N → NightStrict h sp N
    always_strict N k s =
        subst (Strict h sp) (last_ends (history N)) (all_last (last_since N) (last_began N) (Strict h sp) (period_strict N k (began_strict N k s)))

    -- what an address meant at some moment
    meant_strict : (m : ℕ → ℕ) → Strict h sp m → (va : ℕ) (o : Found) → means h sp m va ≡ o → NotBoth o
    meant_strict m s va o e = subst NotBoth e (s va)

    fresh_strict : (C : Caches Position Found) (N : Night) → K N → Strict h sp (dawn N) → (va : ℕ) (o : Found) → Fresh (walker_of (setting_of h sp)) C (history N) va o → NotBoth o
    unfolding dawn history last now Fresh
    fresh_strict C (dusk m) k s va o e = meant_strict m s va o (sym (one_space_meaning h (4096 * sp.root) m va) ∙ e)
    fresh_strict C (calls N a) k s va o f = fresh_strict C N (shows.calls_less N a k) s va o f
    fresh_strict C (happens N e) k s va o (inl f) = fresh_strict C N (shows.happens_less N e k) s va o f
    fresh_strict C (happens N e) k s va o (inr f) =
        meant_strict (happen (now (history N)) e) (always_strict (happens N e) k s) va o (sym (one_space_meaning h (4096 * sp.root) (happen (now (history N)) e) va) ∙ f)
    fresh_strict C (begins N) k s va o f = fresh_strict C N (shows.begins_less N k) s va o f
    fresh_strict C (done N T) k s va o (inl f) =
        let t = among_all (last_since (done N T)) (last_began (done N T)) (Strict h sp) _ (period_strict (done N T) k (began_strict (done N T) k s)) f in
        meant_strict t.0 t.1 va o (sym (one_space_meaning h (4096 * sp.root) t.0 va) ∙ t.2)
    fresh_strict C (done N T) k s va o (inr f) = fresh_strict C N (shows.done_less N T k) s va o f.2

  -- where each shootdown tells the unmapped addresses
  complete_shows : Shows (λ N. Honest h sp untold_kept N × Complete h sp N)
  unfolding Honest Telling
  complete_shows = record {
    facts = λ N k. night_facts h sp N k.0 k.1;
    calls_less = λ N a k. (k.0.0, k.1);
    happens_less = λ N e k. (k.0.0, k.1);
    begins_less = λ N k. (k.0.0, k.1);
    done_less = λ N T k. (k.0.0, k.1.0);
    done_due = λ N T k. (k.0.1, k.0.2, k.0.3);
  }

  -- whatever is told, where all upper entries are dropped
  dropped_shows : Shows (Honest h sp upper_dropped)
  unfolding Honest
  dropped_shows = record {
    facts = λ N k. stale_facts h sp N k;
    calls_less = λ N a k. k.0;
    happens_less = λ N e k. k.0;
    begins_less = λ N k. k.0;
    done_less = λ N T k. k.0;
    done_due = λ N T k. (k.1, k.2, k.3);
  }

  -- AT EVERY MOMENT, AND OF EVERY ANSWER
  pub night_strict : (N : Night) → Honest h sp untold_kept N → Complete h sp N → NightStrict h sp N
  night_strict N honest complete = always_strict _ complete_shows N (honest, complete)

  pub night_never_both : (N : Night) → Honest h sp untold_kept N → Complete h sp N → NeverBoth h sp untold_kept N
  night_never_both N honest complete s va o g = fresh_strict _ complete_shows untold_kept N (honest, complete) s va o (night_told_fresh h sp N honest complete va o g)

  -- and this whatever is told
  pub stale_never_both : (N : Night) → Honest h sp upper_dropped N → NeverBoth h sp upper_dropped N
  stale_never_both N honest s va o g = fresh_strict _ dropped_shows upper_dropped N honest s va o (night_fresh h sp N honest va o g)
