-- A TABLE IS GONE when it was set aside, and a shootdown that began then is done: no walk and no cache, for any address, reads a word of its page,
-- until a call links it. Statement: specs/Shown.antt, TableGone.
use Prim.Native.Nat.{ℕ, ◌+◌, ◌-◌, ◌<◌, ◌≤◌}
use Rattle.pool.specs.declared.NotDue.TheVariants as notdue
use mathlib.Core.Bool.{Bool}
use mathlib.Core.List.{List, [], ◌∷◌}
use mathlib.Core.Logic.{◌⊎◌, inl, inr, ◌≢◌}
use mathlib.Core.Path.{◌≡◌, refl, sym, ap, ◌∙◌, subst}
use native.Mathlib.Decide.{dec_lt}
use native.Mathlib.Omega.{arith}
use Rattle.std.proofs.Common.{Result, Ok, Err}
use Rattle.plan.specs.declared.Reason.{Reason}
use Rattle.pool.specs.declared.NotDue.{NotDue}
use Rattle.plan.specs.declared.unmaps.Removal.{Removal}
use Rattle.plan.specs.declared.protects.Change.{Change}
use Rattle.word.specs.Memory.{at}
use Rattle.word.specs.Writes.{Write}
use Rattle.word.specs.Writes as word
use Rattle.word.proofs.Writes.{page_of}
use Rattle.entry.specs.declared.Rights.{Rights}
use Rattle.walk.specs.declared.Found.{Found}
use Rattle.world.specs.Events.{after, All}
use Rattle.world.proofs.Events.{all_map, all_both, all_append}
use Rattle.world.specs.Walker.{Reads}
use Rattle.world.proofs.Ways.{follows_agree}
use Rattle.tables.specs.Roles.{Role, free, aside, table, left, Built}
use Rattle.tables.specs.Discipline.{walker_of}
use Rattle.tables.proofs.Discipline.{unread}
use Rattle.tables.specs.Clearing.{events_of}
use Rattle.tables.proofs.Clearing.{events_after, spare_untouched}
use Rattle.tables.specs.Operation.{Moment, Changed}
use Rattle.tables.proofs.Walks.{laws_of}
use Rattle.pool.specs.Book.{book_of, ticket_of, due_of, page_at}
use Rattle.pool.specs.Booked.{setting_of, released}
use Rattle.pool.specs.Changes.{release_writes}
use Rattle.pool.specs.declared.Space.{Space}
use Rattle.pool.proofs.Releasing.{has_number}
use Rattle.plan.specs.Map as map
use Rattle.plan.specs.Unmap as unmap
use Rattle.plan.specs.Protect as protect
use Rattle.plan.specs.declared.maps.Asked.{Asked}
use Rattle.plan.specs.Map.{Placed}
use Rattle.effect.specs.Whole.{Whole}
use Rattle.effect.specs.ToldDone.{ToldDone}
use Rattle.effect.proofs.MapDone.{decided_done}
use Rattle.effect.proofs.UnmapDone.{unmapped}
use Rattle.effect.proofs.ProtectDone.{protected}
use Rattle.effect.proofs.ToldDone as effect
use Rattle.effect.proofs.Wholes.{book_opens}
use Rattle.tablepath.specs.Answers.{map_answer, map_writes, unmap_writes, protect_writes, told_writes, told_did, due_did}
use Rattle.tablepath.specs.Calls.{Call, call_writes, Saw, Act, act_writes, wrote, Runs, UpTo}
use Rattle.tablepath.specs.Calls as calls
use Rattle.tablepath.specs.Nights.{Night, last_began, last_since, Some, uncovered, untold_kept, MayRead, Honest, Complete}
use Rattle.tablepath.specs.Gone.{InBook, Links}
use Rattle.tablepath.specs.Shown.{TableGone}
use Rattle.tablepath.proofs.SaysAny.{map_goes}
use Rattle.tablepath.proofs.Marking.{planned_writes, planned_others, saw_back, others_all, saw_agree, saw_whole}
use Rattle.tablepath.proofs.Serving.{IsBuilt}
use Rattle.tablepath.proofs.Serves.{release_spare}
use Rattle.tablepath.proofs.Running.{built_inside, act_served, act_ticket, seen_whole, saw_act, reached_ran, reached_all}
use Rattle.tablepath.proofs.Nights.{night_facts, night_reads}

module _ (h : ℕ → Bool) (sp : Space) (t : ℕ) where
  -- page t is no table
  abbrev NoTable : (ℕ → Role) → Type 0
  NoTable role = (role t ≡ free) ⊎ (role t ≡ aside)

  spare_left : (role : ℕ → Role) → NoTable role → left (role t) ≡ 0
  spare_left role (inl e) = ap left e
  spare_left role (inr e) = ap left e

  -- no walk that begins reads a word of it
  abbrev Unreads : (ℕ → ℕ) → Type 0
  Unreads y = (i : ℕ) → i < 512 → (va : ℕ) → ¬ Reads (walker_of (setting_of h sp)) y va ((walker_of (setting_of h sp)).start va) (at t i)

  built_unreads : (y : ℕ → ℕ) (role : ℕ → Role) → Built (setting_of h sp) y role → left (role t) ≡ 0 → Unreads y
  built_unreads y role b e i u va = unread b (at t i) (ap (λ x. left (role x)) (page_of t i u) ∙ e) va

  saw_unreads : (x y : ℕ → ℕ) → Saw sp x y → IsBuilt h sp x × Unreads x → Unreads y
  saw_unreads x y k (b, f) i u va r =
      f i u va ((follows_agree (walker_of (setting_of h sp)) (laws_of (setting_of h sp)) va x y ((walker_of (setting_of h sp)).start va) (λ z q. saw_agree h sp k z (built_inside h sp x b va z q))).within (at t i) r)

  -- A CALL LEAVES IT, as its writes alone make memory: the space is whole with roles by which t is still no table, and none read it meanwhile.
  record LeavesIt (m : ℕ → ℕ) (ws : List Write) : Type 0 where
    role : ℕ → Role
    whole : Whole h sp (word.after m ws) role
    spare : NoTable role
    unreads : All m (events_of ws) Unreads

  module _ (m : ℕ → ℕ) (role : ℕ → Role) (w : Whole h sp m role) (s : NoTable role) where
    leaves_none : LeavesIt m []
    unfolding word.after events_of All
    leaves_none = record { role = role; whole = w; spare = s; unreads = built_unreads m role w.sound.built (spare_left role s) }

    changed_leaves : (va l : ℕ) (o : Found) (role' : ℕ → Role) (ws : List Write) → Changed (setting_of h sp) m role va l o ws (word.after m ws) role' → Whole h sp (word.after m ws) role'
        → role' t ≡ role t → LeavesIt m ws
    changed_leaves va l o role' ws k w' e = record {
      role = role';
      whole = w';
      spare = elim s [ inl f ↦ inl (e ∙ f) | inr f ↦ inr (e ∙ f) ];
      unreads = all_map (events_of ws) m (Moment (setting_of h sp) role role') Unreads (λ x i. built_unreads x i.roles i.built (idle x i (i.between t))) k.moments;
    }
      where
        idle : (x : ℕ → ℕ) (i : Moment (setting_of h sp) role role' x) → (i.roles t ≡ role t) ⊎ (i.roles t ≡ role' t) → left (i.roles t) ≡ 0
        idle x i (inl f) = ap left f ∙ spare_left role s
        idle x i (inr f) = ap left (f ∙ e) ∙ spare_left role s

    map_leaves : (q : Asked) (x : Placed) → map.decide_of h m sp q ≡ x → ((k j : ℕ) → map_answer h m sp q ≡ Ok k → j < k → page_at m sp j ≢ t) → LeavesIt m (map.did_of sp x)
    unfolding map.did_of
    map_leaves q (map.Refused r) e spares = leaves_none
    map_leaves q (map.Go p) e spares =
        let d = decided_done w q p e in
        changed_leaves q.base p.target _ d.role' (map.writes_of sp p) d.changed d.whole (d.taken.stays t (λ j u f. spares p.fresh.need j (map_goes h m sp q p e) u f))

    unmap_leaves : (va : ℕ) (x : Result Removal Reason) → unmap.decide_of h m sp va ≡ x → LeavesIt m (unmap.did_of sp va x)
    unfolding unmap.did_of
    unmap_leaves va (Err y) e = leaves_none
    unmap_leaves va (Ok r) e =
        let d = unmapped w va r e in
        changed_leaves va r.page.way.level _ d.role' (unmap.writes_of sp va r) d.changed d.whole (elim (d.fate t) [ inl f ↦ f | inr f ↦ absurd (no_table s f.levels f.parent f.index f.was) ])
      where
        no_table : NoTable role → (l q i : ℕ) → ¬ (role t ≡ table l q i)
        no_table (inl f) l q i g = let z : ◌≡◌ {A = ℕ} 0 1 = cc in omega arith
        no_table (inr f) l q i g = let z : ◌≡◌ {A = ℕ} 0 1 = cc in omega arith

    protect_leaves : (va : ℕ) (g : Rights) (x : Result Change Reason) → protect.decide_of h m sp va g ≡ x → LeavesIt m (protect.did_of x)
    unfolding protect.did_of
    protect_leaves va g (Err y) e = leaves_none
    protect_leaves va g (Ok c) e = let d = protected w va g c e in changed_leaves va d.level _ role (protect.writes_of c) d.changed d.whole refl

    due_leaves : (n : ℕ) (x : Result ℕ NotDue) → due_of (book_of m sp) n ≡ x → LeavesIt m (due_did sp (book_of m sp) x)
    unfolding due_did
    due_leaves n (Err notdue.Unknown) e = leaves_none
    due_leaves n (Err notdue.Spent) e = leaves_none
    due_leaves n (Ok k) e = record {
      role = released m sp k role;
      whole = d.whole;
      spare = go s;
      unreads = all_map _ m _ Unreads (λ x b. built_unreads x role b (spare_left role s))
          (spare_untouched (release_writes sp (book_of m sp) k) w.sound.built (release_spare h sp 0 m role w (omega arith) k)).moments;
    }
      where
        d : ToldDone h sp m role n k
        d = effect.told w n k e

        go : NoTable role → NoTable (released m sp k role)
        go (inl f) = inl (d.others t (λ g. let z : ◌≡◌ {A = ℕ} 0 1 = cc in omega arith) ∙ f)
        go (inr f) =
            let g = has_number w.booked t f in
            elim (dec_lt g.0 n) [ yes u ↦ inl (d.frees t g.0 g.1 u) | no u ↦ inr (d.stays t g.0 g.1 (omega arith)).0 ]

    told_leaves : (n : ℕ) → LeavesIt m (told_writes h m sp n)
    unfolding told_writes told_did
    told_leaves n = rw (book_opens w) (due_leaves n (due_of (book_of m sp) n) refl)

    plan_leaves : (c : Call) → ((q : Asked) (k j : ℕ) → c ≡ calls.map q → map_answer h m sp q ≡ Ok k → j < k → page_at m sp j ≢ t) → LeavesIt m (call_writes h m sp c)
    unfolding call_writes map_writes unmap_writes protect_writes
    plan_leaves (calls.map q) spares = map_leaves q (map.decide_of h m sp q) refl (λ k j. spares q k j refl)
    plan_leaves (calls.unmap va) spares = unmap_leaves va (unmap.decide_of h m sp va) refl
    plan_leaves (calls.protect va g) spares = protect_leaves va g (protect.decide_of h m sp va g) refl
    plan_leaves (calls.told n) spares = told_leaves n

  -- A RUN leaves it, if none of its calls links it.
  run_leaves : (n : ℕ) (m : ℕ → ℕ) (role : ℕ → Role) (cs : List Act) → Whole h sp m role → n ≤ ticket_of (book_of m sp) → Runs h sp m cs → UpTo n cs
      → NoTable role → ¬ Some (Links h sp t) cs → All m (wrote h sp cs) Unreads
  unfolding wrote Runs UpTo Some All
  run_leaves n m role [] w u r k s spares = built_unreads m role w.sound.built (spare_left role s)
  run_leaves n m role (a ∷ cs) w u r k s spares =
      let ws = call_writes h a.saw sp a.call in
      let seen = seen_whole h sp n m role w u a r.0 k.0 in
      let one : LeavesIt a.saw ws = plan_leaves a.saw role seen s a.call
      (λ q j i e d v f. spares (inl (record { asked = q; is_map = e; tables = j; is_done = d; number = i; taken = v; is_page = f }))) in
      all_append (act_writes h sp a) (wrote h sp cs) m Unreads
      (others_all sp (act_writes h sp a) a.saw m (λ x. IsBuilt h sp x × Unreads x) Unreads saw_unreads (planned_others sp ws m) (saw_back sp r.0)
      (subst (λ l. All a.saw l (λ x. IsBuilt h sp x × Unreads x)) (sym (planned_writes ws)) (all_both (events_of ws) a.saw _ _ (act_served h sp n m role w u a r.0 k.0).built one.unreads)))
      (run_leaves n (after m (act_writes h sp a)) one.role cs
      (saw_whole h sp (subst (λ x. Saw sp x (after m (act_writes h sp a))) (events_after a.saw ws) (saw_act h sp n m role w u a r.0 k.0)) one.whole)
      (act_ticket h sp n m role w u a r.0 k.0) r.1 k.1 one.spare (λ x. spares (inr x)))

  -- what is no table when the last period begins, and is not linked since, is read from nothing that is held
  pub spare_unread : (N : Night) (k : Honest h sp untold_kept N) (c : Complete h sp N) → NoTable (night_facts h sp N k c).role → ¬ Some (Links h sp t) (uncovered N)
      → (va i : ℕ) → i < 512 → ¬ MayRead h sp untold_kept N va (at t i)
  spare_unread N k c spare spares va i v =
      let f = night_facts h sp N k c in
      let n = ticket_of (book_of (last_began N) sp) in
      let ran = reached_ran h sp n (last_began N) f.role f.whole (omega arith) (uncovered N) (last_since N) f.reached.0 in
      night_reads h sp N k c va (at t i)
      (all_map (last_since N) (last_began N) Unreads _ (λ y g. g i v va)
      (reached_all h sp n (last_began N) f.role f.whole (omega arith) (uncovered N) (last_since N) f.reached.0 (λ x. IsBuilt h sp x × Unreads x) Unreads saw_unreads
      (all_both (wrote h sp (uncovered N)) (last_began N) (IsBuilt h sp) Unreads ran.built
      (run_leaves n (last_began N) f.role (uncovered N) f.whole (omega arith) f.reached.0.runs f.reached.0.upto spare spares))))

  listed_spare : (m : ℕ → ℕ) (role : ℕ → Role) → Whole h sp m role → InBook sp m t → NoTable role
  listed_spare m role w (j, u, e) = go (dec_lt j (book_of m sp).free)
    where
      go : Dec (j < (book_of m sp).free) → NoTable role
      go (yes x) = inl (ap role (sym e) ∙ w.booked.lists.frees j x)
      go (no x) =
          let place : (book_of m sp).free + (j - (book_of m sp).free) ≡ j = omega arith in
          inr (ap role (sym (ap (page_at m sp) place ∙ e)) ∙ w.booked.lists.asides (j - (book_of m sp).free) (omega arith))

-- THE TABLE IS GONE.
pub table_gone : (h : ℕ → Bool) (sp : Space) (N : Night) → Honest h sp untold_kept N → Complete h sp N → TableGone h sp N
table_gone h sp N k c t listed = spare_unread h sp t N k c (listed_spare h sp t (last_began N) _ (night_facts h sp N k c).whole listed)
