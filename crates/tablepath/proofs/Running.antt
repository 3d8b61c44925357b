-- A run of calls: what holds between operations holds at its end, the tables are built at every moment, and all of it obeys from the ticket on;
-- so does what has reached memory of it, at any moment, with marks and others' stores in between.
use Prim.Native.Nat.{ℕ, ◌+◌, ◌*◌, ◌/◌, ◌<◌, ◌≤◌}
use mathlib.Core.Bool.{Bool}
use mathlib.Core.List.{List, [], ◌∷◌, ◌++◌, append-nil}
use mathlib.Core.Path.{◌≡◌, refl, sym, ap, ◌∙◌, subst}
use native.Mathlib.Omega.{arith}
use Rattle.word.specs.Writes.{Write}
use Rattle.word.specs.Writes as word
use Rattle.word.specs.Memory.{at}
use Rattle.word.proofs.Writes.{page_of}
use Rattle.world.specs.Events.{Event, after, All}
use Rattle.world.proofs.Events.{after_append, all_map, all_front, all_append}
use Rattle.world.specs.Discipline.{Safe}
use Rattle.world.specs.Rules.{Obeys}
use Rattle.world.proofs.Rules.{obeys_nil, obeys_append, obeys_weaken, safe_less}
use Rattle.world.specs.Marks.{writes, Inside}
use Rattle.world.proofs.Marks.{obeys_beside}
use Rattle.world.specs.Reports.{Thawed}
use Rattle.tables.proofs.Ties.{reads_walk}
use Rattle.world.proofs.Late.{late_safe}
use Rattle.tables.specs.Roles.{Role, Live}
use Rattle.tables.proofs.Unseen.{alike_built}
use Rattle.tables.proofs.Meaning.{live_home}
use Rattle.tables.proofs.Reach.{walk_reads_tables}
use Rattle.tables.specs.Discipline.{walker_of}
use Rattle.tables.proofs.Clearing.{events_after}
use Rattle.tables.proofs.Walks.{laws_of}
use Rattle.pool.specs.Book.{book_of, ticket_of}
use Rattle.pool.specs.Booked.{setting_of}
use Rattle.pool.specs.declared.Space.{Space}
use Rattle.pool.proofs.Booked.{same_counts}
use Rattle.effect.specs.Whole.{Whole}
use Rattle.effect.specs.Numbers.{KeepsNumbers}
use Rattle.effect.proofs.Numbers.{same_keeps}
use Rattle.tablepath.specs.Calls.{Within, call_writes, PoolWord, Saw, Act, act_writes, wrote, Runs, UpTo, Reached, From}
use Rattle.tablepath.proofs.Marking.{planned_writes, planned_others, wrote_writes, saw_self, saw_back, others_saw, others_all, wrote_others, saw_book, saw_agree, saw_alike, others_fair, book_fits, saw_whole}
use Rattle.tablepath.proofs.Serving.{IsBuilt, Served, numbered_aside}
use Rattle.tablepath.proofs.Serves.{serves}

-- WALKS READ THE POOL, where the tables are built.
pub built_inside : (h : ℕ → Bool) (sp : Space) (m : ℕ → ℕ) → IsBuilt h sp m → Inside (walker_of (setting_of h sp)) (PoolWord sp) m
built_inside h sp m b va x =
    reads_walk h (λ va. 4096 * sp.root) (λ va. va) (PoolWord sp) m va 4 _ x (walk_reads_tables b.1 (PoolWord sp) in_pool_lem va)
  where
    in_pool_lem : (q l i : ℕ) → Live b.0 q l → i < 512 → PoolWord sp (at q i)
    in_pool_lem q l i live u =
        let home = live_home b.1 live in
        subst (λ y. (sp.first ≤ y) × (y < sp.first + sp.pages)) (sym (page_of q i u)) (home.from, home.upto)

module _ (h : ℕ → Bool) (sp : Space) where
  -- a frozen word is one of the pool's
  from_pool : (n : ℕ) (m : ℕ → ℕ) (role : ℕ → Role) → Whole h sp m role → (x : ℕ) → From sp n m x → PoolWord sp x
  from_pool n m role w x f =
      let home = w.sound.built.home (x / 512) (λ e. let z : ◌≡◌ {A = ℕ} 0 1 = cc (numbered_aside w.booked (x / 512) f.0 f.2) in omega arith) in
      (home.from, home.upto)

  -- the numbers are the same, but for marks
  pub saw_keeps : {m n : ℕ → ℕ} {role : ℕ → Role} → Whole h sp m role → Saw sp m n → KeepsNumbers sp m n
  saw_keeps w k = same_keeps w.booked (saw_book sp k (book_fits h sp w))

  -- the same writes to two memories that are the same but for marks
  pub saw_wrote : (cs : List Act) {m n : ℕ → ℕ} → Saw sp m n → Saw sp (after m (wrote h sp cs)) (after n (wrote h sp cs))
  saw_wrote cs {m} {n} k =
      subst (λ es. Saw sp (after m es) (after n (wrote h sp cs))) (wrote_writes h sp cs) (others_saw sp (wrote h sp cs) m n (wrote_others sp h cs n) k)

  -- built, but for marks
  pub saw_built : (m n : ℕ → ℕ) → Saw sp m n → IsBuilt h sp m → IsBuilt h sp n
  saw_built m n k b = (b.0, alike_built b.1 n (saw_alike h sp k b.1))

  -- the ticket
  pub saw_ticket : {m n : ℕ → ℕ} {role : ℕ → Role} → Whole h sp m role → Saw sp m n → ticket_of (book_of m sp) ≡ ticket_of (book_of n sp)
  saw_ticket w k = ap ticket_of (sym (same_counts (saw_book sp k (book_fits h sp w))))

  -- WHAT A RUN SHOWS, as its writes alone make memory.
  pub record Ran (n : ℕ) (m : ℕ → ℕ) (cs : List Act) : Type 0 where
    pub role : ℕ → Role
    pub whole : Whole h sp (after m (wrote h sp cs)) role
    pub obeys : Obeys (walker_of (setting_of h sp)) (From sp n m) m (wrote h sp cs) (From sp n (after m (wrote h sp cs)))
    pub ticket : n ≤ ticket_of (book_of (after m (wrote h sp cs)) sp)
    pub built : All m (wrote h sp cs) (IsBuilt h sp)

  -- ONE CALL, planned of what it saw
  module _ (n : ℕ) (m : ℕ → ℕ) (role : ℕ → Role) (w : Whole h sp m role) (u : n ≤ ticket_of (book_of m sp)) (a : Act) (saw : Saw sp m a.saw) (within : Within n a.call) where
    abbrev es : List (Event ℕ)
    es = act_writes h sp a

    -- what it saw is whole
    pub seen_whole : Whole h sp a.saw role
    seen_whole = saw_whole h sp saw w

    pub act_served : Served h sp n a.saw (call_writes h a.saw sp a.call)
    act_served = serves h sp n a.saw role a.call within seen_whole (omega (arith, u, saw_ticket w saw))

    -- the memories after it
    pub saw_act : Saw sp (after a.saw es) (after m es)
    unfolding wrote
    saw_act = rw append-nil at (saw_wrote (a ∷ []) (saw_back sp saw))

    abbrev ws : List Write
    ws = call_writes h a.saw sp a.call

    saw_end : Saw sp (word.after a.saw ws) (after m es)
    saw_end = subst (λ x. Saw sp x (after m es)) (events_after a.saw ws) saw_act

    pub act_whole : Whole h sp (after m es) act_served.role
    act_whole = saw_whole h sp saw_end act_served.whole

    pub act_built : All m es (IsBuilt h sp)
    act_built =
        others_all sp es a.saw m (IsBuilt h sp) (IsBuilt h sp) saw_built (planned_others sp ws m) (saw_back sp saw)
        (subst (λ l. All a.saw l (IsBuilt h sp)) (sym (planned_writes ws)) act_served.built)

    pub act_obeys : Obeys (walker_of (setting_of h sp)) (From sp n m) m es (From sp n (after m es))
    act_obeys =
        obeys_weaken (walker_of (setting_of h sp)) (laws_of (setting_of h sp)) es (From sp n m) (From sp n a.saw) (From sp n (after m es)) (From sp n (word.after a.saw ws)) m
        (λ x f. (f.0, f.1, (saw_keeps w saw).numbers (x / 512) f.0 f.2))
        (λ x f. (f.0, f.1, (saw_keeps act_served.whole saw_end).numbers (x / 512) f.0 f.2))
        (obeys_beside (walker_of (setting_of h sp)) (laws_of (setting_of h sp)) (PoolWord sp) es (From sp n a.saw) (From sp n (word.after a.saw ws)) a.saw m
        (from_pool n a.saw role seen_whole) (saw_agree h sp (saw_back sp saw)) (others_fair h sp es m (planned_others sp ws m))
        (subst (λ l. All a.saw l (Inside (walker_of (setting_of h sp)) (PoolWord sp))) (sym (planned_writes ws))
        (all_map es a.saw (IsBuilt h sp) (Inside (walker_of (setting_of h sp)) (PoolWord sp)) (built_inside h sp) act_served.built))
        (subst (λ l. Obeys (walker_of (setting_of h sp)) (From sp n a.saw) a.saw l (From sp n (word.after a.saw ws))) (sym (planned_writes ws)) act_served.obeys))

    pub act_ticket : n ≤ ticket_of (book_of (after m es) sp)
    act_ticket = omega (arith, act_served.ticket, saw_ticket act_served.whole saw_end)

  -- A RUN
  pub run_ran : (n : ℕ) (m : ℕ → ℕ) (role : ℕ → Role) (cs : List Act) → Whole h sp m role → n ≤ ticket_of (book_of m sp) → Runs h sp m cs → UpTo n cs → Ran n m cs
  unfolding wrote Runs UpTo after All
  run_ran n m role [] w u r t = record { role = role; whole = w; obeys = obeys_nil (walker_of (setting_of h sp)) (laws_of (setting_of h sp)) (From sp n m) m; ticket = u; built = (role, w.sound.built) }
  run_ran n m role (a ∷ cs) w u r t =
      let next = run_ran n (after m (act_writes h sp a)) (act_served n m role w u a r.0 t.0).role cs (act_whole n m role w u a r.0 t.0) (act_ticket n m role w u a r.0 t.0) r.1 t.1 in
      let end : after (after m (act_writes h sp a)) (wrote h sp cs) ≡ after m (act_writes h sp a ++ wrote h sp cs) = sym (after_append (act_writes h sp a) (wrote h sp cs) m) in
      record {
        role = next.role;
        whole = subst (λ x. Whole h sp x next.role) end next.whole;
        obeys = obeys_append (walker_of (setting_of h sp)) (laws_of (setting_of h sp)) (act_writes h sp a) (wrote h sp cs) (From sp n m) (From sp n (after m (act_writes h sp a))) (From sp n (after m (act_writes h sp a ++ wrote h sp cs))) m
            (act_obeys n m role w u a r.0 t.0)
            (subst (λ x. Obeys (walker_of (setting_of h sp)) (From sp n (after m (act_writes h sp a))) (after m (act_writes h sp a)) (wrote h sp cs) (From sp n x)) end next.obeys);
        ticket = subst (λ x. n ≤ ticket_of (book_of x sp)) end next.ticket;
        built = all_append (act_writes h sp a) (wrote h sp cs) m (IsBuilt h sp) (act_built n m role w u a r.0 t.0) next.built;
      }

  -- WHAT HAS REACHED MEMORY, at any moment --------------------------------------------------------------------------------------------

  module _ (n : ℕ) (m : ℕ → ℕ) (role : ℕ → Role) (w : Whole h sp m role) (u : n ≤ ticket_of (book_of m sp)) (cs : List Act) (gs : List (Event ℕ)) (r : Reached h sp n m cs gs) where
    pub reached_ran : Ran n m cs
    reached_ran = run_ran n m role cs w u r.runs r.upto

    -- what holds at every moment of the writes alone, but for marks, holds at every moment
    pub reached_all : (P Q : (ℕ → ℕ) → Type 0) → ((x y : ℕ → ℕ) → Saw sp x y → P x → Q y) → All m (wrote h sp cs) P → All m gs Q
    reached_all P Q blind all =
        others_all sp gs m m P Q blind r.others (saw_self sp m) (all_front (writes gs) r.waiting m P (subst (λ l. All m l P) (sym r.in_order) all))

    pub reached_built : All m gs (IsBuilt h sp)
    reached_built = reached_all (IsBuilt h sp) (IsBuilt h sp) saw_built reached_ran.built

    -- ALL THAT HAPPENS KEEPS THE DISCIPLINE, with the words frozen of pages that were set aside from the ticket on
    pub reached_safe : Safe (walker_of (setting_of h sp)) (From sp n m) m gs
    reached_safe =
        late_safe (walker_of (setting_of h sp)) (laws_of (setting_of h sp)) (PoolWord sp) gs r.waiting (wrote h sp cs) r.in_order m m (λ x o. refl) (others_fair h sp gs m r.others)
        (From sp n m) (from_pool n m role w)
        (all_map (wrote h sp cs) m (IsBuilt h sp) (Inside (walker_of (setting_of h sp)) (PoolWord sp)) (built_inside h sp) reached_ran.built)
        reached_ran.obeys.safe

    pub reached_thawed : Safe (walker_of (setting_of h sp)) Thawed m gs
    reached_thawed = safe_less (walker_of (setting_of h sp)) (laws_of (setting_of h sp)) gs Thawed (From sp n m) m (λ x f. absurd f) reached_safe

    -- where nothing waits, memory is what was written, but for marks; and what holds between operations holds
    pub reached_saw : r.waiting ≡ [] → Saw sp (after m (wrote h sp cs)) (after m gs)
    reached_saw e =
        subst (λ l. Saw sp (after m l) (after m gs)) (sym (append-nil (writes gs)) ∙ ap (λ l. writes gs ++ l) (sym e) ∙ r.in_order) (others_saw sp gs m m r.others (saw_self sp m))

    pub reached_whole : r.waiting ≡ [] → Whole h sp (after m gs) reached_ran.role
    reached_whole e = saw_whole h sp (reached_saw e) reached_ran.whole
