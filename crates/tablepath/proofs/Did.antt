-- WHAT EACH CALL DOES TO THE MEANING of an address, at every moment of it: all is old or all is new, and the new is what the call did to the old.
use Prim.Native.Nat.{ℕ, ◌+◌, ◌*◌, ◌/◌, ◌%◌, ◌<◌, ◌≤◌}
use Rattle.pool.specs.declared.NotDue.TheVariants as notdue
use mathlib.Core.Bool.{Bool}
use mathlib.Core.List.{List, []}
use mathlib.Core.Logic.{◌⊎◌, inl, inr}
use mathlib.Core.Path.{◌≡◌, refl, sym, ap, ◌∙◌, subst, subst₂}
use native.Mathlib.Decide.{ℕ_discrete}
use native.Mathlib.Omega.{arith}
use Rattle.std.proofs.Common.{Result, Ok, Err}
use Rattle.plan.specs.declared.Reason.{Reason}
use Rattle.pool.specs.declared.NotDue.{NotDue}
use Rattle.plan.specs.declared.unmaps.Removal.{Removal}
use Rattle.plan.specs.declared.protects.Change.{Change}
use Rattle.word.specs.Writes.{Write}
use Rattle.word.specs.Writes as word
use Rattle.entry.specs.Entry.{size_of}
use Rattle.entry.specs.declared.Rights.{Rights}
use Rattle.walk.specs.Walk.{base_of}
use Rattle.walk.specs.declared.Found.{Found}
use Rattle.walk.specs.declared.Found.TheVariants.{Page, Nothing}
use Rattle.walk.proofs.Ranges.{page_covers}
use Rattle.world.specs.Events.{Event, after, All}
use Rattle.world.proofs.Events.{all_map, all_both, all_last}
use Rattle.tables.proofs.Walks.{one_space_meaning, laws_of}
use Rattle.world.proofs.OneChange.{OldOrNew, old_or_new}
use Rattle.tables.specs.Roles.{Role}
use Rattle.tables.specs.Near.{Near}
use Rattle.tables.proofs.Near.{near_range}
use Rattle.tables.proofs.Overlap.{aligned_base, nothing_mapped}
use Rattle.tables.specs.Discipline.{walker_of}
use Rattle.tables.specs.Clearing.{events_of}
use Rattle.tables.proofs.Clearing.{events_after}
use Rattle.tables.specs.Operation.{Changed}
use Rattle.tables.proofs.Unseen.{alike_means}
use Rattle.pool.specs.Book.{book_of, ticket_of, due_of}
use Rattle.pool.specs.Booked.{setting_of}
use Rattle.pool.specs.declared.Space.{Space}
use Rattle.plan.specs.Map as map
use Rattle.plan.specs.Unmap as unmap
use Rattle.plan.specs.Protect as protect
use Rattle.plan.specs.declared.maps.Asked.{Asked}
use Rattle.plan.specs.Map.{Placed}
use Rattle.effect.specs.Whole.{Whole}
use Rattle.effect.proofs.MapDone.{decided_done}
use Rattle.effect.proofs.UnmapDone.{unmapped}
use Rattle.effect.proofs.ProtectDone.{protected}
use Rattle.effect.proofs.ToldDone as effect
use Rattle.effect.proofs.Wholes.{book_opens}
use Rattle.tablepath.specs.Answers.{map_answer, map_writes, unmap_writes, protect_writes, told_writes, told_did, due_did}
use Rattle.tablepath.specs.Calls.{means, Call, Within, call_writes, Saw, Act, act_writes}
use Rattle.tablepath.specs.Calls as calls
use Rattle.tablepath.specs.Nights.{Unmaps, Protects}
use Rattle.tablepath.proofs.SaysAny.{map_goes, unmap_goes, protect_goes}
use Rattle.tablepath.proofs.Marking.{planned_writes, planned_others, saw_back, others_all, saw_alike}
use Rattle.tablepath.proofs.Serving.{IsBuilt}
use Rattle.tablepath.proofs.Running.{act_served, seen_whole, saw_act}

-- what a call that saw the memory s does to an address that meant the one, and means the other
pub data Did (h : ℕ → Bool) (sp : Space) (s : ℕ → ℕ) (va : ℕ) : Call → Found → Found → Type 0 where
  same : {c : Call} {o o' : Found} → o' ≡ o → Did h sp s va c o o'
  mapped : {q : Asked} {o o' : Found} (k : ℕ) → map_answer h s sp q ≡ Ok k → o ≡ Nothing → o' ≡ Page q.base q.size q.frame q.rights
      → Did h sp s va (calls.map q) o o'
  gone : {base size frame : ℕ} {had : Rights} {o o' : Found} → Unmaps h sp (calls.unmap base) s va → o ≡ Page base size frame had → o' ≡ Nothing
      → Did h sp s va (calls.unmap base) o o'
  changed : {base size frame : ℕ} {had now : Rights} {o o' : Found} → Protects h sp (calls.protect base now) s va → o ≡ Page base size frame had
      → o' ≡ Page base size frame now → Did h sp s va (calls.protect base now) o o'

module _ (h : ℕ → Bool) (sp : Space) where
  -- each moment of es means all the old, or all the new; and the new is what the call does to the old
  pub record Stirs (c : Call) (s m : ℕ → ℕ) (es : List (Event ℕ)) : Type 0 where
    pub moments : All m es (λ x. ((va : ℕ) → means h sp x va ≡ means h sp m va) ⊎ ((va : ℕ) → means h sp x va ≡ means h sp (after m es) va))
    pub did : (va : ℕ) → Did h sp s va c (means h sp m va) (means h sp (after m es) va)

  stirs_none : (c : Call) (m : ℕ → ℕ) → Stirs c m m (events_of [])
  unfolding events_of All after
  stirs_none c m = record { moments = inl (λ va. refl); did = λ va. same refl }

  as_means : (m m' : ℕ → ℕ) (x : ℕ → ℕ) → OldOrNew (walker_of (setting_of h sp)) m m' x
      → ((va : ℕ) → means h sp x va ≡ means h sp m va) ⊎ ((va : ℕ) → means h sp x va ≡ means h sp m' va)
  as_means m m' x (inl q) = inl (λ va. sym (one_space_meaning h (4096 * sp.root) x va) ∙ q va ∙ one_space_meaning h (4096 * sp.root) m va)
  as_means m m' x (inr q) = inr (λ va. sym (one_space_meaning h (4096 * sp.root) x va) ∙ q va ∙ one_space_meaning h (4096 * sp.root) m' va)

  module _ (m : ℕ → ℕ) (role : ℕ → Role) (w : Whole h sp m role) where
    -- an operation that changes one range
    turned : (c : Call) (va l : ℕ) (o : Found) (role' : ℕ → Role) (ws : List Write) → Changed (setting_of h sp) m role va l o ws (word.after m ws) role'
        → ((vb : ℕ) → Near l va vb → Did h sp m vb c (means h sp m vb) o) → Stirs c m m (events_of ws)
    turned c va l o role' ws k f = record {
      moments = all_map (events_of ws) m _ _ (as_means m (after m (events_of ws))) (old_or_new (walker_of (setting_of h sp)) (laws_of (setting_of h sp)) (events_of ws) m k.change);
      did = λ vb. rw (events_after m ws) (go vb (ℕ_discrete (va / size_of l) (vb / size_of l)));
    }
      where
        go : (vb : ℕ) → Dec (Near l va vb) → Did h sp m vb c (means h sp m vb) (means h sp (word.after m ws) vb)
        go vb (yes n) = rw (k.turns.in_range vb n) (f vb n)
        go vb (no n) = same (k.turns.elsewhere vb n)

    -- the addresses near an aligned base are those of its page
    near_in : (va l size vb : ℕ) → size ≡ size_of l → va % size ≡ 0 → Near l va vb → (va ≤ vb) × (vb < va + size)
    near_in va l size vb s a n =
        let b : base_of l va ≡ va = aligned_base l va (subst (λ z. va % z ≡ 0) s a) in
        let r = (near_range l va vb).0 n in
        (omega (arith, r.0), omega (arith, r.1))

    -- every one of them has the page
    near_page : (va l size frame : ℕ) (had : Rights) → size ≡ size_of l → va % size ≡ 0 → means h sp m va ≡ Page va size frame had
        → (vb : ℕ) → Near l va vb → means h sp m vb ≡ Page va size frame had
    near_page va l size frame had s a e vb n =
        let r = near_in va l size vb s a n in
        (page_covers h m (4096 * sp.root) va va size frame had e).everywhere vb r.0 r.1

    map_stirs : (q : Asked) (x : Placed) → map.decide_of h m sp q ≡ x → Stirs (calls.map q) m m (events_of (map.did_of sp x))
    unfolding map.did_of
    map_stirs q (map.Refused r) e = stirs_none (calls.map q) m
    map_stirs q (map.Go p) e =
        let d = decided_done w q p e in
        turned (calls.map q) q.base p.target (Page q.base q.size q.frame q.rights) d.role' (map.writes_of sp p) d.changed
        (λ vb n. mapped p.fresh.need (map_goes h m sp q p e) (nothing_mapped w.sound.built vb (omega arith) d.missing.comes d.missing.nothing n) refl)

    unmap_stirs : (va : ℕ) (x : Result Removal Reason) → unmap.decide_of h m sp va ≡ x → Stirs (calls.unmap va) m m (events_of (unmap.did_of sp va x))
    unfolding unmap.did_of Unmaps
    unmap_stirs va (Err y) e = stirs_none (calls.unmap va) m
    unmap_stirs va (Ok r) e =
        let d = unmapped w va r e in
        turned (calls.unmap va) va r.page.way.level Nothing d.role' (unmap.writes_of sp va r) d.changed
        (λ vb n.
        let i = near_in va r.page.way.level r.page.size vb d.size_is d.aligned n in
        let g = unmap_goes h m sp va r e in
        gone (g.0, g.1, i.0, omega (arith, i.1, g.2))
        (near_page va r.page.way.level r.page.size r.page.frame d.had d.size_is d.aligned d.before vb n) refl)

    protect_stirs : (va : ℕ) (g : Rights) (x : Result Change Reason) → protect.decide_of h m sp va g ≡ x → Stirs (calls.protect va g) m m (events_of (protect.did_of x))
    unfolding protect.did_of Protects
    protect_stirs va g (Err y) e = stirs_none (calls.protect va g) m
    protect_stirs va g (Ok c) e =
        let d = protected w va g c e in
        turned (calls.protect va g) va d.level (Page va c.size c.frame g) role (protect.writes_of c) d.changed
        (λ vb n.
        let i = near_in va d.level c.size vb d.size_is d.aligned n in
        let y = protect_goes h m sp va g c e in
        changed (y.0, y.1, i.0, omega (arith, i.1, y.2))
        (near_page va d.level c.size c.frame d.had d.size_is d.aligned d.before vb n) refl)

    due_stirs : (t : ℕ) (x : Result ℕ NotDue) → due_of (book_of m sp) t ≡ x → Stirs (calls.told t) m m (events_of (due_did sp (book_of m sp) x))
    unfolding due_did
    due_stirs t (Err notdue.Unknown) e = stirs_none (calls.told t) m
    due_stirs t (Err notdue.Spent) e = stirs_none (calls.told t) m
    due_stirs t (Ok k) e =
        let d = effect.told w t k e in
        record {
          moments = all_map _ m _ _ (λ x q. as_means m _ x (inl q)) d.quiet;
          did = λ va. same (ap (λ x. means h sp x va) (events_after m _) ∙ d.same va);
        }

    told_stirs : (t : ℕ) → Stirs (calls.told t) m m (events_of (told_writes h m sp t))
    unfolding told_writes told_did
    told_stirs t = rw (book_opens w) (due_stirs t (due_of (book_of m sp) t) refl)

    pub plan_stirs : (c : Call) → Stirs c m m (events_of (call_writes h m sp c))
    unfolding call_writes map_writes unmap_writes protect_writes
    plan_stirs (calls.map q) = map_stirs q (map.decide_of h m sp q) refl
    plan_stirs (calls.unmap va) = unmap_stirs va (unmap.decide_of h m sp va) refl
    plan_stirs (calls.protect va g) = protect_stirs va g (protect.decide_of h m sp va g) refl
    plan_stirs (calls.told t) = told_stirs t

  -- memories that are the same but for marks mean the same
  pub saw_means : (x y : ℕ → ℕ) → Saw sp x y → IsBuilt h sp x → (va : ℕ) → means h sp y va ≡ means h sp x va
  saw_means x y k b va = alike_means b.1 y (saw_alike h sp k b.1) va

  -- A CALL IN A RUN, planned of what it saw.
  module _ (n : ℕ) (m : ℕ → ℕ) (role : ℕ → Role) (w : Whole h sp m role) (u : n ≤ ticket_of (book_of m sp)) (a : Act) (saw : Saw sp m a.saw) (within : Within n a.call) where
    abbrev es : List (Event ℕ)
    es = act_writes h sp a

    -- what is meant after it
    pub act_means : (va : ℕ) → means h sp (after m es) va ≡ means h sp (after a.saw es) va
    act_means = saw_means (after a.saw es) (after m es) (saw_act h sp n m role w u a saw within) (all_last es a.saw (IsBuilt h sp) (act_served h sp n m role w u a saw within).built)

    pub act_stirs : Stirs a.call a.saw m es
    act_stirs = record {
      moments = others_all sp es a.saw m (λ x. IsBuilt h sp x × Means x) Now blind (planned_others sp (call_writes h a.saw sp a.call) m) (saw_back sp saw)
          (subst (λ l. All a.saw l (λ x. IsBuilt h sp x × Means x)) (sym (planned_writes (call_writes h a.saw sp a.call)))
          (all_both es a.saw _ _ (act_served h sp n m role w u a saw within).built s.moments));
      did = λ va. subst₂ (Did h sp a.saw va a.call) (sym (first va)) (sym (act_means va)) (s.did va);
    }
      where
        s : Stirs a.call a.saw a.saw es
        s = plan_stirs a.saw role (seen_whole h sp n m role w u a saw within) a.call

        first : (va : ℕ) → means h sp m va ≡ means h sp a.saw va
        first = saw_means a.saw m (saw_back sp saw) (role, (seen_whole h sp n m role w u a saw within).sound.built)

        Means : (ℕ → ℕ) → Type 0
        Means x = ((va : ℕ) → means h sp x va ≡ means h sp a.saw va) ⊎ ((va : ℕ) → means h sp x va ≡ means h sp (after a.saw es) va)

        Now : (ℕ → ℕ) → Type 0
        Now x = ((va : ℕ) → means h sp x va ≡ means h sp m va) ⊎ ((va : ℕ) → means h sp x va ≡ means h sp (after m es) va)

        blind : (x y : ℕ → ℕ) → Saw sp x y → IsBuilt h sp x × Means x → Now y
        blind x y k (b, inl q) = inl (λ va. saw_means x y k b va ∙ q va ∙ sym (first va))
        blind x y k (b, inr q) = inr (λ va. saw_means x y k b va ∙ q va ∙ sym (act_means va))
