-- WHAT EACH CALL DOES TO THE WAYS OF WALKS: a table that a walk comes to at some moment of a call, it comes to at the call's end; or the call
-- unmapped a page, and set the table aside, whose addresses share the walk's prefix.
use Prim.Native.Nat.{ℕ, ◌<◌, ◌≤◌}
use Rattle.pool.specs.declared.NotDue.TheVariants as notdue
use mathlib.Core.Bool.{Bool}
use mathlib.Core.List.{List, []}
use mathlib.Core.Logic.{◌⊎◌, inl, inr, ◌≢◌}
use mathlib.Core.Path.{◌≡◌, refl, sym, ap, ◌∙◌, subst}
use native.Mathlib.Omega.{arith}
use Rattle.std.proofs.Common.{Result, Ok, Err}
use Rattle.plan.specs.declared.Reason.{Reason}
use Rattle.pool.specs.declared.NotDue.{NotDue}
use Rattle.plan.specs.declared.unmaps.Removal.{Removal}
use Rattle.plan.specs.declared.protects.Change.{Change}
use Rattle.word.specs.Writes.{Write}
use Rattle.word.specs.Writes as word
use Rattle.entry.specs.Entry.{everything}
use Rattle.entry.specs.declared.Rights.{Rights}
use Rattle.entry.specs.declared.Entry.TheVariants.{Table}
use Rattle.walk.specs.Walk.{index_of}
use Rattle.walk.specs.declared.Found.{Found}
use Rattle.walk.proofs.Digits.{size_pos}
use Rattle.world.specs.Events.{Event, after, All}
use Rattle.world.proofs.Events.{all_map, all_both, all_last}
use Rattle.tables.specs.Roles.{Setting, Role, left, Built, entry_at}
use Rattle.tables.specs.Way.{Comes, begin, onto}
use Rattle.tables.proofs.Way.{comes_left, onto_role, one_way, comes_top, comes_address}
use Rattle.tables.specs.Walks.{SamePrefix}
use Rattle.entry.proofs.Fields.{last_no_table}
use Rattle.tables.specs.Clearing.{events_of}
use Rattle.tables.proofs.Clearing.{events_after, spare_untouched}
use Rattle.tables.specs.Operation.{Moment, Changed}
use Rattle.tables.proofs.Unseen.{alike_comes}
use Rattle.pool.specs.Book.{book_of, ticket_of, due_of}
use Rattle.pool.specs.Booked.{setting_of}
use Rattle.pool.specs.Changes.{release_writes}
use Rattle.pool.specs.declared.Space.{Space}
use Rattle.plan.specs.Map as map
use Rattle.plan.specs.Unmap as unmap
use Rattle.plan.specs.Protect as protect
use Rattle.plan.specs.declared.maps.Asked.{Asked}
use Rattle.plan.specs.Map.{Placed}
use Rattle.effect.specs.Whole.{Whole}
use Rattle.effect.specs.UnmapDone.{UnmapDone}
use Rattle.effect.proofs.MapDone.{decided_done}
use Rattle.effect.proofs.UnmapDone.{unmapped}
use Rattle.effect.proofs.ProtectDone.{protected}
use Rattle.effect.proofs.Wholes.{book_opens}
use Rattle.tablepath.specs.Answers.{map_writes, unmap_writes, protect_writes, told_writes, told_did, due_did}
use Rattle.tablepath.specs.Calls.{Call, Within, call_writes, Saw, Act, act_writes}
use Rattle.tablepath.specs.Calls as calls
use Rattle.tablepath.specs.Nights.{Unmaps}
use Rattle.tablepath.proofs.SaysAny.{unmap_goes}
use Rattle.tablepath.proofs.Marking.{planned_writes, planned_others, saw_back, others_all, saw_alike}
use Rattle.tablepath.proofs.Serving.{IsBuilt}
use Rattle.tablepath.proofs.Serves.{release_spare}
use Rattle.tablepath.proofs.Running.{act_served, seen_whole, saw_act, saw_built}

-- no walk comes to a table below the last level
comes_some : {σ : Setting} {m : ℕ → ℕ} {va n p : ℕ} → Comes σ m va n p → n ≢ 0
comes_some (begin e f u) z = omega arith
comes_some {m = m} {va} {n} {p} (onto t g c e) z = last_no_table _ p g (subst (λ k. entry_at m k t (index_of k va) ≡ Table p g) z e)

-- A TABLE THAT STAYS A TABLE STAYS ON ITS WAY, between two moments at which no table has another place.
module _ {σ : Setting} {x y : ℕ → ℕ} {rx ry : ℕ → Role} (bx : Built σ x rx) (by' : Built σ y ry)
    (agree : (p : ℕ) → left (rx p) ≢ 0 → left (ry p) ≢ 0 → ry p ≡ rx p) where
  pub table_stays : {va n t : ℕ} → Comes σ x va n t → left (ry t) ≢ 0 → Comes σ y va n t
  table_stays (begin e f u) live = begin e f u
  table_stays {va} {n} {t} (onto s g c e) live =
      let was = (onto_role bx c e).0 in
      let same = agree t (λ z. comes_some (onto s g c e) (sym (comes_left bx (onto s g c e)) ∙ z)) live in
      let up = by'.up t n s (index_of n va) (same ∙ was) in
      onto s everything (table_stays c (λ z. omega (arith, up.0))) up.2

-- a table that is none in other tables of the same root lies below the root
cut_low : {σ : Setting} {x y : ℕ → ℕ} {role : ℕ → Role} {va n p : ℕ} → Built σ y role → Comes σ x va n p → left (role p) ≡ 0 → n < 4
cut_low {role = role} b (begin e f u) z = absurd (omega (arith, ap left (ap role f ∙ b.starts), z))
cut_low b (onto t g c e) z = omega (arith, comes_top c)

module _ (h : ℕ → Bool) (sp : Space) where
  -- the call unmapped an address that shares the prefix of va, as far as a walk uses it that has n steps left
  abbrev pub Beneath : Call → (ℕ → ℕ) → ℕ → ℕ → Type 0
  Beneath c s n va = (vb : ℕ) × Unmaps h sp c s vb × SamePrefix n va vb

  -- what the walks of the moment x come to, they come to in y
  abbrev pub WaysTo : Call → (s y x : ℕ → ℕ) → Type 0
  WaysTo c s y x = (va n t : ℕ) → Comes (setting_of h sp) x va n t → Comes (setting_of h sp) y va n t ⊎ Beneath c s n va

  ways_none : (c : Call) (m : ℕ → ℕ) → All m (events_of []) (WaysTo c m (after m (events_of [])))
  unfolding events_of All after
  ways_none c m va n t k = inl k

  module _ (m : ℕ → ℕ) (role : ℕ → Role) (w : Whole h sp m role) where
    -- an operation after which each table is what it was, or was set aside on the way of an address that it unmapped
    changed_ways : (c : Call) (va l : ℕ) {o : Found} (role' : ℕ → Role) (ws : List Write) → Changed (setting_of h sp) m role va l o ws (word.after m ws) role'
        → ((p : ℕ) → left (role p) ≢ 0 → (role' p ≡ role p) ⊎ ((left (role' p) ≡ 0) × Unmaps h sp c m va × Comes (setting_of h sp) m va (left (role p)) p))
        → All m (events_of ws) (WaysTo c m (after m (events_of ws)))
    changed_ways c va l role' ws k fate =
        all_map (events_of ws) m (Moment (setting_of h sp) role role') (WaysTo c m (after m (events_of ws)))
        (λ x t. subst (λ y. WaysTo c m y x) (sym (events_after m ws)) (kept x t)) k.moments
      where
        kept : (x : ℕ → ℕ) → Moment (setting_of h sp) role role' x → WaysTo c m (word.after m ws) x
        kept x t vb n p come = go (t.between p)
          where
            live : left (t.roles p) ≢ 0
            live e = comes_some come (sym (comes_left t.built come) ∙ e)

            -- at the end a table is what it was at the moment
            to_end : (q : ℕ) → left (t.roles q) ≢ 0 → left (role' q) ≢ 0 → role' q ≡ t.roles q
            to_end q a b = elim (t.between q) [
              | inr e ↦ sym e
              | inl e ↦ elim (fate q (λ z. a (ap left e ∙ z))) [ inl f ↦ f ∙ sym e | inr f ↦ absurd (b f.0) ]
            ]

            -- and so at the beginning
            to_begin : (q : ℕ) → left (t.roles q) ≢ 0 → left (role q) ≢ 0 → role q ≡ t.roles q
            to_begin q a b = elim (t.between q) [
              | inl e ↦ sym e
              | inr e ↦ elim (fate q b) [ inl f ↦ sym f ∙ sym e | inr f ↦ absurd (a (ap left e ∙ f.0)) ]
            ]

            stays : left (role' p) ≢ 0 → Comes (setting_of h sp) (word.after m ws) vb n p
            stays a = table_stays t.built k.turns.built to_end come a

            go : (t.roles p ≡ role p) ⊎ (t.roles p ≡ role' p) → Comes (setting_of h sp) (word.after m ws) vb n p ⊎ Beneath c m n vb
            go (inr e) = inl (stays (λ z. live (ap left e ∙ z)))
            go (inl e) = elim (fate p (λ z. live (ap left e ∙ z))) [
              | inl f ↦ inl (stays (λ z. live (ap left e ∙ sym (ap left f) ∙ z)))
              | inr f ↦ inr (
                va,
                f.1,
                record {
                  above = (one_way w.sound.built (table_stays t.built w.sound.built to_begin come (λ z. live (ap left e ∙ z))) f.2).1 (cut_low k.turns.built come f.0);
                  alike = comes_address come ∙ sym (comes_address f.2);
                },
              )
            ]

    map_ways : (q : Asked) (x : Placed) → map.decide_of h m sp q ≡ x → All m (events_of (map.did_of sp x)) (WaysTo (calls.map q) m (after m (events_of (map.did_of sp x))))
    unfolding map.did_of
    map_ways q (map.Refused r) e = ways_none (calls.map q) m
    map_ways q (map.Go p) e =
        let d = decided_done w q p e in
        changed_ways (calls.map q) q.base p.target d.role' (map.writes_of sp p) d.changed
        (λ t live. inl (d.taken.stays t (λ j u f. live (ap left (ap role (sym f) ∙ w.booked.lists.frees j (omega (arith, d.fewer)))))))

    unmap_ways : (va : ℕ) (x : Result Removal Reason) → unmap.decide_of h m sp va ≡ x
        → All m (events_of (unmap.did_of sp va x)) (WaysTo (calls.unmap va) m (after m (events_of (unmap.did_of sp va x))))
    unfolding unmap.did_of Unmaps
    unmap_ways va (Err y) e = ways_none (calls.unmap va) m
    unmap_ways va (Ok r) e =
        let d = unmapped w va r e in
        let g = unmap_goes h m sp va r e in
        let hit : Unmaps h sp (calls.unmap va) m va = (g.0, g.1, omega arith, omega (arith, g.2, d.size_is, size_pos r.page.way.level)) in
        changed_ways (calls.unmap va) va r.page.way.level d.role' (unmap.writes_of sp va r) d.changed (λ p live. go d hit p (elim (d.fate p) [ inl f ↦ inl f | inr f ↦ inr (ap left f.is) ]) (d.on_way p))
      where
        go : (d : UnmapDone h sp m role va r) → Unmaps h sp (calls.unmap va) m va → (p : ℕ) → (d.role' p ≡ role p) ⊎ (left (d.role' p) ≡ 0)
            → (d.role' p ≡ role p) ⊎ Comes (setting_of h sp) m va (left (role p)) p
            → (d.role' p ≡ role p) ⊎ ((left (d.role' p) ≡ 0) × Unmaps h sp (calls.unmap va) m va × Comes (setting_of h sp) m va (left (role p)) p)
        go d hit p (inl f) way = inl f
        go d hit p (inr f) (inl g) = inl g
        go d hit p (inr f) (inr g) = inr (f, hit, g)

    protect_ways : (va : ℕ) (g : Rights) (x : Result Change Reason) → protect.decide_of h m sp va g ≡ x
        → All m (events_of (protect.did_of x)) (WaysTo (calls.protect va g) m (after m (events_of (protect.did_of x))))
    unfolding protect.did_of
    protect_ways va g (Err y) e = ways_none (calls.protect va g) m
    protect_ways va g (Ok c) e =
        let d = protected w va g c e in
        changed_ways (calls.protect va g) va d.level role (protect.writes_of c) d.changed (λ p live. inl refl)

    -- told writes the book alone
    due_ways : (t : ℕ) (x : Result ℕ NotDue) → All m (events_of (due_did sp (book_of m sp) x)) (WaysTo (calls.told t) m (after m (events_of (due_did sp (book_of m sp) x))))
    unfolding due_did
    due_ways t (Err notdue.Unknown) = ways_none (calls.told t) m
    due_ways t (Err notdue.Spent) = ways_none (calls.told t) m
    due_ways t (Ok k) =
        all_map es m (λ x. Built (setting_of h sp) x role) (WaysTo (calls.told t) m (after m es))
        (λ x b va n p c. inl (table_stays b end (λ q a z. refl) c (λ z. comes_some c (sym (comes_left b c) ∙ z)))) moments
      where
        es : List (Event ℕ)
        es = events_of (release_writes sp (book_of m sp) k)

        moments : All m es (λ x. Built (setting_of h sp) x role)
        moments = (spare_untouched (release_writes sp (book_of m sp) k) w.sound.built (release_spare h sp 0 m role w (omega arith) k)).moments

        end : Built (setting_of h sp) (after m es) role
        end = all_last es m (λ x. Built (setting_of h sp) x role) moments

    told_ways : (t : ℕ) → All m (events_of (told_writes h m sp t)) (WaysTo (calls.told t) m (after m (events_of (told_writes h m sp t))))
    unfolding told_writes told_did
    told_ways t = rw (book_opens w) (due_ways t (due_of (book_of m sp) t))

    plan_ways : (c : Call) → All m (events_of (call_writes h m sp c)) (WaysTo c m (after m (events_of (call_writes h m sp c))))
    unfolding call_writes map_writes unmap_writes protect_writes
    plan_ways (calls.map q) = map_ways q (map.decide_of h m sp q) refl
    plan_ways (calls.unmap va) = unmap_ways va (unmap.decide_of h m sp va) refl
    plan_ways (calls.protect va g) = protect_ways va g (protect.decide_of h m sp va g) refl
    plan_ways (calls.told t) = told_ways t

  -- walks come to the same tables, but for marks
  pub saw_comes : (x y : ℕ → ℕ) → Saw sp x y → IsBuilt h sp x → {va n t : ℕ} → Comes (setting_of h sp) x va n t → Comes (setting_of h sp) y va n t
  saw_comes x y k b c = alike_comes b.1 y (saw_alike h sp k b.1) c

  -- A CALL IN A RUN, planned of what it saw.
  module _ (n : ℕ) (m : ℕ → ℕ) (role : ℕ → Role) (w : Whole h sp m role) (u : n ≤ ticket_of (book_of m sp)) (a : Act) (saw : Saw sp m a.saw) (within : Within n a.call) where
    abbrev es : List (Event ℕ)
    es = act_writes h sp a

    pub act_ways : All m es (WaysTo a.call a.saw (after m es))
    act_ways =
        others_all sp es a.saw m (λ x. IsBuilt h sp x × WaysTo a.call a.saw (after a.saw es) x) (WaysTo a.call a.saw (after m es)) blind
        (planned_others sp (call_writes h a.saw sp a.call) m) (saw_back sp saw)
        (subst (λ l. All a.saw l (λ x. IsBuilt h sp x × WaysTo a.call a.saw (after a.saw es) x)) (sym (planned_writes (call_writes h a.saw sp a.call)))
        (all_both es a.saw _ _ (act_served h sp n m role w u a saw within).built (plan_ways a.saw role (seen_whole h sp n m role w u a saw within) a.call)))
      where
        blind : (x y : ℕ → ℕ) → Saw sp x y → IsBuilt h sp x × WaysTo a.call a.saw (after a.saw es) x → WaysTo a.call a.saw (after m es) y
        blind x y k (b, f) va j t c = elim (f va j t (saw_comes y x (saw_back sp k) (saw_built h sp x y k b) c)) [
          | inl d ↦ inl (saw_comes (after a.saw es) (after m es) (saw_act h sp n m role w u a saw within)
              (all_last es a.saw (IsBuilt h sp) (act_served h sp n m role w u a saw within).built) d)
          | inr d ↦ inr d
        ]
