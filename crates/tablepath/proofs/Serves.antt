-- Every call serves: map, unmap, protect and told, whatever they answer.
use Prim.Native.Nat.{ℕ, ◌/◌, ◌≤◌}
use Rattle.pool.specs.declared.NotDue.TheVariants as notdue
use mathlib.Core.Bool.{Bool}
use mathlib.Core.List.{List, []}
use mathlib.Core.Logic.{◌⊎◌, inl, inr, ◌≢◌}
use mathlib.Core.Path.{◌≡◌, refl, sym, ap, ◌∙◌, subst}
use native.Mathlib.Decide.{dec_lt}
use native.Mathlib.Omega.{arith}
use Rattle.std.proofs.Common.{Result, Ok, Err}
use Rattle.plan.specs.declared.Reason.{Reason}
use Rattle.pool.specs.declared.NotDue.{NotDue}
use Rattle.plan.specs.declared.unmaps.Removal.{Removal}
use Rattle.plan.specs.declared.protects.Change.{Change}
use Rattle.word.specs.Writes.{Write, after, Every}
use Rattle.word.proofs.Writes.{every_map}
use Rattle.entry.specs.declared.Rights.{Rights}
use Rattle.world.specs.Events.{All}
use Rattle.world.proofs.Events.{all_map}
use Rattle.world.specs.Rules.{Obeys}
use Rattle.world.proofs.Rules.{obeys_nil}
use Rattle.world.specs.Frozen.{SomeReads}
use Rattle.world.proofs.Frozen.{obeys_from, among_none}
use Rattle.tables.specs.Roles.{Role, foreign, free, aside, book, root, table, left, Built}
use Rattle.tables.specs.Discipline.{Aside, walker_of}
use Rattle.tables.proofs.Discipline.{unread}
use Rattle.tables.proofs.Clearing.{Spare, book_spare, spare_untouched}
use Rattle.tables.specs.Clearing.{events_of}
use Rattle.tables.proofs.Walks.{laws_of}
use Rattle.pool.specs.Book.{book_of, ticket_of, due_of}
use Rattle.pool.specs.Booked.{setting_of, released, Numbered}
use Rattle.pool.specs.Changes.{release_writes}
use Rattle.pool.specs.declared.Space.{Space}
use Rattle.pool.specs.declared.Book.{Book}
use Rattle.pool.proofs.Proper.{release_proper}
use Rattle.pool.proofs.Releasing.{has_number, one_number}
use Rattle.plan.specs.Map as map
use Rattle.plan.specs.Unmap as unmap
use Rattle.plan.specs.Protect as protect
use Rattle.plan.specs.declared.maps.Asked.{Asked}
use Rattle.plan.specs.Map.{Placed}
use Rattle.effect.specs.Whole.{Whole}
use Rattle.effect.specs.ToldDone.{ToldDone}
use Rattle.effect.proofs.MapDone.{decided_done}
use Rattle.effect.proofs.UnmapDone.{unmapped}
use Rattle.effect.proofs.ProtectDone.{protected}
use Rattle.effect.proofs.ToldDone as effect
use Rattle.effect.proofs.Wholes.{book_opens}
use Rattle.effect.proofs.Numbers.{release_ticket}
use Rattle.tablepath.specs.Answers.{map_writes, unmap_writes, protect_writes, told_writes, told_did, due_did}
use Rattle.tablepath.specs.Calls.{Call, Within, call_writes, From}
use Rattle.tablepath.specs.Calls as calls
use Rattle.tablepath.proofs.Serving.{IsBuilt, Served, changed_serves, numbered_aside}

is_aside : (r : Role) → (r ≡ aside) ⊎ (r ≢ aside)
is_aside aside = inl refl
is_aside foreign = inr (λ e. let z : ◌≡◌ {A = ℕ} 0 1 = cc in omega arith)
is_aside free = inr (λ e. let z : ◌≡◌ {A = ℕ} 0 1 = cc in omega arith)
is_aside book = inr (λ e. let z : ◌≡◌ {A = ℕ} 0 1 = cc in omega arith)
is_aside root = inr (λ e. let z : ◌≡◌ {A = ℕ} 0 1 = cc in omega arith)
is_aside (table l q i) = inr (λ e. let z : ◌≡◌ {A = ℕ} 0 1 = cc in omega arith)

module _ (h : ℕ → Bool) (sp : Space) (n : ℕ) (m : ℕ → ℕ) (role : ℕ → Role) (w : Whole h sp m role) (u : n ≤ ticket_of (book_of m sp)) where
  -- a call that is refused writes nothing
  none_served : Served h sp n m []
  unfolding after events_of All
  none_served = record { role = role; whole = w; obeys = obeys_nil (walker_of (setting_of h sp)) (laws_of (setting_of h sp)) (From sp n m) m; ticket = u; built = (role, w.sound.built); earlier = λ p k e v. e }

  map_served : (q : Asked) (x : Placed) → map.decide_of h m sp q ≡ x → Served h sp n m (map.did_of sp x)
  unfolding map.did_of
  map_served q (map.Refused r) e = none_served
  map_served q (map.Go p) e = let d = decided_done w q p e in changed_serves w u d.changed d.whole d.numbers

  unmap_served : (va : ℕ) (x : Result Removal Reason) → unmap.decide_of h m sp va ≡ x → Served h sp n m (unmap.did_of sp va x)
  unfolding unmap.did_of
  unmap_served va (Err y) e = none_served
  unmap_served va (Ok r) e =
      let d = unmapped w va r e in
      changed_serves w u d.changed d.whole
      (record { numbers = d.numbers; tickets = ap (λ (b : Book). b.tickets) d.counts; more = omega (arith, ap (λ (b : Book). b.aside) d.counts) })

  protect_served : (va : ℕ) (g : Rights) (x : Result Change Reason) → protect.decide_of h m sp va g ≡ x → Served h sp n m (protect.did_of x)
  unfolding protect.did_of
  protect_served va g (Err y) e = none_served
  protect_served va g (Ok c) e =
      let d = protected w va g c e in
      changed_serves w u d.changed d.whole
      (record { numbers = d.numbers; tickets = ap (λ (b : Book). b.tickets) d.book; more = omega (arith, ap (λ (b : Book). b.aside) d.book) })

  -- a report -----------------------------------------------------------------------------------------------------------------------

  -- what it writes is the book's: no walk comes there, and no page set aside is read meanwhile
  pub release_spare : (k : ℕ) → Every (Spare role) (release_writes sp (book_of m sp) k)
  release_spare k = every_map (λ q v. book_spare role q (w.booked.in_book q v.0 v.1)) _ (release_proper sp (book_of m sp) k)

  told_obeys : (t k : ℕ) → t ≤ n → ToldDone h sp m role t k
      → Obeys (walker_of (setting_of h sp)) (From sp n m) m (events_of (release_writes sp (book_of m sp) k)) (From sp n (after m (release_writes sp (book_of m sp) k)))
  told_obeys t k v d =
      obeys_from (walker_of (setting_of h sp)) (laws_of (setting_of h sp)) (events_of ws) (From sp n m) (From sp n (after m ws)) (Aside role) (Aside role) m d.obeys
      (λ x f. numbered_aside w.booked (x / 512) f.0 f.2)
      (λ x f. (f.0, f.1, (d.stays (x / 512) f.0 f.2 (omega (arith, f.1))).1))
      (λ x e r. absurd (among_none (events_of ws) m (SomeReads (walker_of (setting_of h sp)) x)
      (all_map (events_of ws) m (λ y. Built (setting_of h sp) y role) (λ y. ¬ SomeReads (walker_of (setting_of h sp)) x y)
      (λ y b q. unread b x (ap left e) q.0 q.1) (spare_untouched ws w.sound.built (release_spare k)).moments) r))
    where
      ws : List Write
      ws = release_writes sp (book_of m sp) k

  -- a page that is set aside still had its number before
  told_earlier : (t k : ℕ) → ToldDone h sp m role t k → (p j : ℕ) → Numbered (after m (release_writes sp (book_of m sp) k)) sp p j → Numbered m sp p j
  told_earlier t k d p j f = go (is_aside (role p))
    where
      now_aside : released m sp k role p ≡ aside
      now_aside = numbered_aside d.whole.booked p j f

      go : (role p ≡ aside) ⊎ (role p ≢ aside) → Numbered m sp p j
      go (inr e) = absurd (e (sym (d.others p e) ∙ now_aside))
      go (inl e) = let g = has_number w.booked p e in elim (dec_lt g.0 t) [
        | yes v ↦ let z : ◌≡◌ {A = ℕ} 0 1 = cc (now_aside, d.frees p g.0 g.1 v) in absurd (omega arith)
        | no v ↦
            let same : g.0 ≡ j = one_number d.whole.booked p g.0 j (d.stays p g.0 g.1 (omega arith)).1 f in
            subst (Numbered m sp p) same g.1
      ]

  due_served : (t : ℕ) (x : Result ℕ NotDue) → t ≤ n → due_of (book_of m sp) t ≡ x → Served h sp n m (due_did sp (book_of m sp) x)
  unfolding due_did
  due_served t (Err notdue.Unknown) v e = none_served
  due_served t (Err notdue.Spent) v e = none_served
  due_served t (Ok k) v e =
      let d = effect.told w t k e in
      record {
        role = released m sp k role;
        whole = d.whole;
        obeys = told_obeys t k v d;
        ticket = rw (release_ticket w.booked k d.enough) u;
        built = all_map _ m _ (IsBuilt h sp) (λ x b. (role, b)) (spare_untouched (release_writes sp (book_of m sp) k) w.sound.built (release_spare k)).moments;
        earlier = λ p j f y. told_earlier t k d p j f;
      }

  told_served : (t : ℕ) → t ≤ n → Served h sp n m (told_writes h m sp t)
  unfolding told_writes told_did
  told_served t v = rw (book_opens w) (due_served t (due_of (book_of m sp) t) v refl)

-- EVERY CALL SERVES
pub serves : (h : ℕ → Bool) (sp : Space) (n : ℕ) (m : ℕ → ℕ) (role : ℕ → Role) (c : Call) → Within n c → Whole h sp m role → n ≤ ticket_of (book_of m sp)
    → Served h sp n m (call_writes h m sp c)
unfolding call_writes map_writes unmap_writes protect_writes
serves h sp n m role (calls.map q) v w u = map_served h sp n m role w u q (map.decide_of h m sp q) refl
serves h sp n m role (calls.unmap va) v w u = unmap_served h sp n m role w u va (unmap.decide_of h m sp va) refl
serves h sp n m role (calls.protect va g) v w u = protect_served h sp n m role w u va g (protect.decide_of h m sp va g) refl
serves h sp n m role (calls.told t) v w u = told_served h sp n m role w u t v
