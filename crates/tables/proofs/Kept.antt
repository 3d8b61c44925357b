-- What one write makes of the invariant: a page or nothing over either, a table over nothing, nothing over an empty table.
use Prim.Native.Nat.{ℕ, suc, ◌≤◌, ◌<◌}
use mathlib.Core.Logic.{◌≢◌}
use mathlib.Core.Path.{◌≡◌, refl, sym, ap, ◌∙◌, subst}
use native.Mathlib.Decide.{ℕ_discrete}
use native.Mathlib.Omega.{arith}
use Rattle.word.specs.Memory.{set, at}
use Rattle.word.proofs.Set.{set_at, set_same, set_other}
use Rattle.entry.specs.Entry.{size_of, table_of, says, everything}
use Rattle.entry.specs.Pat.{PatClear}
use Rattle.entry.specs.declared.Rights.{Rights}
use Rattle.entry.specs.declared.Entry.TheVariants.{Nothing, Page, Table}
use Rattle.entry.proofs.Fields.{says_absent}
use Rattle.tables.specs.Roles.{Setting, Role, foreign, free, aside, book, root, table, unlinked, left, Live, entry_at, Home, Apart, Built, Zero, Bare, Plain}
use Rattle.entry.proofs.Pat.{zero_pat}
use Rattle.tables.specs.OneWrite.{LiveEntry}
use Rattle.tables.proofs.OneWrite.{Seen, this, other, seen, other_page, zeros_kept, apart_kept, pat_kept, nothing_plain}

-- a page of zeros says nothing, at any level
pub zero_bare : (m : ℕ → ℕ) (n p : ℕ) → Zero m p → Bare m n p
zero_bare m n p z l j e u = rw (z j u) (says_absent l 0 (omega arith))

-- One page takes another role --------------------------------------------------------------------------------------------------

module _ {σ : Setting} {m : ℕ → ℕ} {role : ℕ → Role} (b : Built σ m role) (p : ℕ) (now : Role) where
  home_turn : role p ≢ foreign → (x : ℕ) → set role p now x ≢ foreign → Home σ x
  home_turn n x k = go (ℕ_discrete p x)
    where
      go : Dec (p ≡ x) → Home σ x
      go (yes d) = b.home x (λ e. n (ap role d ∙ e))
      go (no d) = b.home x (λ e. k (set_other role p now x d ∙ e))

  whole_turn : now ≢ foreign → (x : ℕ) → σ.lo ≤ x → x < σ.hi → set role p now x ≢ foreign
  whole_turn n x u v e = go (ℕ_discrete p x)
    where
      go : Dec (p ≡ x) → ⊥
      go (yes d) = n (sym (set_at role p now x d) ∙ e)
      go (no d) = b.whole x u v (sym (set_other role p now x d) ∙ e)

  starts_turn : role p ≢ root → set role p now (table_of σ.cr3) ≡ root
  starts_turn n = set_other role p now _ (λ e. n (ap role e ∙ b.starts)) ∙ b.starts

  alone_turn : now ≢ root → (x : ℕ) → set role p now x ≡ root → x ≡ table_of σ.cr3
  alone_turn n x e = go (ℕ_discrete p x)
    where
      go : Dec (p ≡ x) → x ≡ table_of σ.cr3
      go (yes d) = absurd (n (sym (set_at role p now x d) ∙ e))
      go (no d) = b.alone x (sym (set_other role p now x d) ∙ e)

-- a page that is walked has at most four levels left
left_top : {σ : Setting} {m : ℕ → ℕ} {role : ℕ → Role} → Built σ m role → (q : ℕ) → left (role q) ≤ 4
left_top {role = role} b q = go (role q) refl
  where
    go : (r : Role) → role q ≡ r → left r ≤ 4
    go foreign e = omega arith
    go free e = omega arith
    go aside e = omega arith
    go book e = omega arith
    go root e = omega arith
    go (table n t i) e = omega (arith, b.low q n t i e)

-- what is written is 0 if it says nothing; if it says a page, its frame lies apart, and bit 12 of a large one is 0
pub record Decent (σ : Setting) (l v : ℕ) : Type 0 where
  pub zeros : says l v ≡ Nothing → v ≡ 0
  pub apart : (f : ℕ) (g : Rights) → says l v ≡ Page f g → Apart σ f (size_of l)
  pub pat : PatClear l v

module _ {σ : Setting} {m : ℕ → ℕ} {role : ℕ → Role} (b : Built σ m role) {q l i : ℕ} (s : LiveEntry role q l i) (v : ℕ) (ok : Decent σ l v) where
  -- A PAGE OR NOTHING, over either.
  pub plain_built : Plain (entry_at m l q i) → Plain (says l v) → Built σ (set m (at q i) v) role
  plain_built was is = record {
    home = b.home;
    whole = b.whole;
    starts = b.starts;
    alone = b.alone;
    down = λ r k j t g h u e. down_go r k j t g h u e (seen b s v r k j h u);
    up = λ p k r j e. let o = b.up p k r j e in up_go p k r j o (seen b s v r k j o.0 o.1);
    low = b.low;
    zeros = zeros_kept b s v ok.zeros;
    apart = apart_kept b s v ok.apart;
    pat = pat_kept b s v ok.pat;
  }
    where
      down_go : (r k j t : ℕ) (g : Rights) → Live role r k → j < 512 → entry_at (set m (at q i) v) k r j ≡ Table t g → Seen m q l i v r k j
          → (role t ≡ table k r j) × (g ≡ everything)
      down_go r k j t g h u e (this _ _ _ _ _ new) = absurd (is t g (sym new ∙ e))
      down_go r k j t g h u e (other _ same) = b.down r k j t g h u (ap (says k) (sym same) ∙ e)

      up_go : (p k r j : ℕ) → Live role r k × (j < 512) × (entry_at m k r j ≡ Table p everything) → Seen m q l i v r k j
          → Live role r k × (j < 512) × (entry_at (set m (at q i) v) k r j ≡ Table p everything)
      up_go p k r j h (this _ _ _ old _ _) = absurd (was p everything (sym old ∙ h.2))
      up_go p k r j h (other _ same) = (h.0, h.1, ap (says k) same ∙ h.2)

  -- A TABLE OVER NOTHING: a free page whose words are all 0.
  pub link_built : (p : ℕ) → entry_at m l q i ≡ Nothing → says l v ≡ Table p everything → role p ≡ free → Zero m p
      → Built σ (set m (at q i) v) (set role p (table l q i))
  link_built p was is new empty = record {
    home = home_turn b p now (λ e. let z : ◌≡◌ {A = ℕ} 0 1 = cc in omega arith);
    whole = whole_turn b p now (λ e. let z : ◌≡◌ {A = ℕ} 0 1 = cc in omega arith);
    starts = starts_turn b p now (λ e. let z : ◌≡◌ {A = ℕ} 0 1 = cc in omega arith);
    alone = alone_turn b p now (λ e. let z : ◌≡◌ {A = ℕ} 0 1 = cc in omega arith);
    down = λ r k j t g h u e. down_go r k j t g h u e (ℕ_discrete p r);
    up = λ x k r j e. up_go x k r j e (ℕ_discrete p x);
    low = λ x k r j e. low_go x k r j e (ℕ_discrete p x);
    zeros = λ r k j h u e. zeros_go r k j h u e (ℕ_discrete p r);
    apart = λ r k j f g h u e. apart_go r k j f g h u e (ℕ_discrete p r);
    pat = λ r k j h u. pat_go r k j h u (ℕ_discrete p r);
  }
    where
      now : Role
      now = table l q i

      -- a page that was walked is not the new one
      walked : (r k : ℕ) → Live role r k → p ≢ r
      walked r k h e = omega (arith, h, ap (λ x. left (role x)) e, ap left new)

      -- a page that was walked is walked as before
      before : {r k : ℕ} → p ≢ r → Live (set role p now) r k → Live role r k
      before d h = ap left (sym (set_other role p now _ d)) ∙ h

      -- the new table's words are 0
      fresh : (r j : ℕ) → p ≡ r → j < 512 → set m (at q i) v (at r j) ≡ 0
      fresh r j d u = ap (λ x. set m (at q i) v (at x j)) (sym d) ∙ other_page b s v p j (λ e. walked q l s.live (sym e)) u ∙ empty j u

      fresh_says : (r k j : ℕ) → p ≡ r → j < 512 → entry_at (set m (at q i) v) k r j ≡ Nothing
      fresh_says r k j d u = rw (fresh r j d u) (says_absent k 0 (omega arith))

      low_go : (x k r j : ℕ) → set role p now x ≡ table k r j → Dec (p ≡ x) → k < 4
      low_go x k r j e (yes d) = omega (arith, ap left (sym (set_at role p now x d) ∙ e), s.live, left_top b q)
      low_go x k r j e (no d) = b.low x k r j (sym (set_other role p now x d) ∙ e)

      zeros_go : (r k j : ℕ) → Live (set role p now) r k → j < 512 → entry_at (set m (at q i) v) k r j ≡ Nothing → Dec (p ≡ r) → set m (at q i) v (at r j) ≡ 0
      zeros_go r k j h u e (yes d) = fresh r j d u
      zeros_go r k j h u e (no d) = zeros_kept b s v ok.zeros r k j (before d h) u e

      apart_go : (r k j f : ℕ) (g : Rights) → Live (set role p now) r k → j < 512 → entry_at (set m (at q i) v) k r j ≡ Page f g → Dec (p ≡ r) → Apart σ f (size_of k)
      apart_go r k j f g h u e (yes d) = let z : ◌≡◌ {A = ℕ} 0 1 = cc (fresh_says r k j d u) in absurd (omega arith)
      apart_go r k j f g h u e (no d) = apart_kept b s v ok.apart r k j f g (before d h) u e

      pat_go : (r k j : ℕ) → Live (set role p now) r k → j < 512 → Dec (p ≡ r) → PatClear k (set m (at q i) v (at r j))
      pat_go r k j h u (yes d) = subst (PatClear k) (sym (fresh r j d u)) (zero_pat k)
      pat_go r k j h u (no d) = pat_kept b s v ok.pat r k j (before d h) u

      down_old : (r k j t : ℕ) (g : Rights) → Live role r k → j < 512 → entry_at (set m (at q i) v) k r j ≡ Table t g → Seen m q l i v r k j
          → (set role p now t ≡ table k r j) × (g ≡ everything)
      down_old r k j t g h u e (this page level index _ _ w) =
          let f : Table t g ≡ Table p everything = sym e ∙ w ∙ is in
          let to : p ≡ t = cc in
          (set_at role p now t to ∙ (cc), cc)
      down_old r k j t g h u e (other _ same) =
          let o = b.down r k j t g h u (ap (says k) (sym same) ∙ e) in
          (set_other role p now t (λ d. let z : ◌≡◌ {A = ℕ} 0 1 = cc in omega arith) ∙ o.0, o.1)

      down_go : (r k j t : ℕ) (g : Rights) → Live (set role p now) r k → j < 512 → entry_at (set m (at q i) v) k r j ≡ Table t g → Dec (p ≡ r)
          → (set role p now t ≡ table k r j) × (g ≡ everything)
      down_go r k j t g h u e (yes d) = absurd (nothing_plain (fresh_says r k j d u) t g e)
      down_go r k j t g h u e (no d) = down_old r k j t g (before d h) u e (seen b s v r k j (before d h) u)

      up_old : (x k r j : ℕ) → Live role r k × (j < 512) × (entry_at m k r j ≡ Table x everything) → Seen m q l i v r k j
          → Live (set role p now) r k × (j < 512) × (entry_at (set m (at q i) v) k r j ≡ Table x everything)
      up_old x k r j h (this _ _ _ old _ _) = absurd (nothing_plain was x everything (sym old ∙ h.2))
      up_old x k r j h (other _ same) = (ap left (set_other role p now r (walked r k h.0)) ∙ h.0, h.1, ap (says k) same ∙ h.2)

      up_go : (x k r j : ℕ) → set role p now x ≡ table k r j → Dec (p ≡ x)
          → Live (set role p now) r k × (j < 512) × (entry_at (set m (at q i) v) k r j ≡ Table x everything)
      up_go x k r j e (yes d) =
          let f : table l q i ≡ table k r j = sym (set_at role p now x d) ∙ e in
          let fk : l ≡ k = cc in
          let fr : q ≡ r = cc in
          let fj : i ≡ j = cc in
          rw (← fk, ← fr, ← fj, ← d)
          (ap left (set_other role p now q (walked q l s.live)) ∙ s.live, s.fits, ap (says l) (set_same m (at q i) v) ∙ is)
      up_go x k r j e (no d) =
          let h = b.up x k r j (sym (set_other role p now x d) ∙ e) in
          up_old x k r j h (seen b s v r k j h.0 h.1)

  -- NOTHING OVER AN EMPTY TABLE, which is set aside.
  pub unlink_built : (p : ℕ) → entry_at m l q i ≡ Table p everything → says l v ≡ Nothing → Bare m l p → Built σ (set m (at q i) v) (set role p unlinked)
  unlink_built p was is bare = record {
    home = home_turn b p unlinked (λ e. let z : ◌≡◌ {A = ℕ} 0 1 = cc old in omega arith);
    whole = whole_turn b p unlinked (λ e. let z : ◌≡◌ {A = ℕ} 0 1 = cc in omega arith);
    starts = starts_turn b p unlinked (λ e. let z : ◌≡◌ {A = ℕ} 0 1 = cc old in omega arith);
    alone = alone_turn b p unlinked (λ e. let z : ◌≡◌ {A = ℕ} 0 1 = cc in omega arith);
    down = λ r k j t g h u e. let h' = before r k h in down_go r k j t g h' u e (seen b s v r k j h' u);
    up = λ x k r j e. let d = not_it x k r j e in let h = b.up x k r j (sym (set_other role p unlinked x d) ∙ e) in up_go x k r j d h (seen b s v r k j h.0 h.1);
    low = λ x k r j e. b.low x k r j (sym (set_other role p unlinked x (not_it x k r j e)) ∙ e);
    zeros = λ r k j h u e. zeros_kept b s v ok.zeros r k j (before r k h) u e;
    apart = λ r k j f g h u e. apart_kept b s v ok.apart r k j f g (before r k h) u e;
    pat = λ r k j h u. pat_kept b s v ok.pat r k j (before r k h) u;
  }
    where
      old : role p ≡ table l q i
      old = (b.down q l i p everything s.live s.fits was).0

      -- a page that is walked was walked, and is not the one set aside
      before : (r k : ℕ) → Live (set role p unlinked) r k → Live role r k
      before r k h = go (ℕ_discrete p r)
        where
          go : Dec (p ≡ r) → Live role r k
          go (yes d) = absurd (omega (arith, h, ap left (set_at role p unlinked r d)))
          go (no d) = ap left (sym (set_other role p unlinked r d)) ∙ h

      -- what is a table is not the one set aside
      not_it : (x k r j : ℕ) → set role p unlinked x ≡ table k r j → p ≢ x
      not_it x k r j e d = let f : unlinked ≡ table k r j = sym (set_at role p unlinked x d) ∙ e in let z : ◌≡◌ {A = ℕ} 0 1 = cc in omega arith

      down_go : (r k j t : ℕ) (g : Rights) → Live role r k → j < 512 → entry_at (set m (at q i) v) k r j ≡ Table t g → Seen m q l i v r k j
          → (set role p unlinked t ≡ table k r j) × (g ≡ everything)
      down_go r k j t g h u e (this _ _ _ _ _ w) = absurd (nothing_plain (w ∙ is) t g e)
      down_go r k j t g h u e (other far same) =
          let o = b.down r k j t g h u (ap (says k) (sym same) ∙ e) in
          (set_other role p unlinked t (λ d. far (let f : table l q i ≡ table k r j = sym old ∙ ap role d ∙ o.0 in cc)) ∙ o.0, o.1)

      up_go : (x k r j : ℕ) → p ≢ x → Live role r k × (j < 512) × (entry_at m k r j ≡ Table x everything) → Seen m q l i v r k j
          → Live (set role p unlinked) r k × (j < 512) × (entry_at (set m (at q i) v) k r j ≡ Table x everything)
      up_go x k r j d h (this _ _ _ was' _ _) = let f : Table x everything ≡ Table p everything = sym h.2 ∙ was' ∙ was in absurd (d (cc))
      up_go x k r j d h (other _ same) = (ap left (set_other role p unlinked r far) ∙ h.0, h.1, ap (says k) same ∙ h.2)
        where
          far : p ≢ r
          far e =
              let level : l ≡ suc k = sym (ap left old) ∙ ap (λ y. left (role y)) e ∙ h.0 in
              nothing_plain (bare k j level h.1) x everything (ap (λ y. entry_at m k y j) e ∙ h.2)
