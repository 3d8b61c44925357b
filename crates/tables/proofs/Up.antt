-- UNMAP, one step at a time: the page's entry is cleared first, the one change; then each table that became empty is unlinked and set
-- aside, bottom up, as far as the root. All that decides can be read before the first write.
use Prim.Native.Nat.{ℕ, zero, suc, ◌%◌, ◌<◌}
use mathlib.Core.List.{List, [], ◌∷◌, ◌++◌}
use mathlib.Core.Logic.{◌⊎◌, inl, inr, ◌≢◌}
use mathlib.Core.Path.{◌≡◌, refl, sym, ap, ◌∙◌, subst}
use native.Mathlib.Decide.{ℕ_discrete}
use native.Mathlib.Omega.{arith}
use Rattle.word.specs.Memory.{set, at}
use Rattle.word.specs.Writes.{Write, write, after, Every}
use Rattle.word.proofs.Set.{set_same, set_other}
use Rattle.entry.specs.Entry.{everything}
use Rattle.entry.specs.declared.Rights.{Rights}
use Rattle.entry.specs.declared.Entry.TheVariants.{Page, Table}
use Rattle.entry.proofs.Fields.{says_absent}
use Rattle.walk.specs.Walk.{index_of}
use Rattle.walk.specs.declared.Found.TheVariants as found
use Rattle.walk.proofs.Digits.{index_lt}
use Rattle.world.specs.Events.{All}
use Rattle.world.specs.OneChange.{OneChange}
use Rattle.tables.specs.Roles.{Setting, Role, table, unlinked, left, entry_at, Built, Occupied, FilledBut, Sound, Bare}
use Rattle.tables.specs.Way.{Comes}
use Rattle.tables.proofs.Way.{comes_left, comes_parent, onto_role}
use Rattle.tables.specs.OneWrite.{LiveEntry}
use Rattle.tables.proofs.OneWrite.{comes_spot, page_plain, other_page, comes_kept}
use Rattle.tables.specs.Edits.{KeepsMeaning, Turns}
use Rattle.tables.proofs.Edits.{clear_page, clear_filled, unlink, unlink_filled}
use Rattle.tables.specs.Discipline.{walker_of, ObeysOf}
use Rattle.tables.proofs.Discipline.{plain_obeys, unlink_obeys}
use Rattle.tables.specs.Clearing.{events_of}
use Rattle.tables.proofs.Clearing.{Spare, LeavesTables, spare_untouched, untouched_holds}
use Rattle.tables.specs.Operation.{Moment, Changed}
use Rattle.tables.proofs.Operation.{moments_one, moments_spare, moments_then, after_then, after_write, change_then, obeys_then, quiet_one, obeys_one, change_write}

-- THE WAY UP. From m₀ on xs was written; the range of va at level l has lost its page, by one write; the walk of va comes to page t with
-- suc k levels left; t, and it alone, may be empty. Above t all roles and words are as they were, and so is t but for one entry, which is 0.
pub record Up (σ : Setting) (m₀ : ℕ → ℕ) (role₀ : ℕ → Role) (va l : ℕ) (xs : List Write) (m : ℕ → ℕ) (role : ℕ → Role) (k t : ℕ) : Type 0 where
  pub first : Built σ m₀ role₀
  pub now : m ≡ after m₀ xs
  pub turns : Turns σ m₀ m role l va found.Nothing
  pub comes : Comes σ m va (suc k) t
  pub filled : FilledBut m role t
  pub change : OneChange (walker_of σ) m₀ (events_of xs)
  pub moments : All m₀ (events_of xs) (Moment σ role₀ role)
  pub obeys : ObeysOf σ role₀ m₀ (events_of xs) role
  pub roles : (p : ℕ) → k < left (role₀ p) → role p ≡ role₀ p
  pub above : (p j : ℕ) → suc k < left (role₀ p) → j < 512 → m (at p j) ≡ m₀ (at p j)
  pub here : (j : ℕ) → j < 512 → index_of k va ≢ j → m (at t j) ≡ m₀ (at t j)
  pub gone : m (at t (index_of k va)) ≡ 0

-- a table that stays: one that is not empty, or the root
abbrev pub Stays : (ℕ → ℕ) → ℕ → ℕ → Type 0
Stays m k t = Occupied m k t ⊎ (k ≡ 3)

-- the page's entry is cleared
pub up_start : {σ : Setting} {m : ℕ → ℕ} {role : ℕ → Role} {va l q : ℕ} (f : ℕ) (g : Rights) → Sound σ m role → Comes σ m va (suc l) q
    → entry_at m l q (index_of l va) ≡ Page f g
    → Up σ m role va l (write q (index_of l va) 0 ∷ []) (set m (at q (index_of l va)) 0) role l q
unfolding after
up_start {σ} {m} {role} {va} {l} {q} f g k c was =
    let s = comes_spot k.built c in
    let t = clear_page k.built c f g was in
    record {
      first = k.built;
      now = refl;
      turns = t;
      comes = comes_kept k.built s 0 (omega arith) c;
      filled = clear_filled k.built s k.filled;
      change = change_write σ m q (index_of l va) 0;
      moments = moments_one q (index_of l va) 0 k.built t.built;
      obeys = obeys_one σ m q (index_of l va) 0 role role (plain_obeys k.built s 0 (page_plain f g was));
      roles = λ p u. refl;
      above = λ p j u w. other_page k.built s 0 p j (λ e. omega (arith, s.live, ap (λ x. left (role x)) e)) w;
      here = λ j u d. set_other m (at q (index_of l va)) 0 (at q j) (λ e. d (omega arith));
      gone = set_same m (at q (index_of l va)) 0;
    }

positive : (n : ℕ) → 0 < n → (k : ℕ) × (n ≡ suc k)
positive zero u = absurd (omega arith)
positive (suc k) u = (k, refl)

module _ {σ : Setting} {m₀ : ℕ → ℕ} {role₀ : ℕ → Role} {va l : ℕ} {xs : List Write} {m : ℕ → ℕ} {role : ℕ → Role} where
  -- The empty table t, to which the walk came by its entry of page r, is unlinked and set aside: go on to r.
  pub up_step : {k t : ℕ} (r : ℕ) (g : Rights) → Up σ m₀ role₀ va l xs m role k t → Comes σ m₀ va (suc (suc k)) r
      → entry_at m₀ (suc k) r (index_of (suc k) va) ≡ Table t g → Bare m (suc k) t
      → Up σ m₀ role₀ va l (xs ++ (write r (index_of (suc k) va) 0 ∷ [])) (set m (at r (index_of (suc k) va)) 0) (set role t unlinked) (suc k) r
  up_step {k} {t} r g d c e bare = record {
    first = d.first;
    now = after_write σ m₀ m xs d.now r i 0;
    turns = record {
      built = edit.built;
      in_range = λ vb near. edit.same vb ∙ d.turns.in_range vb near;
      elsewhere = λ vb far. edit.same vb ∙ d.turns.elsewhere vb far;
    };
    comes = comes_kept b s 0 (omega arith) (comes_parent b named d.comes).0;
    filled = unlink_filled b s t d.filled;
    change = change_then σ m₀ m xs d.now (write r i 0 ∷ []) d.change (quiet_one σ m r i 0 edit.same);
    moments = moments_then σ m₀ m xs d.now (write r i 0 ∷ []) role₀ role (set role t unlinked) (λ p. once p (ℕ_discrete t p)) d.moments
        (moments_one r i 0 b edit.built);
    obeys = obeys_then σ m₀ m xs d.now (write r i 0 ∷ []) role₀ role (set role t unlinked) d.obeys
        (obeys_one σ m r i 0 role (set role t unlinked) (unlink_obeys b s 0 t names bare));
    roles = λ p u. set_other role t unlinked p (λ x. omega (arith, ap left was, ap (λ y. left (role₀ y)) x)) ∙ d.roles p (omega arith);
    above = λ p j u w. other_page b s 0 p j (λ x. omega (arith, u, there, ap (λ y. left (role₀ y)) x)) w ∙ d.above p j (omega arith) w;
    here = λ j u x. set_other m (at r i) 0 (at r j) (λ y. x (omega arith)) ∙ d.above r j (omega (arith, there)) u;
    gone = set_same m (at r i) 0;
  }
    where
      i : ℕ
      i = index_of (suc k) va

      b : Built σ m role
      b = d.turns.built

      was : role₀ t ≡ table (suc k) r i
      was = (onto_role d.first c e).0

      there : left (role₀ r) ≡ suc (suc k)
      there = comes_left d.first c

      named : role t ≡ table (suc k) r i
      named = d.roles t (omega (arith, ap left was)) ∙ was

      s : LiveEntry role r (suc k) i
      s = let o = b.up t (suc k) r i named in record { live = o.0; fits = o.1 }

      names : entry_at m (suc k) r i ≡ Table t everything
      names = (b.up t (suc k) r i named).2

      once : (p : ℕ) → Dec (t ≡ p) → (set role t unlinked p ≡ role p) ⊎ (role p ≡ role₀ p)
      once p (yes x) = inr (ap role (sym x) ∙ named ∙ sym was ∙ ap role₀ x)
      once p (no x) = inl (set_other role t unlinked p x)

      edit : KeepsMeaning σ m (set m (at r i) 0) (set role t unlinked)
      edit = unlink b s t names bare

  -- Writes into spare pages, such as the book's.
  pub up_spare : {k t : ℕ} (ys : List Write) → Up σ m₀ role₀ va l xs m role k t → Every (Spare role) ys → Up σ m₀ role₀ va l (xs ++ ys) (after m ys) role k t
  up_spare {k} {t} ys d u = record {
    first = d.first;
    now = after_then σ m₀ m xs d.now ys;
    turns = record {
      built = o.built;
      in_range = λ vb near. o.same vb ∙ d.turns.in_range vb near;
      elsewhere = λ vb far. o.same vb ∙ d.turns.elsewhere vb far;
    };
    comes = o.comes va (suc k) t d.comes;
    filled = λ p j q i h x. untouched_holds o p j (ap left h) (d.filled p j q i h x);
    change = change_then σ m₀ m xs d.now ys d.change o.quiet;
    moments = moments_then σ m₀ m xs d.now ys role₀ role role (λ p. inl refl) d.moments (moments_spare o);
    obeys = obeys_then σ m₀ m xs d.now ys role₀ role role d.obeys o.obeys;
    roles = d.roles;
    above = λ p j w v.
        let live = positive (left (role₀ p)) (omega arith) in
        o.words p live.0 j (ap left (d.roles p (omega arith)) ∙ live.1) v ∙ d.above p j w v;
    here = λ j v x. o.words t k j (comes_left d.turns.built d.comes) v ∙ d.here j v x;
    gone = o.words t k (index_of k va) (comes_left d.turns.built d.comes) (index_lt k va) ∙ d.gone;
  }
    where
      o : LeavesTables σ m role ys
      o = spare_untouched ys d.turns.built u

  -- WHETHER t IS EMPTY NOW is told by its other words at first: it is if none is present,
  pub up_bare : {k t : ℕ} → Up σ m₀ role₀ va l xs m role k t → ((j : ℕ) → j < 512 → index_of k va ≢ j → m₀ (at t j) % 2 ≡ 0) → Bare m (suc k) t
  up_bare {k} {t} d z n j e u = says_absent n (m (at t j)) (go (ℕ_discrete (index_of k va) j))
    where
      go : Dec (index_of k va ≡ j) → m (at t j) % 2 ≡ 0
      go (yes x) = subst (λ y. m (at t y) % 2 ≡ 0) x (rw d.gone)
      go (no x) = ap (λ w. w % 2) (d.here j u x) ∙ z j u x

  -- and is not if one is not 0.
  pub up_holds : {k t : ℕ} → Up σ m₀ role₀ va l xs m role k t → (j : ℕ) → j < 512 → index_of k va ≢ j → m₀ (at t j) ≢ 0 → Occupied m k t
  up_holds {k} {t} d j u e n =
      (j, u, λ h. n (sym (d.here j u e) ∙ d.turns.built.zeros t k j (comes_left d.turns.built d.comes) u h))

  -- UNMAP, DONE: at a table that stays.
  pub unmap_done : {k t : ℕ} → Up σ m₀ role₀ va l xs m role k t → Stays m k t → Changed σ m₀ role₀ va l found.Nothing xs m role
  unmap_done {k} {t} d e = record { now = d.now; turns = d.turns; filled = λ p j q i h. go p j q i h (ℕ_discrete p t) e; change = d.change; moments = d.moments; obeys = d.obeys }
    where
      level : (p j q i : ℕ) → role p ≡ table (suc j) q i → p ≡ t → k ≡ j
      level p j q i h x = omega (arith, comes_left d.turns.built d.comes, ap (λ y. left (role y)) x, ap left h)

      go : (p j q i : ℕ) → role p ≡ table (suc j) q i → Dec (p ≡ t) → Stays m k t → Occupied m j p
      go p j q i h (no x) e = d.filled p j q i h x
      go p j q i h (yes x) (inl f) = subst (λ y. Occupied m j y) (sym x) (subst (λ y. Occupied m y t) (level p j q i h x) f)
      go p j q i h (yes x) (inr f) = absurd (omega (arith, level p j q i h x, d.turns.built.low p (suc j) q i h))
