-- Laws of lists of pages by their roles: pages are taken from the front, set aside at the end, and the border between the two moves.
use Rattle.std.proofs.Common.{◌≡◌, ℕ, zero, suc, ◌+◌, ◌-◌, ◌<◌, ◌≤◌, ◌≢◌, ◌⊎◌, sym, refl, ap, ◌∙◌, inl, inr, arith}
use native.Mathlib.Decide.{ℕ_discrete, dec_lt}
use Rattle.word.specs.Memory.{set}
use Rattle.word.proofs.Set.{set_at, set_other}
use Rattle.tables.specs.Roles.{Role, free, aside, table, Unwalked}
use Rattle.tables.proofs.Unseen.{Shifted}
use Rattle.pool.specs.Booked.{Lists, Taken, thawed}

-- p is one of f 0, .. f (k - 1), or none of them
pub among : (f : ℕ → ℕ) (k p : ℕ) → ((j : ℕ) × (j < k) × (f j ≡ p)) ⊎ ((j : ℕ) → j < k → f j ≢ p)
among f zero p = inr (λ j u. absurd (omega arith))
among f (suc k) p = go (ℕ_discrete (f k) p) (among f k p)
  where
    go : Dec (f k ≡ p) → ((j : ℕ) × (j < k) × (f j ≡ p)) ⊎ ((j : ℕ) → j < k → f j ≢ p) → ((j : ℕ) × (j < suc k) × (f j ≡ p)) ⊎ ((j : ℕ) → j < suc k → f j ≢ p)
    go (yes e) r = inl (k, omega arith, e)
    go (no d) (inl r) = inl (r.0, omega (arith, r.1), r.2)
    go (no d) (inr r) = inr (λ j u. last j u (ℕ_discrete j k))
      where
        last : (j : ℕ) → j < suc k → Dec (j ≡ k) → f j ≢ p
        last j u (yes e) x = d (ap f (sym e) ∙ x)
        last j u (no n) x = r j (omega arith) x

-- the same list under another name
pub lists_same : {f f' : ℕ → ℕ} {n a : ℕ} {role : ℕ → Role} → ((j : ℕ) → j < n + a → f' j ≡ f j) → Lists f n a role → Lists f' n a role
lists_same {f} {f'} {n} {a} {role} e h = record {
  frees = λ k u. ap role (e k (omega arith)) ∙ h.frees k u;
  asides = λ k u. ap role (e (n + k) (omega arith)) ∙ h.asides k u;
  free_listed = λ p x. let r = h.free_listed p x in (r.0, r.1, e r.0 (omega (arith, r.1)) ∙ r.2);
  aside_listed = λ p x. let r = h.aside_listed p x in (r.0, r.1, e (n + r.0) (omega (arith, r.1)) ∙ r.2);
  once = λ j k u v x. h.once j k u v (sym (e j u) ∙ x ∙ e k v);
}

-- a page that is listed is no table
not_table : {r : Role} (l q i : ℕ) → r ≡ table l q i → (r ≢ free) × (r ≢ aside)
not_table l q i e = (λ x. let z : ◌≡◌ {A = ℕ} 0 1 = cc in omega arith, λ x. let z : ◌≡◌ {A = ℕ} 0 1 = cc in omega arith)

-- one page after the other is linked as a table
pub taken_none : (f : ℕ → ℕ) (role : ℕ → Role) → Taken f 0 role role
taken_none f role = record { tables = λ j u. absurd (omega arith); stays = λ p h. refl }

pub taken_more : {f : ℕ → ℕ} {role role' : ℕ → Role} (k l q i : ℕ) → Taken f k role role' → Taken f (k + 1) role (set role' (f k) (table l q i))
taken_more {f} {role} {role'} k l q i t = record {
  tables = λ j u. go j u (ℕ_discrete (f k) (f j)) (ℕ_discrete j k);
  stays = λ p h. set_other role' (f k) (table l q i) p (h k (omega arith)) ∙ t.stays p (λ j u. h j (omega arith));
}
  where
    go : (j : ℕ) → j < k + 1 → Dec (f k ≡ f j) → Dec (j ≡ k) → (l' : ℕ) × (q' : ℕ) × (i' : ℕ) × (set role' (f k) (table l q i) (f j) ≡ table l' q' i')
    go j u (yes e) d = (l, q, i, set_at role' (f k) (table l q i) (f j) e)
    go j u (no x) (yes e) = absurd (x (ap f (sym e)))
    go j u (no x) (no d) =
        let s = t.tables j (omega arith) in (s.0, s.1, s.2, set_other role' (f k) (table l q i) (f j) x ∙ s.3)

-- THE FIRST k ARE TAKEN
module _ {f : ℕ → ℕ} {n a : ℕ} {role role' : ℕ → Role} (h : Lists f n a role) (k : ℕ) (u : k ≤ n) (t : Taken f k role role') where
  later : (j : ℕ) → k ≤ j → j < n + a → role' (f j) ≡ role (f j)
  later j v w = t.stays (f j) (λ i x e. omega (arith, h.once i j (omega arith) w e))

  kept : (p : ℕ) → (role' p ≡ free) ⊎ (role' p ≡ aside) → ((j : ℕ) → j < k → f j ≢ p)
  kept p e j v x = go e
    where
      is : (l : ℕ) × (q : ℕ) × (i : ℕ) × (role' (f j) ≡ table l q i)
      is = t.tables j v

      go : (role' p ≡ free) ⊎ (role' p ≡ aside) → ⊥
      go (inl y) = (not_table is.0 is.1 is.2 is.3).0 (ap role' x ∙ y)
      go (inr y) = (not_table is.0 is.1 is.2 is.3).1 (ap role' x ∙ y)

  pub lists_taken : Lists (λ j. f (k + j)) (n - k) a role'
  lists_taken = record {
    frees = λ j v. later (k + j) (omega arith) (omega arith) ∙ h.frees (k + j) (omega arith);
    asides = λ j v. ap (λ x. role' (f x)) (shift j) ∙ later (n + j) (omega arith) (omega arith) ∙ h.asides j v;
    free_listed = λ p e. found_free p e (kept p (inl e));
    aside_listed = λ p e. found_aside p e (kept p (inr e));
    once = λ i j v w e. let o = h.once (k + i) (k + j) (omega arith) (omega arith) e in omega arith;
  }
    where
      shift : (j : ℕ) → k + (n - k + j) ≡ n + j
      shift j = omega arith

      found_free : (p : ℕ) → role' p ≡ free → ((j : ℕ) → j < k → f j ≢ p) → (j : ℕ) × (j < n - k) × (f (k + j) ≡ p)
      found_free p e x =
          let r = h.free_listed p (sym (t.stays p x) ∙ e) in
          let v : k ≤ r.0 = back p x r.0 r.2 (dec_lt r.0 k) in
          (r.0 - k, omega (arith, r.1), ap f (omega arith) ∙ r.2)
        where
          back : (p : ℕ) → ((j : ℕ) → j < k → f j ≢ p) → (j : ℕ) → f j ≡ p → Dec (j < k) → k ≤ j
          back p x j y (yes d) = absurd (x j d y)
          back p x j y (no d) = omega arith

      found_aside : (p : ℕ) → role' p ≡ aside → ((j : ℕ) → j < k → f j ≢ p) → (j : ℕ) × (j < a) × (f (k + (n - k + j)) ≡ p)
      found_aside p e x =
          let r = h.aside_listed p (sym (t.stays p x) ∙ e) in (r.0, r.1, ap f (shift r.0) ∙ r.2)

-- A TABLE IS SET ASIDE, behind all others
module _ {f f' : ℕ → ℕ} {n a p : ℕ} {role : ℕ → Role} (h : Lists f n a role) (no_free : role p ≢ free) (no_aside : role p ≢ aside)
    (same : (j : ℕ) → j < n + a → f' j ≡ f j) (last : f' (n + a) ≡ p) where
  -- none of the listed pages is p
  fresh : (j : ℕ) → j < n + a → f j ≢ p
  fresh j u e = go (dec_lt j n)
    where
      go : Dec (j < n) → ⊥
      go (yes d) = no_free (ap role (sym e) ∙ h.frees j d)
      go (no d) = no_aside (ap role (sym e) ∙ ap (λ x. role (f x)) (omega arith) ∙ h.asides (j - n) (omega arith))

  stay : (j : ℕ) → j < n + a → set role p aside (f' j) ≡ role (f j)
  stay j u = set_other role p aside (f' j) (λ e. fresh j u (sym (same j u) ∙ sym e)) ∙ ap role (same j u)

  pub lists_aside : Lists f' n (a + 1) (set role p aside)
  lists_aside = record {
    frees = λ j u. stay j (omega arith) ∙ h.frees j u;
    asides = λ j u. at_end j u (ℕ_discrete j a);
    free_listed = λ q e. free_go q e (ℕ_discrete p q);
    aside_listed = λ q e. aside_go q e (ℕ_discrete p q);
    once = λ i j u v e. once_go i j u v e (ℕ_discrete i (n + a)) (ℕ_discrete j (n + a));
  }
    where
      at_end : (j : ℕ) → j < a + 1 → Dec (j ≡ a) → set role p aside (f' (n + j)) ≡ aside
      at_end j u (yes e) = set_at role p aside (f' (n + j)) (sym (ap (λ x. f' (n + x)) e ∙ last))
      at_end j u (no d) = stay (n + j) (omega arith) ∙ h.asides j (omega arith)

      free_go : (q : ℕ) → set role p aside q ≡ free → Dec (p ≡ q) → (j : ℕ) × (j < n) × (f' j ≡ q)
      free_go q e (yes d) = let w = sym (set_at role p aside q d) ∙ e in let z : ◌≡◌ {A = ℕ} 0 1 = cc in absurd (omega arith)
      free_go q e (no d) =
          let r = h.free_listed q (sym (set_other role p aside q d) ∙ e) in (r.0, r.1, same r.0 (omega (arith, r.1)) ∙ r.2)

      aside_go : (q : ℕ) → set role p aside q ≡ aside → Dec (p ≡ q) → (j : ℕ) × (j < a + 1) × (f' (n + j) ≡ q)
      aside_go q e (yes d) = (a, omega arith, last ∙ d)
      aside_go q e (no d) =
          let r = h.aside_listed q (sym (set_other role p aside q d) ∙ e) in
          (r.0, omega (arith, r.1), same (n + r.0) (omega (arith, r.1)) ∙ r.2)

      once_go : (i j : ℕ) → i < n + (a + 1) → j < n + (a + 1) → f' i ≡ f' j → Dec (i ≡ n + a) → Dec (j ≡ n + a) → i ≡ j
      once_go i j u v e (yes x) (yes y) = x ∙ sym y
      once_go i j u v e (yes x) (no y) = absurd (fresh j (omega arith) (sym (same j (omega arith)) ∙ sym e ∙ ap f' x ∙ last))
      once_go i j u v e (no x) (yes y) = absurd (fresh i (omega arith) (sym (same i (omega arith)) ∙ e ∙ ap f' y ∙ last))
      once_go i j u v e (no x) (no y) = h.once i j (omega arith) (omega arith) (sym (same i (omega arith)) ∙ e ∙ same j (omega arith))

-- THE OLDEST k BECOME FREE
pub thawed_free : (f : ℕ → ℕ) (n k : ℕ) (role : ℕ → Role) (j : ℕ) → j < k → thawed f n k role (f (n + j)) ≡ free
unfolding thawed
thawed_free f n zero role j u = absurd (omega arith)
thawed_free f n (suc k) role j u = go (ℕ_discrete (f (n + k)) (f (n + j))) (ℕ_discrete j k) (thawed_free f n k role j)
  where
    go : Dec (f (n + k) ≡ f (n + j)) → Dec (j ≡ k) → (j < k → thawed f n k role (f (n + j)) ≡ free) → set (thawed f n k role) (f (n + k)) free (f (n + j)) ≡ free
    go (yes e) d ih = set_at (thawed f n k role) (f (n + k)) free (f (n + j)) e
    go (no x) (yes e) ih = absurd (x (ap (λ y. f (n + y)) (sym e)))
    go (no x) (no d) ih = set_other (thawed f n k role) (f (n + k)) free (f (n + j)) x ∙ ih (omega arith)

pub thawed_stays : (f : ℕ → ℕ) (n k : ℕ) (role : ℕ → Role) (p : ℕ) → ((j : ℕ) → j < k → f (n + j) ≢ p) → thawed f n k role p ≡ role p
unfolding thawed
thawed_stays f n zero role p h = refl
thawed_stays f n (suc k) role p h =
    set_other (thawed f n k role) (f (n + k)) free p (h k (omega arith)) ∙ thawed_stays f n k role p (λ j u. h j (omega arith))

module _ {f : ℕ → ℕ} {n a : ℕ} {role : ℕ → Role} (h : Lists f n a role) (k : ℕ) (u : k ≤ a) where
  turned : (p : ℕ) → ((j : ℕ) × (j < k) × (f (n + j) ≡ p)) ⊎ ((j : ℕ) → j < k → f (n + j) ≢ p)
  turned p = among (λ j. f (n + j)) k p

  -- a listed page that does not become free
  still : (i : ℕ) → i < n + a → ((j : ℕ) → j < k → i ≢ n + j) → thawed f n k role (f i) ≡ role (f i)
  still i v d = thawed_stays f n k role (f i) (λ j w e. d j w (sym (h.once (n + j) i (omega arith) v e)))

  -- only pages that no walk comes to change their role
  pub thawed_shifted : Shifted role (thawed f n k role)
  thawed_shifted p = go (turned p)
    where
      go : ((j : ℕ) × (j < k) × (f (n + j) ≡ p)) ⊎ ((j : ℕ) → j < k → f (n + j) ≢ p)
          → (thawed f n k role p ≡ role p) ⊎ (Unwalked (role p) × Unwalked (thawed f n k role p))
      go (inl r) =
          let was : role p ≡ aside = ap role (sym r.2) ∙ h.asides r.0 (omega (arith, r.1)) in
          let is : thawed f n k role p ≡ free = ap (thawed f n k role) (sym r.2) ∙ thawed_free f n k role r.0 r.1 in
          inr (rw was tt, rw is tt)
      go (inr r) = inl (thawed_stays f n k role p r)

  pub lists_thawed : Lists f (n + k) (a - k) (thawed f n k role)
  lists_thawed = record {
    frees = λ j v. free_at j v (dec_lt j n);
    asides = λ j v. still (n + k + j) (omega arith) (λ i w e. omega arith) ∙ ap (λ x. role (f x)) (omega arith) ∙ h.asides (k + j) (omega arith);
    free_listed = λ p e. free_go p e (turned p);
    aside_listed = λ p e. aside_go p e (turned p);
    once = λ i j v w e. h.once i j (omega arith) (omega arith) e;
  }
    where
      free_at : (j : ℕ) → j < n + k → Dec (j < n) → thawed f n k role (f j) ≡ free
      free_at j v (yes d) = still j (omega arith) (λ i w e. omega arith) ∙ h.frees j d
      free_at j v (no d) = ap (λ x. thawed f n k role (f x)) (omega arith) ∙ thawed_free f n k role (j - n) (omega arith)

      free_go : (p : ℕ) → thawed f n k role p ≡ free → ((j : ℕ) × (j < k) × (f (n + j) ≡ p)) ⊎ ((j : ℕ) → j < k → f (n + j) ≢ p)
          → (j : ℕ) × (j < n + k) × (f j ≡ p)
      free_go p e (inl r) = (n + r.0, omega (arith, r.1), r.2)
      free_go p e (inr r) = let s = h.free_listed p (sym (thawed_stays f n k role p r) ∙ e) in (s.0, omega (arith, s.1), s.2)

      aside_go : (p : ℕ) → thawed f n k role p ≡ aside → ((j : ℕ) × (j < k) × (f (n + j) ≡ p)) ⊎ ((j : ℕ) → j < k → f (n + j) ≢ p)
          → (j : ℕ) × (j < a - k) × (f (n + k + j) ≡ p)
      aside_go p e (inl r) =
          let w : thawed f n k role p ≡ free = ap (thawed f n k role) (sym r.2) ∙ thawed_free f n k role r.0 r.1 in
          let z : ◌≡◌ {A = ℕ} 0 1 = cc in
          absurd (omega arith)
      aside_go p e (inr r) =
          let s = h.aside_listed p (sym (thawed_stays f n k role p r) ∙ e) in
          let v : k ≤ s.0 = back s.0 s.2 (dec_lt s.0 k) in
          (s.0 - k, omega (arith, s.1), ap f (omega arith) ∙ s.2)
        where
          back : (j : ℕ) → f (n + j) ≡ p → Dec (j < k) → k ≤ j
          back j y (yes d) = absurd (r j d y)
          back j y (no d) = omega arith
