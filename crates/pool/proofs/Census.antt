-- Counting pages: what a list names, each once, is as many as it is long; and every page of a pool is counted once.
use Rattle.std.proofs.Common.{◌≡◌, ℕ, zero, suc, ◌+◌, ◌<◌, ◌≤◌, Bool, true, false, cond, not, ◌&&◌, eqb, ◌≢◌, sym, refl, ap, ◌∙◌, arith, eq-eqb, ne_eqb}
use native.Mathlib.Decide.{ℕ_discrete}
use borrow.Author.Tests.{eqb-false, not-true}
use Rattle.word.proofs.Tests.{and_both}
use Rattle.tables.specs.Roles.{Role, foreign, free, aside, book, root, table}
use Rattle.pool.specs.Booked.{how_many, is_free, is_aside, is_book, is_root, is_table}

-- f 0, .. f (c - 1) are the pages of which t holds, of n from lo on, each once
pub record ListsAll (t : ℕ → Bool) (lo n : ℕ) (f : ℕ → ℕ) (c : ℕ) : Type 0 where
  pub within : (j : ℕ) → j < c → (lo ≤ f j) × (f j < lo + n) × (t (f j) ≡ true)
  pub all : (p : ℕ) → lo ≤ p → p < lo + n → t p ≡ true → (j : ℕ) × (j < c) × (f j ≡ p)
  pub once : (i j : ℕ) → i < c → j < c → f i ≡ f j → i ≡ j

-- t, but for page q
but : (ℕ → Bool) → ℕ → ℕ → Bool
but t q p = t p && not (eqb p q)

but_other : (t : ℕ → Bool) (q p : ℕ) → p ≢ q → but t q p ≡ t p
unfolding but
but_other t q p d = go (t p) (ne_eqb p q d)
  where
    go : (b : Bool) → eqb p q ≡ false → (b && not (eqb p q)) ≡ b
    go true e = rw e
    go false e = refl

but_same : (t : ℕ → Bool) (q : ℕ) → but t q q ≡ false
unfolding but
but_same t q = go (t q)
  where
    go : (b : Bool) → (b && not (eqb q q)) ≡ false
    go true = rw (eq-eqb q q refl)
    go false = refl

many_same : (t t' : ℕ → Bool) (lo n : ℕ) → ((p : ℕ) → lo ≤ p → p < lo + n → t p ≡ t' p) → how_many t lo n ≡ how_many t' lo n
unfolding how_many
many_same t t' lo zero h = refl
many_same t t' lo (suc n) h =
    rw (h (lo + n) (omega arith) (omega arith), many_same t t' lo n (λ p u v. h p u (omega arith)))

many_none : (t : ℕ → Bool) (lo n : ℕ) → ((p : ℕ) → lo ≤ p → p < lo + n → t p ≡ false) → how_many t lo n ≡ 0
unfolding how_many
many_none t lo zero h = refl
many_none t lo (suc n) h = rw (h (lo + n) (omega arith) (omega arith), many_none t lo n (λ p u v. h p u (omega arith)))

-- one page less
many_but : (t : ℕ → Bool) (lo n q : ℕ) → lo ≤ q → q < lo + n → t q ≡ true → how_many t lo n ≡ 1 + how_many (but t q) lo n
unfolding how_many
many_but t lo zero q u v e = absurd (omega arith)
many_but t lo (suc n) q u v e = go (ℕ_discrete (lo + n) q) (λ w. many_but t lo n q u w e)
  where
    go : Dec (lo + n ≡ q) → (q < lo + n → how_many t lo n ≡ 1 + how_many (but t q) lo n) → cond (t (lo + n)) 1 0 + how_many t lo n ≡ 1 + (cond (but t q (lo + n)) 1 0 + how_many (but t q) lo n)
    go (yes d) ih =
        let a : t (lo + n) ≡ true = ap t d ∙ e in
        let b : but t q (lo + n) ≡ false = ap (but t q) d ∙ but_same t q in
        rw (a, b, many_same t (but t q) lo n (λ p x y. sym (but_other t q p (omega arith)))) (omega arith)
    go (no d) ih = rw (but_other t q (lo + n) d, ih (omega arith)) (omega arith)

pub names_count : (t : ℕ → Bool) (lo n : ℕ) (f : ℕ → ℕ) (c : ℕ) → ListsAll t lo n f c → how_many t lo n ≡ c
unfolding but
names_count t lo n f zero h = many_none t lo n (λ p u v. no_true p u v (t p) refl)
  where
    no_true : (p : ℕ) → lo ≤ p → p < lo + n → (b : Bool) → t p ≡ b → b ≡ false
    no_true p u v true e = absurd (omega (arith, (h.all p u v e).1))
    no_true p u v false e = refl
names_count t lo n f (suc c) h =
    let w = h.within c (omega arith) in
    many_but t lo n (f c) w.0 w.1 w.2 ∙ ap (λ x. 1 + x) (names_count (but t (f c)) lo n f c less) ∙ omega arith
  where
    less : ListsAll (but t (f c)) lo n f c
    less = record {
      within = λ j u. let w = h.within j (omega arith) in (w.0, w.1, but_other t (f c) (f j) (λ e. omega (arith, h.once j c (omega arith) (omega arith) e)) ∙ w.2);
      all = λ p u v e. rest p (and_both (t p) (not (eqb p (f c))) e) (h.all p u v (and_both (t p) (not (eqb p (f c))) e).0);
      once = λ i j u v e. h.once i j (omega arith) (omega arith) e;
    }
      where
        rest : (p : ℕ) → (t p ≡ true) × (not (eqb p (f c)) ≡ true) → (j : ℕ) × (j < suc c) × (f j ≡ p) → (j : ℕ) × (j < c) × (f j ≡ p)
        rest p e r = (r.0, before (ℕ_discrete r.0 c), r.2)
          where
            before : Dec (r.0 ≡ c) → r.0 < c
            before (yes d) = absurd (eqb-false p (f c) (not-true (eqb p (f c)) e.1) (sym r.2 ∙ ap f d))
            before (no d) = omega (arith, r.1)

-- there is one
pub many_some : (t : ℕ → Bool) (lo n q : ℕ) → lo ≤ q → q < lo + n → t q ≡ true → 1 ≤ how_many t lo n
many_some t lo n q u v e = omega (arith, many_but t lo n q u v e)

-- EACH PAGE IS EXACTLY ONE OF FIVE
pub census : (role : ℕ → Role) (lo n : ℕ) → ((p : ℕ) → lo ≤ p → p < lo + n → role p ≢ foreign)
    → how_many (λ p. is_free (role p)) lo n + how_many (λ p. is_aside (role p)) lo n + how_many (λ p. is_table (role p)) lo n + how_many (λ p. is_root (role p)) lo n + how_many (λ p. is_book (role p)) lo n ≡ n
unfolding how_many
census role lo zero h = refl
census role lo (suc n) h = go (role (lo + n)) refl (census role lo n (λ p u v. h p u (omega arith)))
  where
    F : ℕ
    F = how_many (λ p. is_free (role p)) lo n

    A : ℕ
    A = how_many (λ p. is_aside (role p)) lo n

    T : ℕ
    T = how_many (λ p. is_table (role p)) lo n

    R : ℕ
    R = how_many (λ p. is_root (role p)) lo n

    B : ℕ
    B = how_many (λ p. is_book (role p)) lo n

    go : (r : Role) → role (lo + n) ≡ r → F + A + T + R + B ≡ n
        → cond (is_free r) 1 0 + F + (cond (is_aside r) 1 0 + A) + (cond (is_table r) 1 0 + T) + (cond (is_root r) 1 0 + R) + (cond (is_book r) 1 0 + B) ≡ suc n
    go foreign e ih = absurd (h (lo + n) (omega arith) (omega arith) e)
    go free e ih = omega arith
    go aside e ih = omega arith
    go book e ih = omega arith
    go root e ih = omega arith
    go (table l q i) e ih = omega arith
