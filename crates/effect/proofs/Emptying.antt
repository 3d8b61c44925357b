-- Which tables become empty: what the looking through pages tells, in the order of the tests.
use Prim.Native.Nat.{ℕ, zero, suc, ◌+◌, ◌%◌, ◌<◌, ◌≤◌}
use mathlib.Core.Bool.{Bool, true, false, cond, ◌||◌, false≢true}
use mathlib.Core.Logic.{◌⊎◌, inl, inr, ◌≢◌}
use mathlib.Core.Path.{◌≡◌, refl, sym, ap, ◌∙◌, subst}
use native.Mathlib.Decide.{ℕ_discrete}
use native.Mathlib.Omega.{arith}
use borrow.Author.Tests.{leb-true, leb-false, eqb-true, eqb-false, ne_eqb}
use lib.Dec.{eqb, leb}
use Rattle.word.specs.Memory.{at}
use Rattle.word.specs.Scan.{odd, other_of, besides_of}
use Rattle.walk.specs.Walk.{index_of}
use Rattle.plan.specs.declared.descent.Way.{Way}
use Rattle.plan.specs.Unmap.{emptied_of}

-- The tables of a way, from the last one up, and their levels
abbrev pub table_at : Way → ℕ → ℕ
table_at w zero = w.a
table_at w (suc zero) = w.b
table_at w (suc (suc zero)) = w.c
table_at w (suc (suc (suc j))) = w.d

abbrev pub level_at : Way → ℕ → ℕ
level_at w zero = w.level
level_at w (suc j) = suc (level_at w j)

pub level_at_lem : (w : Way) (j : ℕ) → level_at w j ≡ w.level + j
level_at_lem w zero = omega arith
level_at_lem w (suc j) = omega (arith, level_at_lem w j)

-- A page in the window, all but entry i --------------------------------------------------------------------------------------------

module _ (h : ℕ → Bool) (m : ℕ → ℕ) (p i : ℕ) (held : h p ≡ true) where
  -- another entry that is present is not 0, and one that is not has bit 0 clear
  other_yes : (k : ℕ) → other_of h m p i k ≡ true → (i ≢ k) × (m (at p k) ≢ 0)
  unfolding other_of odd
  other_yes k e = go (eqb k i) refl (rw held at e)
    where
      go : (b : Bool) → eqb k i ≡ b → cond b false (eqb (m (at p k) % 2) 1) ≡ true → (i ≢ k) × (m (at p k) ≢ 0)
      go true x y = absurd (false≢true y)
      go false x y =
          let one = eqb-true (m (at p k) % 2) 1 y in
          (λ z. eqb-false k i x (sym z), λ z. omega (arith, one, ap (λ v. v % 2) z))

  other_no : (k : ℕ) → i ≢ k → other_of h m p i k ≡ false → m (at p k) % 2 ≡ 0
  unfolding other_of odd
  other_no k d e = rest (rw (held, ne_eqb k i (λ z. d (sym z))) at e)
    where
      rest : eqb (m (at p k) % 2) 1 ≡ false → m (at p k) % 2 ≡ 0
      rest y = let n = eqb-false (m (at p k) % 2) 1 y in omega arith

  or_no : (a b : Bool) → (a || b) ≡ false → (a ≡ false) × (b ≡ false)
  or_no true b e = absurd (false≢true (sym e))
  or_no false b e = (refl, e)

  -- NOTHING ELSE IS PRESENT
  pub keeps_no : (n : ℕ) → besides_of h m p i n ≡ false → (k : ℕ) → k < n → i ≢ k → m (at p k) % 2 ≡ 0
  unfolding besides_of
  keeps_no zero e k u d = absurd (omega arith)
  keeps_no (suc n) e k u d =
      let y = or_no (other_of h m p i n) (besides_of h m p i n) e in
      go (ℕ_discrete k n) y.0 (λ v. keeps_no n y.1 k v d)
    where
      go : Dec (k ≡ n) → other_of h m p i n ≡ false → (k < n → m (at p k) % 2 ≡ 0) → m (at p k) % 2 ≡ 0
      go (yes x) y ih = other_no k d (ap (other_of h m p i) x ∙ y)
      go (no x) y ih = ih (omega arith)

  -- SOMETHING ELSE IS THERE
  pub keeps_yes : (n : ℕ) → besides_of h m p i n ≡ true → (k : ℕ) × (k < n) × (i ≢ k) × (m (at p k) ≢ 0)
  unfolding besides_of
  keeps_yes zero e = absurd (false≢true e)
  keeps_yes (suc n) e = go (other_of h m p i n) refl e (λ y. keeps_yes n y)
    where
      go : (b : Bool) → other_of h m p i n ≡ b → (b || besides_of h m p i n) ≡ true
          → (besides_of h m p i n ≡ true → (k : ℕ) × (k < n) × (i ≢ k) × (m (at p k) ≢ 0)) → (k : ℕ) × (k < suc n) × (i ≢ k) × (m (at p k) ≢ 0)
      go true x y ih = let o = other_yes n x in (n, omega arith, o.0, o.1)
      go false x y ih = let o = ih y in (o.0, omega (arith, o.1), o.2, o.3)

-- How many ----------------------------------------------------------------------------------------------------------------------------

-- the first n tables of the way lie below the root and keep nothing
abbrev pub Empty : (ℕ → Bool) → (ℕ → ℕ) → ℕ → Way → ℕ → Type 0
Empty h m va w n = (j : ℕ) → j < n → (level_at w j < 3) × (besides_of h m (table_at w j) (index_of (level_at w j) va) 512 ≡ false)

-- just n become empty: the next is the root, or keeps something
pub record Emptied (h : ℕ → Bool) (m : ℕ → ℕ) (va : ℕ) (w : Way) (n : ℕ) : Type 0 where
  pub three : n ≤ 3
  pub empty : Empty h m va w n
  pub stays : (3 ≤ level_at w n) ⊎ (besides_of h m (table_at w n) (index_of (level_at w n) va) 512 ≡ true)

module _ (h : ℕ → Bool) (m : ℕ → ℕ) (va : ℕ) (w : Way) where
  -- one table more
  empty_more : (n : ℕ) → Empty h m va w n → level_at w n < 3 → besides_of h m (table_at w n) (index_of (level_at w n) va) 512 ≡ false → Empty h m va w (suc n)
  empty_more n f u e j v = go (ℕ_discrete j n)
    where
      go : Dec (j ≡ n) → (level_at w j < 3) × (besides_of h m (table_at w j) (index_of (level_at w j) va) 512 ≡ false)
      go (yes x) = subst (λ y. (level_at w y < 3) × (besides_of h m (table_at w y) (index_of (level_at w y) va) 512 ≡ false)) (sym x) (u, e)
      go (no x) = f j (omega arith)

  -- the tests of a table: whether it is the root (b), and whether it keeps something (c)
  tested : (n rest : ℕ) (b c : Bool) → n ≤ 3 → Empty h m va w n → (b ≡ true → 3 ≤ level_at w n) → (b ≡ false → level_at w n < 3)
      → (level_at w n < 3 → besides_of h m (table_at w n) (index_of (level_at w n) va) 512 ≡ c) → (Empty h m va w (suc n) → Emptied h m va w rest)
      → Emptied h m va w (cond b n (cond c n rest))
  tested n rest true c u f x y k next = record { three = u; empty = f; stays = inl (x refl) }
  tested n rest false true u f x y k next = record { three = u; empty = f; stays = inr (k (y refl)) }
  tested n rest false false u f x y k next = next (empty_more n f (y refl) (k (y refl)))

  -- WHAT IS COUNTED
  pub emptied : Emptied h m va w (emptied_of h m va w)
  unfolding emptied_of
  emptied =
      tested 0 _ (leb 3 w.level) (besides_of h m w.a (index_of w.level va) 512) (omega arith) (λ j u. absurd (omega arith))
      (λ x. leb-true 3 w.level x) (λ x. leb-false 3 w.level x) (λ u. refl)
      (λ f1. tested 1 _ (leb 2 w.level) (besides_of h m w.b (index_of (w.level + 1) va) 512) (omega arith) f1
      (λ x. omega (arith, leb-true 2 w.level x)) (λ x. omega (arith, leb-false 2 w.level x)) (λ u. ap (λ y. besides_of h m w.b (index_of y va) 512) (omega arith))
      (λ f2. tested 2 _ (leb 1 w.level) (besides_of h m w.c (index_of 2 va) 512) (omega arith) f2
      (λ x. omega (arith, leb-true 1 w.level x)) (λ x. omega (arith, leb-false 1 w.level x)) (λ u. ap (λ y. besides_of h m w.c (index_of y va) 512) (omega arith))
      (λ f3. record { three = omega arith; empty = f3; stays = inl (omega arith) })))
