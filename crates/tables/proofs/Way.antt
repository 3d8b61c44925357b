-- ONE WAY: what the walk of an address comes to, and that a table is come to one way only. So the addresses that pass an entry are one
-- aligned range, given as numbers.
use Prim.Native.Nat.{ℕ, suc, ◌+◌, ◌≤◌, ◌<◌}
use mathlib.Core.Bool.{true}
use mathlib.Core.Logic.{◌↔◌}
use mathlib.Core.Path.{◌≡◌, sym, ap, ◌∙◌, subst}
use native.Mathlib.Omega.{arith}
use Rattle.entry.specs.Entry.{size_of, everything}
use Rattle.entry.specs.declared.Rights.{Rights}
use Rattle.entry.specs.declared.Entry.TheVariants.{Table}
use Rattle.walk.specs.Walk.{canonical, index_of, base_of}
use Rattle.walk.proofs.Addresses.{near_canonical}
use Rattle.walk.proofs.Digits.{index_lt, same_index}
use Rattle.tables.specs.Roles.{Setting, Role, table, left, entry_at, Built}
use Rattle.tables.specs.Near.{Near}
use Rattle.tables.proofs.Near.{near_up, near_range, near_down}
use Rattle.tables.specs.Way.{Comes, begin, onto}

pub comes_address : {σ : Setting} {m : ℕ → ℕ} {va n p : ℕ} → Comes σ m va n p → canonical va ≡ true
comes_address (begin e f u) = u
comes_address (onto t g c e) = comes_address c

pub comes_top : {σ : Setting} {m : ℕ → ℕ} {va n p : ℕ} → Comes σ m va n p → n ≤ 4
comes_top (begin e f u) = omega arith
comes_top (onto t g c e) = omega (arith, comes_top c)

-- the addresses near one that comes to an entry come to its table too
pub comes_entry : {σ : Setting} {m : ℕ → ℕ} {va l q : ℕ} (vb : ℕ) → Near l va vb → Comes σ m va (suc l) q → Comes σ m vb (suc l) q
comes_entry {va = va} {l} vb h (begin e f u) = begin e f (sym (near_canonical l va vb (omega arith) h) ∙ u)
comes_entry {m = m} {va} {l} {q} vb h (onto t g c e) =
    let up = near_up l va vb h in
    onto t g (comes_entry vb up c) (subst (λ i. entry_at m (suc l) t i ≡ Table q g) (same_index (suc l) va vb up) e)

-- and those near one that comes to a table below the root
pub comes_near : {σ : Setting} {m : ℕ → ℕ} {va n p : ℕ} (vb : ℕ) → n < 4 → Near n va vb → Comes σ m va n p → Comes σ m vb n p
comes_near vb k h (begin e f u) = absurd (omega arith)
comes_near {m = m} {va} {n} {p} vb k h (onto t g c e) =
    onto t g (comes_entry vb h c) (subst (λ i. entry_at m n t i ≡ Table p g) (same_index n va vb h) e)

-- a walk comes to one table at each level
pub comes_same : {σ : Setting} {m : ℕ → ℕ} {va n p r : ℕ} → Comes σ m va n p → Comes σ m va n r → p ≡ r
comes_same (begin e f u) (begin e' f' u') = f ∙ sym f'
comes_same (begin e f u) (onto t g c d) = absurd (omega (arith, comes_top c))
comes_same (onto t g c d) (begin e f u) = absurd (omega (arith, comes_top c))
comes_same {m = m} {va} {n} {p} {r} (onto t g c d) (onto t' g' c' d') =
    let same : t ≡ t' = comes_same c c' in
    let f : Table p g ≡ Table r g' = sym d ∙ ap (λ x. entry_at m n x (index_of n va)) same ∙ d' in
    cc

module _ {σ : Setting} {m : ℕ → ℕ} {role : ℕ → Role} (b : Built σ m role) where
  -- the levels left are those of the page's role
  pub comes_left : {va n p : ℕ} → Comes σ m va n p → left (role p) ≡ n
  comes_left (begin e f u) = rw (f, b.starts) (sym e)
  comes_left {va} {n} {p} (onto t g c e) = ap left (b.down t n (index_of n va) p g (comes_left c) (index_lt n va) e).0

  -- the step onto a page shows its role
  pub onto_role : {va n p t : ℕ} {g : Rights} → Comes σ m va (suc n) t → entry_at m n t (index_of n va) ≡ Table p g
      → (role p ≡ table n t (index_of n va)) × (g ≡ everything)
  onto_role {va} {n} {p} {t} {g} c e = b.down t n (index_of n va) p g (comes_left c) (index_lt n va) e

  -- the step by which a walk came to a table
  pub comes_parent : {va n k p r j : ℕ} → role p ≡ table k r j → Comes σ m va n p → Comes σ m va (suc n) r × (n ≡ k) × (index_of n va ≡ j)
  comes_parent h (begin e f u) = let z : ◌≡◌ {A = ℕ} 0 1 = cc b.starts in absurd (omega arith)
  comes_parent {va} {n} {r = r} h (onto t g c e) =
      let o = (onto_role c e).0 in
      let same : t ≡ r = cc in
      (subst (λ x. Comes σ m va (suc n) x) same c, cc, cc)

  -- ONE WAY to a table: two walks that come to it have the same levels left, and their addresses agree above. To the root all come.
  pub one_way : {va vb n k p : ℕ} → Comes σ m va n p → Comes σ m vb k p → (n ≡ k) × (n < 4 → Near n va vb)
  one_way (begin e f u) (begin e' f' u') = (e ∙ sym e', λ w. absurd (omega arith))
  one_way (begin e f u) (onto t g c d) = let z : ◌≡◌ {A = ℕ} 0 1 = cc (b.starts, (onto_role c d).0) in absurd (omega arith)
  one_way (onto t g c d) (begin e f u) = let z : ◌≡◌ {A = ℕ} 0 1 = cc (b.starts, (onto_role c d).0) in absurd (omega arith)
  one_way {va} {vb} {n} {k} (onto t g c e) (onto t' g' c' e') =
      let r = (onto_role c e).0 in
      let o = comes_parent r (onto t' g' c' e') in
      let ih = one_way c o.0 in
      (sym o.1, λ w. near_down n va vb w (comes_address c) (comes_address o.0) ih.1 (sym o.2 ∙ ap (λ j. index_of j vb) o.1))

  -- two walks that come to one entry
  pub one_entry : {va vb l q : ℕ} → Comes σ m va (suc l) q → Comes σ m vb (suc l) q → index_of l va ≡ index_of l vb → Near l va vb
  one_entry {va} {vb} {l} c d = near_down l va vb (omega (arith, comes_top c)) (comes_address c) (comes_address d) (one_way c d).1

  -- THE RANGE OF AN ENTRY: the addresses whose walks read it are those near one of them, from its level up.
  pub range : {va l q : ℕ} (vb : ℕ) → Comes σ m va (suc l) q → (Comes σ m vb (suc l) q × (index_of l vb ≡ index_of l va)) ↔ Near l va vb
  range {va} {l} {q} vb c = (
    λ h. one_entry c h.0 (sym h.1),
    λ n. (comes_entry vb n c, sym (same_index l va vb n)),
  )

  -- The same in numbers: [base, base + size).
  pub range_numbers : {va l q : ℕ} (vb : ℕ) → Comes σ m va (suc l) q
      → (Comes σ m vb (suc l) q × (index_of l vb ≡ index_of l va)) ↔ ((base_of l va ≤ vb) × (vb < base_of l va + size_of l))
  range_numbers {va} {l} vb c = (λ h. (near_range l va vb).0 ((range vb c).0 h), λ h. (range vb c).1 ((near_range l va vb).1 h))
