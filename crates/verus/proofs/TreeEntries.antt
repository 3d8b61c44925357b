-- THE SOURCE'S TREE BY ITS ENTRIES: the lemmas of impl_u/l1.rs, for any memory; each entry's pages lie in its own range.
use Prim.Native.Nat.{ℕ, suc, zero, ◌+◌, ◌*◌, ◌<◌, ◌≤◌}
use mathlib.Core.Logic.{◌↔◌, ◌⊎◌, inl, inr, ◌≢◌}
use mathlib.Core.Path.{◌≡◌, refl, sym, ap, ◌∙◌, subst}
use native.Mathlib.Decide.{ℕ_discrete, dec_lt}
use native.Mathlib.Nat.{suc-mul, mul-le-mul_right}
use native.Mathlib.Omega.{arith}
use Rattle.entry.specs.Entry.{size_of}
use Rattle.entry.specs.declared.Entry.{Entry}
use Rattle.entry.specs.declared.Entry.TheVariants.{Nothing, Page, Table}
use Rattle.entry.proofs.Fields.{last_no_table}
use Rattle.walk.proofs.Digits.{size_up, size_pos}
use Rattle.tables.specs.Roles.{Setting, Role, table, left, Live, entry_at, Occupied, Bare}
use Rattle.verus.specs.Regions.{PTE, pte_of}
use Rattle.verus.specs.Mappings.{EntrySize}
use Rattle.verus.specs.Trees.{InTree, a_page, a_directory, InvAndNonempty}
use Rattle.verus.specs.TreeEntries.{InEntry, page_itself, table_below}

-- so many entries, and one more
next : (i j s : ℕ) → i < j → i * s + s ≤ j * s
next i j s u = subst (λ x. x ≤ j * s) (suc-mul i s) (mul-le-mul_right s u)

-- WHAT A TREE MAPS LIES IN ITS RANGE, page and all
pub tree_range : {m : ℕ → ℕ} {l t start b : ℕ} {p : PTE} → InTree m l t start b p → (start ≤ b) × (b + p.frame.size ≤ start + 512 * size_of l) × (0 < p.frame.size)
unfolding pte_of
tree_range {l = l} {b = b} {p = p} (a_page i f g u e is same) =
    let wide : p.frame.size ≡ size_of l = ap (λ (y : PTE). y.frame.size) same in
    (omega arith, omega (arith, next i 512 (size_of l) u), omega (arith, size_pos l))
tree_range {l = suc l} (a_directory i s g u e sub) =
    let k = tree_range sub in
    (omega (arith, k.0), omega (arith, k.1, size_up l, next i 512 (size_of (suc l)) u), k.2)

-- its size is that of an entry of the table or below
pub tree_size : {m : ℕ → ℕ} {l t start b : ℕ} {p : PTE} → InTree m l t start b p → EntrySize l p.frame.size
unfolding pte_of
tree_size {l = l} (a_page i f g u e is same) = record { level = l; low = omega arith; is = ap (λ (y : PTE). y.frame.size) same }
tree_size {l = suc l} (a_directory i s g u e sub) = let k = tree_size sub in record { level = k.level; low = omega (arith, k.low); is = k.is }

-- and what an entry maps, in the entry's
pub entry_range : {m : ℕ → ℕ} {l t start i b : ℕ} {p : PTE} → InEntry m l t start i b p
    → (start + i * size_of l ≤ b) × (b + p.frame.size ≤ start + i * size_of l + size_of l) × (0 < p.frame.size)
unfolding pte_of
entry_range {l = l} {p = p} (page_itself f g e is same) =
    let wide : p.frame.size ≡ size_of l = ap (λ (y : PTE). y.frame.size) same in
    (omega arith, omega arith, omega (arith, size_pos l))
entry_range {l = suc l} (table_below s g e sub) = let k = tree_range sub in (k.0, omega (arith, k.1, size_up l), k.2)

-- ENTRIES MAP DISJOINT RANGES
pub entries_apart : {m m' : ℕ → ℕ} {l t t' start i j b b' : ℕ} {p p' : PTE} → InEntry m l t start i b p → InEntry m' l t' start j b' p' → i < j → b + p.frame.size ≤ b'
entries_apart {l = l} {i = i} {j = j} a c u = omega (arith, (entry_range a).1, (entry_range c).0, next i j (size_of l) u)

-- A TREE IS ITS ENTRIES: what an entry maps the tree maps, and each page of the tree is some entry's
pub tree_entries : (m : ℕ → ℕ) (l t start b : ℕ) (p : PTE) → InTree m l t start b p ↔ ((i : ℕ) × (i < 512) × InEntry m l t start i b p)
tree_entries m l t start b p = (there, λ k. back k.1 k.2)
  where
    there : {l : ℕ} → InTree m l t start b p → (i : ℕ) × (i < 512) × InEntry m l t start i b p
    there (a_page i f g u e is same) = (i, u, page_itself f g e is same)
    there (a_directory i s g u e sub) = (i, u, table_below s g e sub)

    back : {l i : ℕ} → i < 512 → InEntry m l t start i b p → InTree m l t start b p
    back {i = i} u (page_itself f g e is same) = a_page i f g u e is same
    back {i = i} u (table_below s g e sub) = a_directory i s g u e sub

-- the one in whose range it begins
pub tree_index : {m : ℕ → ℕ} {l t start b i j : ℕ} {p : PTE} → InEntry m l t start i b p → start + j * size_of l ≤ b → b < start + j * size_of l + size_of l → i ≡ j
tree_index {l = l} {start = start} {b = b} {i = i} {j = j} {p = p} a u v = go (dec_lt i j) (dec_lt j i)
  where
    k : (start + i * size_of l ≤ b) × (b + p.frame.size ≤ start + i * size_of l + size_of l) × (0 < p.frame.size)
    k = entry_range a

    go : Dec (i < j) → Dec (j < i) → i ≡ j
    go (yes x) y = absurd (omega (arith, k.1, k.2, next i j (size_of l) x))
    go (no x) (yes y) = absurd (omega (arith, k.0, next j i (size_of l) y))
    go (no x) (no y) = omega arith

-- AN EMPTY TREE maps nothing
pub bare_tree : {m : ℕ → ℕ} {l t start b : ℕ} {p : PTE} → Bare m (suc l) t → InTree m l t start b p → ⊥
bare_tree {l = l} z (a_page i f g u e is same) = let k : ◌≡◌ {A = Entry} Nothing (Page f g) = sym (z l i refl u) ∙ e in let x : ◌≡◌ {A = ℕ} 0 1 = cc in omega arith
bare_tree {l = l} z (a_directory i s g u e sub) = let k : ◌≡◌ {A = Entry} Nothing (Table s g) = sym (z l i refl u) ∙ e in let x : ◌≡◌ {A = ℕ} 0 1 = cc in omega arith

-- ONE THAT IS NOT maps some page, where their invariant holds and no directory is empty
pub occupied_tree : {σ : Setting} {m : ℕ → ℕ} {role : ℕ → Role} → InvAndNonempty σ m role → (l t start : ℕ) → Live role t l → Occupied m l t → (b : ℕ) × (p : PTE) × InTree m l t start b p
occupied_tree {σ} {m} {role} w zero t start v o = go (entry_at m 0 t o.0) refl
  where
    go : (e : Entry) → entry_at m 0 t o.0 ≡ e → (b : ℕ) × (p : PTE) × InTree m 0 t start b p
    go Nothing k = absurd (o.2 k)
    go (Page f g) k = (_, _, a_page o.0 f g o.1 k refl refl)
    go (Table s g) k = absurd (last_no_table _ s g k)
occupied_tree {σ} {m} {role} w (suc l) t start v o = go (entry_at m (suc l) t o.0) refl (λ s x y. occupied_tree w l s (start + o.0 * size_of (suc l)) x y)
  where
    go : (e : Entry) → entry_at m (suc l) t o.0 ≡ e
        → ((s : ℕ) → Live role s l → Occupied m l s → (b : ℕ) × (p : PTE) × InTree m l s (start + o.0 * size_of (suc l)) b p) → (b : ℕ) × (p : PTE) × InTree m (suc l) t start b p
    go Nothing k below = absurd (o.2 k)
    go (Page f g) k below = (_, _, a_page o.0 f g o.1 k refl refl)
    go (Table s g) k below =
        let named : role s ≡ table (suc l) t o.0 = ((w.inv.tables (suc l) t v).matches o.0 s o.1).0 (g, k) in
        let sub = below s (ap left named) (w.nonempty l t o.0 s g v o.1 k) in
        (sub.0, sub.1, a_directory o.0 s g o.1 k sub.2)

-- One entry changes -----------------------------------------------------------------------------------------------------------------------

module _ (m m' : ℕ → ℕ) (l t start idx : ℕ) (u : idx < 512)
    (others : (i b : ℕ) (p : PTE) → i ≢ idx → InEntry m l t start i b p ↔ InEntry m' l t start i b p) where
  -- ENTRIES THAT MAP THE SAME make trees that do
  pub tree_same : ((b : ℕ) (p : PTE) → InEntry m l t start idx b p ↔ InEntry m' l t start idx b p) → (b : ℕ) (p : PTE) → InTree m l t start b p ↔ InTree m' l t start b p
  tree_same same b p = (
    λ x. let k = (tree_entries m l t start b p).0 x in (tree_entries m' l t start b p).1 (k.0, k.1, there k.0 k.2 (ℕ_discrete k.0 idx)),
    λ x. let k = (tree_entries m' l t start b p).0 x in (tree_entries m l t start b p).1 (k.0, k.1, back k.0 k.2 (ℕ_discrete k.0 idx)),
  )
    where
      there : (i : ℕ) → InEntry m l t start i b p → Dec (i ≡ idx) → InEntry m' l t start i b p
      there i x (yes e) = subst (λ y. InEntry m' l t start y b p) (sym e) ((same b p).0 (subst (λ y. InEntry m l t start y b p) e x))
      there i x (no n) = (others i b p n).0 x

      back : (i : ℕ) → InEntry m' l t start i b p → Dec (i ≡ idx) → InEntry m l t start i b p
      back i x (yes e) = subst (λ y. InEntry m l t start y b p) (sym e) ((same b p).1 (subst (λ y. InEntry m' l t start y b p) e x))
      back i x (no n) = (others i b p n).1 x

  -- a page that begins in the range of that entry is no other entry's
  elsewhere : (base i b : ℕ) (p : PTE) → start + idx * size_of l ≤ base → base < start + idx * size_of l + size_of l → InEntry m l t start i b p → i ≢ idx → b ≢ base
  elsewhere base i b p low high x n e = n (tree_index x (subst (λ y. start + idx * size_of l ≤ y) (sym e) low) (subst (λ y. y < start + idx * size_of l + size_of l) (sym e) high))

  -- WHERE A PAGE IS INSERTED in what one entry maps, it is in what the tree maps
  pub tree_inserts : (base : ℕ) (pte : PTE)
      → ((b : ℕ) (p : PTE) → InEntry m' l t start idx b p ↔ (((b ≢ base) × InEntry m l t start idx b p) ⊎ ((b ≡ base) × (p ≡ pte))))
      → (b : ℕ) (p : PTE) → InTree m' l t start b p ↔ (((b ≢ base) × InTree m l t start b p) ⊎ ((b ≡ base) × (p ≡ pte)))
  tree_inserts base pte gains b p = (λ x. let k = (tree_entries m' l t start b p).0 x in there k.0 k.1 k.2 (ℕ_discrete k.0 idx), back)
    where
      -- the new page lies in the range of its entry
      range : (start + idx * size_of l ≤ base) × (base + pte.frame.size ≤ start + idx * size_of l + size_of l) × (0 < pte.frame.size)
      range = entry_range ((gains base pte).1 (inr (refl, refl)))

      tree : (i : ℕ) → i < 512 → InEntry m l t start i b p → InTree m l t start b p
      tree i v x = (tree_entries m l t start b p).1 (i, v, x)

      there : (i : ℕ) → i < 512 → InEntry m' l t start i b p → Dec (i ≡ idx) → ((b ≢ base) × InTree m l t start b p) ⊎ ((b ≡ base) × (p ≡ pte))
      there i v x (no n) =
          let y = (others i b p n).1 x in
          inl (elsewhere base i b p range.0 (omega (arith, range.1, range.2)) y n, tree i v y)
      there i v x (yes e) = or ((gains b p).0 (subst (λ y. InEntry m' l t start y b p) e x))
        where
          or : ((b ≢ base) × InEntry m l t start idx b p) ⊎ ((b ≡ base) × (p ≡ pte)) → ((b ≢ base) × InTree m l t start b p) ⊎ ((b ≡ base) × (p ≡ pte))
          or (inl y) = inl (y.0, tree idx u y.1)
          or (inr y) = inr y

      back : ((b ≢ base) × InTree m l t start b p) ⊎ ((b ≡ base) × (p ≡ pte)) → InTree m' l t start b p
      back (inr y) = (tree_entries m' l t start b p).1 (idx, u, (gains b p).1 (inr y))
      back (inl x) = let k = (tree_entries m l t start b p).0 x.1 in kept k.0 k.1 k.2 (ℕ_discrete k.0 idx)
        where
          kept : (i : ℕ) → i < 512 → InEntry m l t start i b p → Dec (i ≡ idx) → InTree m' l t start b p
          kept i v y (no n) = (tree_entries m' l t start b p).1 (i, v, (others i b p n).0 y)
          kept i v y (yes e) = (tree_entries m' l t start b p).1 (idx, u, (gains b p).1 (inl (x.0, subst (λ z. InEntry m l t start z b p) e y)))

  -- WHERE A BASE IS REMOVED from what the entry of its range maps, it is from what the tree maps
  pub tree_removes : (base : ℕ) → start + idx * size_of l ≤ base → base < start + idx * size_of l + size_of l
      → ((b : ℕ) (p : PTE) → InEntry m' l t start idx b p ↔ (InEntry m l t start idx b p × (b ≢ base)))
      → (b : ℕ) (p : PTE) → InTree m' l t start b p ↔ (InTree m l t start b p × (b ≢ base))
  tree_removes base low high loses b p = (λ x. let k = (tree_entries m' l t start b p).0 x in there k.0 k.1 k.2 (ℕ_discrete k.0 idx), λ k. back k.0 k.1)
    where
      there : (i : ℕ) → i < 512 → InEntry m' l t start i b p → Dec (i ≡ idx) → InTree m l t start b p × (b ≢ base)
      there i v x (no n) = let y = (others i b p n).1 x in ((tree_entries m l t start b p).1 (i, v, y), elsewhere base i b p low high y n)
      there i v x (yes e) = let y = (loses b p).0 (subst (λ z. InEntry m' l t start z b p) e x) in ((tree_entries m l t start b p).1 (idx, u, y.0), y.1)

      back : InTree m l t start b p → b ≢ base → InTree m' l t start b p
      back x n = let k = (tree_entries m l t start b p).0 x in kept k.0 k.1 k.2 (ℕ_discrete k.0 idx)
        where
          kept : (i : ℕ) → i < 512 → InEntry m l t start i b p → Dec (i ≡ idx) → InTree m' l t start b p
          kept i v y (no d) = (tree_entries m' l t start b p).1 (i, v, (others i b p d).0 y)
          kept i v y (yes e) = (tree_entries m' l t start b p).1 (idx, u, (loses b p).1 (subst (λ z. InEntry m l t start z b p) e y, n))
