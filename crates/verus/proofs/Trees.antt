-- THEIR TWO MEANINGS ARE ONE: what the tree of the root maps is what the walks find at their bases (lemma_interps_match).
use Prim.Native.Nat.{ℕ, zero, suc, ◌+◌, ◌*◌, ◌/◌, ◌%◌, ◌<◌, ◌≤◌}
use mathlib.Core.Bool.{Bool, true, false, cond}
use mathlib.Core.Logic.{◌↔◌}
use mathlib.Core.Option.{none, some}
use mathlib.Core.Path.{◌≡◌, refl, sym, ap, ◌∙◌, subst}
use native.Mathlib.Nat.{mul_comm, mul_assoc, add-mul, mul-mod_left, suc-mul, mul-le-mul_right, div-add-mod'}
use native.Mathlib.Omega.{arith}
use borrow.Author.Tests.{eq-eqb, eqb-true, lt-ltb, ltb-true}
use lib.Dec.{eqb, ltb}
use Rattle.entry.specs.Entry.{size_of, table_of, both, everything}
use Rattle.entry.specs.declared.Rights.{Rights}
use Rattle.entry.specs.declared.Entry.{Entry}
use Rattle.entry.specs.declared.Entry.TheVariants.{Nothing, Page, Table}
use Rattle.entry.proofs.Fields.{last_no_table}
use Rattle.walk.specs.Walk.{canonical, index_of, base_of}
use Rattle.walk.proofs.Digits.{index_lt, same_index, size_pos, size_up, div_up}
use Rattle.tables.specs.Roles.{Setting, Role, Live, entry_at}
use Rattle.tables.specs.Near.{Near}
use Rattle.tables.proofs.Near.{near_range, pick, pick_index}
use Rattle.tables.proofs.Meaning.{everything_both}
use Rattle.tables.proofs.Overlap.{aligned_base}
use Rattle.verus.specs.Regions.{PTE, pte_of}
use Rattle.verus.specs.Mappings.{max_base}
use Rattle.verus.specs.Walks.{WalkResult, Valid, Invalid, pt_walk, based, view, interp}
use Rattle.verus.specs.Trees.{InTree, a_page, a_directory, Inv}
use Rattle.verus.proofs.Walks.{from, word, from_nothing, from_page, from_table, at_layer0}

-- an index beside the ones above it
spread : (a c s : ℕ) → a * (s * 512) + c * s ≡ (a * 512 + c) * s
spread a c s = ap (λ x. a * x + c * s) (mul_comm s 512) ∙ ap (λ x. x + c * s) (sym (mul_assoc a 512 s)) ∙ sym (add-mul (a * 512) c s)

below : (i s : ℕ) → i < 512 → i * s + s ≤ 512 * s
below i s u = subst (λ x. x ≤ 512 * s) (suc-mul i s) (mul-le-mul_right s u)

-- the base of an entry, from where its table begins
pick_is : (l start i : ℕ) → start % size_of (suc l) ≡ 0 → start + i * size_of l ≡ pick start l i
unfolding pick
pick_is l start i e =
    let whole : start / size_of (suc l) * size_of (suc l) ≡ start = omega (arith, div-add-mod' start (size_of (suc l))) in
    ap (λ x. x + i * size_of l) (sym whole ∙ ap (λ x. start / size_of (suc l) * x) (size_up l)) ∙ spread (start / size_of (suc l)) i (size_of l)

pick_aligned : (l start i : ℕ) → pick start l i % size_of l ≡ 0
unfolding pick
pick_aligned l start i = mul-mod_left _ (size_of l)

base_down : (l va : ℕ) → base_of (suc l) va + index_of l va * size_of l ≡ base_of l va
unfolding base_of index_of
base_down l va =
    let x = va / size_of l in
    let digits : x / 512 * 512 + x % 512 ≡ x = omega arith in
    ap (λ y. y * size_of (suc l) + x % 512 * size_of l) (div_up l va)
    ∙ ap (λ y. x / 512 * y + x % 512 * size_of l) (size_up l) ∙ spread (x / 512) (x % 512) (size_of l) ∙ ap (λ y. y * size_of l) digits

-- what the tree of a table maps lies in the range of the table
in_tree_range : {m : ℕ → ℕ} {l t start base : ℕ} {p : PTE} → InTree m l t start base p → (start ≤ base) × (base < start + 512 * size_of l)
in_tree_range {l = l} (a_page i f g u e is same) = (omega arith, omega (arith, below i (size_of l) u, size_pos l))
in_tree_range {l = suc l} (a_directory i s g u e sub) =
    let k = in_tree_range sub in
    (omega (arith, k.0), omega (arith, k.1, size_up l, below i (size_of (suc l)) u))

-- a result that is valid at its base, and what is
based_valid : (base : ℕ) (p : PTE) → based base (Valid base p) ≡ some p
unfolding based
based_valid base p = rw (eq-eqb base base refl)

valid_based : (base : ℕ) (p : PTE) (r : WalkResult) → based base r ≡ some p → r ≡ Valid base p
unfolding based
valid_based base p (Invalid a) e = let z : ◌≡◌ {A = ℕ} 0 1 = cc in absurd (omega arith)
valid_based base p (Valid a q) e = go (eqb a base) refl e
  where
    go : (b : Bool) → eqb a base ≡ b → cond b (some q) none ≡ some p → Valid a q ≡ Valid base p
    go true f k = let same : a ≡ base = eqb-true a base f in let pte : q ≡ p = cc in cc
    go false f k = let z : ◌≡◌ {A = ℕ} 0 1 = cc in absurd (omega arith)

base_aligned : (l va : ℕ) → base_of l va % size_of l ≡ 0
unfolding base_of
base_aligned l va = mul-mod_left _ (size_of l)

-- the entry of a table whose range an address lies in is the one that its walk reads
index_in : (l start i base : ℕ) → start % size_of (suc l) ≡ 0 → i < 512 → start + i * size_of l ≤ base → base < start + i * size_of l + size_of l → i ≡ index_of l base
index_in l start i base a u low high =
    let there : start + i * size_of l ≡ pick start l i = pick_is l start i a in
    let begins : base_of l (pick start l i) ≡ pick start l i = aligned_base l (pick start l i) (pick_aligned l start i) in
    let near : Near l (pick start l i) base = (near_range l (pick start l i) base).1 (omega (arith, there, begins), omega (arith, there, begins)) in
    sym (pick_index start l i u) ∙ same_index l (pick start l i) base near

module _ {σ : Setting} {m : ℕ → ℕ} {role : ℕ → Role} (v : Inv σ m role) where
  -- what the tree of a table maps, the walk of that base finds from there on
  tree_walks : (l t start base : ℕ) (p : PTE) → l < 4 → Live role t l → start % size_of (suc l) ≡ 0 → InTree m l t start base p → from m base (suc l) t everything ≡ Valid base p
  tree_walks l t start base p k live a (a_page i f g u e is same) =
      let index : i ≡ index_of l base = index_in l start i base a u (omega (arith, is)) (omega (arith, is, size_pos l)) in
      let begins : base_of l base ≡ base = aligned_base l base (ap (λ x. x % size_of l) (is ∙ pick_is l start i a) ∙ pick_aligned l start i) in
      from_page m base l t everything f g (subst (λ x. entry_at m l t x ≡ Page f g) index e)
      ∙ ap (λ x. Valid x (pte_of (size_of l) f (both everything g))) begins
      ∙ ap (λ x. Valid base (pte_of (size_of l) f x)) (everything_both g) ∙ ap (Valid base) (sym same)
  tree_walks (suc l) t start base p k live a (a_directory i s g u e sub) =
      let range = in_tree_range sub in
      let index : i ≡ index_of (suc l) base = index_in (suc l) start i base a u range.0 (omega (arith, range.1, size_up l)) in
      let here = v.tables (suc l) t live in
      let one : g ≡ everything = here.flags i s g u e in
      let next = here.obeys i s g u e in
      let level : l ≡ next.0 = omega (arith, next.1) in
      from_table m base (suc l) t everything s g (subst (λ x. entry_at m (suc l) t x ≡ Table s g) index e)
      ∙ ap (λ x. from m base (suc l) s x) (everything_both g ∙ one)
      ∙ tree_walks l s (start + i * size_of (suc l)) base p (omega arith) (next.2 ∙ ap suc (sym level))
      (ap (λ x. x % size_of (suc l)) (pick_is (suc l) start i a) ∙ pick_aligned (suc l) start i) sub

  -- and what a walk finds from a table on, at a base, the tree of that table maps: by what the entry says
  walks_entry : (l t base : ℕ) (p : PTE) (x : Entry) → word m base l t ≡ x → from m base (suc l) t everything ≡ Valid base p
      → ((s : ℕ) (g : Rights) → word m base l t ≡ Table s g → InTree m l t (base_of (suc l) base) base p) → InTree m l t (base_of (suc l) base) base p
  walks_entry l t base p Nothing f e next = let z : ◌≡◌ {A = ℕ} 0 1 = cc (from_nothing m base l t everything f) in absurd (omega arith)
  walks_entry l t base p (Page y g) f e next =
      let found : Valid (base_of l base) (pte_of (size_of l) y (both everything g)) ≡ Valid base p = sym (from_page m base l t everything y g f) ∙ e in
      let begins : base_of l base ≡ base = cc in
      let same : pte_of (size_of l) y (both everything g) ≡ p = cc in
      a_page (index_of l base) y g (index_lt l base) f (sym (base_down l base ∙ begins)) (sym (ap (pte_of (size_of l) y) (sym (everything_both g)) ∙ same))
  walks_entry l t base p (Table s g) f e next = next s g f

  walks_tree : (l t base : ℕ) (p : PTE) → l < 4 → Live role t l → from m base (suc l) t everything ≡ Valid base p → InTree m l t (base_of (suc l) base) base p
  walks_tree zero t base p k live e = walks_entry 0 t base p (word m base 0 t) refl e (λ s g f. absurd (last_no_table _ s g f))
  walks_tree (suc l) t base p k live e = walks_entry (suc l) t base p (word m base (suc l) t) refl e (λ s g f.
      let here = v.tables (suc l) t live in
      let one : g ≡ everything = here.flags (index_of (suc l) base) s g (index_lt (suc l) base) f in
      let next = here.obeys (index_of (suc l) base) s g (index_lt (suc l) base) f in
      let level : l ≡ next.0 = omega (arith, next.1) in
      a_directory (index_of (suc l) base) s g (index_lt (suc l) base) f
      (subst (λ x. InTree m l s x base p) (sym (base_down (suc l) base))
      (walks_tree l s base p (omega arith) (next.2 ∙ ap suc (sym level))
      (ap (λ x. from m base (suc l) s x) (sym (everything_both g ∙ one)) ∙ sym (from_table m base (suc l) t everything s g f) ∙ e))))

  abbrev pml4 : ℕ
  pml4 = table_of σ.cr3

  -- the root's tree, from where the range of 2 ^ 48 begins that the base lies in, and the walk of the base
  tree_is_walk : (base : ℕ) (p : PTE) → InTree m 3 pml4 (base_of 4 base) base p ↔ (pt_walk m pml4 base ≡ Valid base p)
  tree_is_walk base p = (
    λ t. sym (at_layer0 m base pml4) ∙ tree_walks 3 pml4 (base_of 4 base) base p (omega arith) v.root (base_aligned 4 base) t,
    λ e. walks_tree 3 pml4 base p (omega arith) v.root (at_layer0 m base pml4 ∙ e),
  )

  -- LEMMA_INTERPS_MATCH: where their invariant holds, the tree from 0 on and the map over the flat memory are one map.
  pub tree_is_view : (base : ℕ) (p : PTE) → InTree m 3 pml4 0 base p ↔ (view m pml4 base ≡ some p)
  unfolding view
  tree_is_view base p = (there, back (ltb base max_base) refl)
    where
      low : base < max_base → base_of 4 base ≡ 0
      low u = unfold base_of size_of in omega arith

      there : InTree m 3 pml4 0 base p → cond (ltb base max_base) (based base (pt_walk m pml4 base)) none ≡ some p
      there t =
          let u : base < max_base = unfold size_of in omega (arith, (in_tree_range t).1) in
          rw (lt-ltb base max_base u) (ap (based base) ((tree_is_walk base p).0 (subst (λ x. InTree m 3 pml4 x base p) (sym (low u)) t)) ∙ based_valid base p)

      back : (x : Bool) → ltb base max_base ≡ x → cond (ltb base max_base) (based base (pt_walk m pml4 base)) none ≡ some p → InTree m 3 pml4 0 base p
      back true e k = subst (λ x. InTree m 3 pml4 x base p) (low (ltb-true base max_base e)) ((tree_is_walk base p).1 (valid_based base p _ (rw e at k)))
      back false e k = let z : ◌≡◌ {A = ℕ} 0 1 = cc in absurd (omega arith)

  -- THE SAME FOR OUR ADDRESSES: the tree of the upper half begins at 2 ^ 64 - 2 ^ 48.
  pub tree_is_interp : (base : ℕ) (p : PTE) → canonical base ≡ true → InTree m 3 pml4 (base_of 4 base) base p ↔ (interp m pml4 base ≡ some p)
  unfolding interp
  tree_is_interp base p a = (
    λ t. rw a (ap (based base) ((tree_is_walk base p).0 t) ∙ based_valid base p),
    λ k. (tree_is_walk base p).1 (valid_based base p _ (rw a at k)),
  )
