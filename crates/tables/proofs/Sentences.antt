-- What is required of tables that we built, in the words of the requirement: every present entry that is no page names a table of the
-- pool; no table is reached twice; no table but the root is empty; reserved bits are 0. The local laws of Roles.antt give each.
use Prim.Native.Nat.{ℕ, zero, suc, ◌+◌, ◌-◌, ◌/◌, ◌%◌, ◌<◌}
use mathlib.Core.Logic.{◌≢◌}
use mathlib.Core.Path.{◌≡◌, refl, sym, ap, ◌∙◌, subst}
use native.Mathlib.Omega.{arith}
use Rattle.word.specs.Memory.{at}
use Rattle.entry.specs.Entry.{size_of, table_of, everything}
use Rattle.entry.specs.declared.Rights.{Rights}
use Rattle.entry.specs.declared.Entry.TheVariants.{Nothing, Table}
use Rattle.walk.specs.Walk.{index_of}
use Rattle.walk.proofs.Addresses.{in_lower}
use Rattle.walk.proofs.Digits.{index_lt}
use Rattle.tables.specs.Roles.{Setting, Role, foreign, free, aside, book, root, table, left, Live, entry_at, Built, Occupied, Filled}
use Rattle.tables.proofs.Near.{pick, pick_near, pick_index, root_pick, root_pick_lem}
use Rattle.tables.specs.Way.{Comes, begin, onto}
use Rattle.tables.proofs.Way.{comes_near, comes_left, one_way, comes_top}

module _ {σ : Setting} {m : ℕ → ℕ} {role : ℕ → Role} (b : Built σ m role) where
  -- RESERVED BITS ARE 0: a word of a table that is present, bit 0, is never one at which a walk faults.
  pub present_says : (q l i : ℕ) → Live role q l → i < 512 → m (at q i) % 2 ≡ 1 → entry_at m l q i ≢ Nothing
  present_says q l i h u p e = omega (arith, ap (λ w. w % 2) (b.zeros q l i h u e))

  -- NO TABLE IS REACHED TWICE. Two walks that come to one table have the same levels left, and came by the same entries.
  pub reached_once : {va vb n k p : ℕ} → Comes σ m va n p → Comes σ m vb k p → (n ≡ k) × (n < 4 → va / size_of n ≡ vb / size_of n)
  reached_once = one_way b

  -- Two entries that name one table are one entry.
  pub named_once : (q l i r k j t : ℕ) (g g' : Rights) → Live role q l → i < 512 → entry_at m l q i ≡ Table t g → Live role r k → j < 512 → entry_at m k r j ≡ Table t g'
      → (q ≡ r) × (l ≡ k) × (i ≡ j)
  named_once q l i r k j t g g' h u e h' u' e' =
      let one = (b.down q l i t g h u e).0 in
      let two = (b.down r k j t g' h' u' e').0 in
      (cc, cc, cc)

  -- and none names the root
  pub root_unnamed : (q l i t : ℕ) (g : Rights) → Live role q l → i < 512 → entry_at m l q i ≡ Table t g → t ≢ table_of σ.cr3
  root_unnamed q l i t g h u e f = let z : ◌≡◌ {A = ℕ} 0 1 = cc ((b.down q l i t g h u e).0, b.starts) in omega arith

  -- NO TABLE BUT THE ROOT IS EMPTY.
  pub reached_filled : Filled m role → {va l q : ℕ} → Comes σ m va (suc l) q → q ≢ table_of σ.cr3 → Occupied m l q
  reached_filled f (begin e d u) n = absurd (n d)
  reached_filled f {va} {l} {q} (onto t g c e) n =
      f q l t (index_of (suc l) va) (b.down t (suc l) (index_of (suc l) va) q g (comes_left b c) (index_lt (suc l) va) e).0

  -- a walk from the parent on by entry i
  onto_child : {n p q i : ℕ} → role p ≡ table n q i → (va : ℕ) → Comes σ m va (suc n) q → (vb : ℕ) × Comes σ m vb n p
  onto_child {n} {p} {q} {i} h va (begin e f u) =
      let o = b.up p n q i h in
      let there = root_pick_lem i o.1 in
      let level : n ≡ 3 = omega arith in
      let index : index_of n (root_pick i) ≡ i = ap (λ l. index_of l (root_pick i)) level ∙ there.1 in
      (root_pick i, onto q everything (begin e f there.0) (subst (λ j. entry_at m n q j ≡ Table p everything) (sym index) o.2))
  onto_child {n} {p} {q} {i} h va (onto t g c e) =
      let o = b.up p n q i h in
      (pick va n i, onto q everything (comes_near (pick va n i) (omega (arith, comes_top c)) (pick_near va n i o.1) (onto t g c e)) (subst (λ j. entry_at m n q j ≡ Table p everything) (sym (pick_index va n i o.1)) o.2))

  reached_by : (n p q i : ℕ) → role p ≡ table n q i → ((t j : ℕ) → role q ≡ table (suc n) t j → (va : ℕ) × Comes σ m va (suc n) q) → (va : ℕ) × Comes σ m va n p
  reached_by n p q i h above = go (role q) refl
    where
      live : Live role q n
      live = (b.up p n q i h).0

      go : (r : Role) → role q ≡ r → (va : ℕ) × Comes σ m va n p
      go foreign e = absurd (omega (arith, live, ap left e))
      go free e = absurd (omega (arith, live, ap left e))
      go aside e = absurd (omega (arith, live, ap left e))
      go book e = absurd (omega (arith, live, ap left e))
      go root e = onto_child h 0 (begin (omega (arith, live, ap left e)) (b.alone q e) (in_lower 0 (omega arith)))
      go (table k t j) e =
          let level : k ≡ suc n = sym (ap left e) ∙ live in
          let a = above t j (e ∙ ap (λ x. table x t j) level) in
          onto_child h a.0 a.1

  reached_below : (d n p q i : ℕ) → suc n + d ≡ 4 → role p ≡ table n q i → (va : ℕ) × Comes σ m va n p
  reached_below zero n p q i s h = reached_by n p q i h (λ t j e. absurd (omega (arith, b.low q (suc n) t j e)))
  reached_below (suc d) n p q i s h = reached_by n p q i h (λ t j e. reached_below d (suc n) q t j (omega arith) e)

  -- EVERY TABLE IS REACHED: what the roles call a table is on the way of some address.
  pub reached : (p n q i : ℕ) → role p ≡ table n q i → (va : ℕ) × Comes σ m va n p
  reached p n q i h = reached_below (3 - n) n p q i (omega (arith, b.low p n q i h)) h
