-- A TABLE WHOSE PAGES KEEP THEIR WORDS keeps the source's invariant (lemma_inv_at_changed_tok), and one below which no table is empty keeps
-- that (lemma_no_empty_directories_with_changed_tok): for any memories, of one table and what lies below it.
use Prim.Native.Nat.{ℕ, zero, suc, ◌/◌, ◌%◌, ◌<◌}
use mathlib.Core.Bool.{false}
use mathlib.Core.Logic.{◌↔◌}
use mathlib.Core.Path.{◌≡◌, refl, sym, ap, ◌∙◌, subst}
use Rattle.word.specs.Memory.{at}
use Rattle.entry.specs.Entry.{bit, says}
use Rattle.entry.specs.declared.Rights.{Rights}
use Rattle.entry.specs.declared.Entry.TheVariants.{Table}
use Rattle.tables.specs.Roles.{Setting, Role, table, left, Live, entry_at, Occupied}
use Rattle.verus.specs.Entries.{MustBeZero}
use Rattle.verus.specs.Trees.{UsedBy, itself, below, Allocated, InvAt, InvAndNonempty}
use Rattle.verus.specs.ChangedTok.{KeepsUsed, NoneEmptyBelow}

-- it uses no other pages then
used_before : {m m' : ℕ → ℕ} {l q p : ℕ} → KeepsUsed m m' l q → UsedBy m' l q p → UsedBy m l q p
used_before keep itself = itself
used_before {l = suc l} {q = q} keep (below i s g u e k) =
    let e' = ap (says (suc l)) (sym (keep q itself i u)) ∙ e in
    below i s g u e' (used_before (λ p x. keep p (below i s g u e' x)) k)

-- the ghost tree has the same children at q, and the pages that q uses are allocated still; of every other page nothing is asked
module _ (σ : Setting) (m m' : ℕ → ℕ) (role role' : ℕ → Role) (l q : ℕ) (a : InvAt σ m role l q) (keep : KeepsUsed m m' l q)
    (children : (i t : ℕ) → i < 512 → (role t ≡ table l q i) ↔ (role' t ≡ table l q i)) (there : (p : ℕ) → UsedBy m l q p → Allocated σ role' p) where
  word : (i : ℕ) → i < 512 → m' (at q i) ≡ m (at q i)
  word i u = keep q itself i u

  was : (i : ℕ) → i < 512 → entry_at m l q i ≡ entry_at m' l q i
  was i u = ap (says l) (sym (word i u))

  -- of a table that an entry names
  lower : (k i s : ℕ) (g : Rights) → l ≡ suc k → i < 512 → entry_at m l q i ≡ Table s g → KeepsUsed m m' k s
  lower k i s g n u e p x =
      keep p (subst (λ y. UsedBy m y q p) (sym n) (below i s g u (subst (λ y. entry_at m y q i ≡ Table s g) n e) x))

  -- LEMMA_INV_AT_CHANGED_TOK
  pub inv_at_changed : InvAt σ m' role' l q
  inv_at_changed = record {
    aligned = a.aligned;
    allocated = there q itself;
    layer_in_range = a.layer_in_range;
    zeroed = λ i u e. word i u ∙ a.zeroed i u (was i u ∙ e);
    obeys = λ i t g u e.
        let k = a.obeys i t g u (was i u ∙ e) in
        (k.0, k.1, ap left ((children i t u).0 ((a.matches i t u).0 (g, was i u ∙ e))) ∙ k.1);
    flags = λ i t g u e. a.flags i t g u (was i u ∙ e);
    matches = λ i t u. (
      λ k. (children i t u).0 ((a.matches i t u).0 (k.0, was i u ∙ k.1)),
      λ e. let k = (a.matches i t u).1 ((children i t u).1 e) in (k.0, sym (was i u) ∙ k.1),
    );
    disjoint = λ k i j s t g g' n u v d e e' p x y.
        let f = was i u ∙ e in
        let f' = was j v ∙ e' in
        a.disjoint k i j s t g g' n u v d f f' p (used_before (lower k i s g n u f) x) (used_before (lower k j t g' n v f') y);
    not_itself = λ k i s g n u e x. let f = was i u ∙ e in a.not_itself k i s g n u f (used_before (lower k i s g n u f) x);
    regions = λ p x. there p (used_before keep x);
    hp_pat = λ i f g u e n. subst (λ y. bit 12 y ≡ false) (sym (word i u)) (a.hp_pat i f g u (was i u ∙ e) n);
    mb0 = λ i u. subst (MustBeZero l) (sym (word i u)) (a.mb0 i u);
    large = λ i f g u e n. subst (λ y. y / 128 % 2 ≡ 1) (sym (word i u)) (a.large i f g u (was i u ∙ e) n);
  }

-- LEMMA_NO_EMPTY_DIRECTORIES_WITH_CHANGED_TOK: where a table's entries say what they said, and the tables below keep their words
pub nonempty_changed : (m m' : ℕ → ℕ) (l q : ℕ) → ((i : ℕ) → i < 512 → entry_at m l q i ≡ entry_at m' l q i)
    → ((k i t : ℕ) (g : Rights) → l ≡ suc k → i < 512 → entry_at m l q i ≡ Table t g → KeepsUsed m m' k t) → NoneEmptyBelow m l q → NoneEmptyBelow m' l q
unfolding NoneEmptyBelow
nonempty_changed m m' zero q same keep n = n
nonempty_changed m m' (suc l) q same keep n = λ i t g u e.
    let e' = same i u ∙ e in
    let k = n i t g u e' in
    let kept = keep l i t g refl u e' in
    let o = k.0 in
    let full : Occupied m' l t = (o.0, o.1, λ z. o.2 (ap (says l) (sym (kept t itself o.0 o.1)) ∙ z)) in
    let lower : (k' j s : ℕ) (g' : Rights) → l ≡ suc k' → j < 512 → entry_at m l t j ≡ Table s g' → KeepsUsed m m' k' s =
    λ k' j s g' w v f p x. kept p (subst (λ y. UsedBy m y t p) (sym w) (below j s g' v (subst (λ y. entry_at m y t j ≡ Table s g') w f) x)) in
    (full, nonempty_changed m m' l t (λ j v. ap (says l) (sym (kept t itself j v))) lower k.1)

-- where inv_and_nonempty holds, it is so of every table
pub none_empty_below : {σ : Setting} {m : ℕ → ℕ} {role : ℕ → Role} → InvAndNonempty σ m role → (l q : ℕ) → Live role q l → NoneEmptyBelow m l q
unfolding NoneEmptyBelow
none_empty_below w zero q v = tt
none_empty_below w (suc l) q v = λ i t g u e.
    let named = ((w.inv.tables (suc l) q v).matches i t u).0 (g, e) in
    (w.nonempty l q i t g v u e, none_empty_below w l t (ap left named))
