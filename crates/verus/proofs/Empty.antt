-- IS_DIRECTORY_EMPTY, and a page of zeros (lemma_zeroed_page_implies_empty_at).
use Prim.Native.Nat.{ℕ, suc, ◌<◌, ◌≤◌}
use mathlib.Core.Bool.{Bool, true, false}
use mathlib.Core.Logic.{◌↔◌, ◌≢◌}
use mathlib.Core.Path.{◌≡◌, refl, sym, ap, ◌∙◌, subst}
use native.Mathlib.Decide.{ℕ_discrete}
use native.Mathlib.Omega.{arith}
use Rattle.word.specs.Memory.{at, set}
use Rattle.word.specs.Scan.{besides_of}
use Rattle.word.proofs.Set.{set_at, set_other}
use Rattle.entry.specs.Entry.{says}
use Rattle.entry.specs.declared.Rights.{Rights}
use Rattle.entry.specs.declared.Entry.{Entry}
use Rattle.entry.specs.declared.Entry.TheVariants.{Nothing, Page, Table}
use Rattle.entry.proofs.Fields.{says_absent}
use Rattle.tables.specs.Roles.{Setting, Role, table, entry_at, Zero, Bare}
use Rattle.effect.proofs.Emptying.{keeps_no, keeps_yes}
use Rattle.verus.specs.Entries.{MustBeZero}
use Rattle.verus.specs.Trees.{UsedBy, itself, below, Allocated, InvAt}
use Rattle.verus.proofs.NewEntry.{zero_entry_facts}

-- Whether a table is empty ---------------------------------------------------------------------------------------------------------------

module _ {σ : Setting} {m : ℕ → ℕ} {role : ℕ → Role} (q l : ℕ) (a : InvAt σ m role l q) where
  held : σ.window q ≡ true
  held = a.allocated.0.held

  -- IS_DIRECTORY_EMPTY, of the whole table: what `word::besides` answers, where no entry is left aside
  pub is_directory_empty : (i : ℕ) → 512 ≤ i → (besides_of σ.window m q i 512 ≡ false) ↔ Bare m (suc l) q
  is_directory_empty i u = (there, λ k. back k (besides_of σ.window m q i 512) refl)
    where
      there : besides_of σ.window m q i 512 ≡ false → Bare m (suc l) q
      there e n j z w = says_absent n (m (at q j)) (keeps_no σ.window m q i held 512 e j w (λ x. omega arith))

      back : Bare m (suc l) q → (x : Bool) → besides_of σ.window m q i 512 ≡ x → x ≡ false
      back k false e = refl
      back k true e =
          let o = keeps_yes σ.window m q i held 512 e in
          absurd (o.3 (a.zeroed o.0 o.1 (k l o.0 refl o.1)))

  -- and as unmap asks it, before the first write: whether the table will be empty once entry i is cleared
  pub empty_once_cleared : (i : ℕ) → i < 512 → (besides_of σ.window m q i 512 ≡ false) ↔ Bare (set m (at q i) 0) (suc l) q
  empty_once_cleared i u = (there, λ k. back k (besides_of σ.window m q i 512) refl)
    where
      there : besides_of σ.window m q i 512 ≡ false → Bare (set m (at q i) 0) (suc l) q
      there e n j z w = go (ℕ_discrete i j)
        where
          go : Dec (i ≡ j) → says n (set m (at q i) 0 (at q j)) ≡ Nothing
          go (yes x) = ap (says n) (set_at m (at q i) 0 (at q j) (omega arith)) ∙ says_absent n 0 (omega arith)
          go (no x) = ap (says n) (set_other m (at q i) 0 (at q j) (λ y. x (omega arith))) ∙ says_absent n (m (at q j)) (keeps_no σ.window m q i held 512 e j w x)

      back : Bare (set m (at q i) 0) (suc l) q → (x : Bool) → besides_of σ.window m q i 512 ≡ x → x ≡ false
      back k false e = refl
      back k true e =
          let o = keeps_yes σ.window m q i held 512 e in
          let same = set_other m (at q i) 0 (at q o.0) (λ y. o.2 (omega arith)) in
          absurd (o.3 (a.zeroed o.0 o.1 (ap (says l) (sym same) ∙ k l o.0 refl o.1)))

-- A page of zeros ------------------------------------------------------------------------------------------------------------------------

-- it has no table below it
zeroed_alone : {m : ℕ → ℕ} {l q p : ℕ} → Zero m q → UsedBy m l q p → p ≡ q
zeroed_alone z itself = refl
zeroed_alone {l = suc l} z (below i s g v e k) =
    let x : ◌≡◌ {A = Entry} Nothing (Table s g) = sym (ap (says (suc l)) (z i v) ∙ says_absent (suc l) 0 (omega arith)) ∙ e in
    let y : ◌≡◌ {A = ℕ} 0 1 = cc in
    absurd (omega arith)

-- LEMMA_ZEROED_PAGE_IMPLIES_EMPTY_AT: where no page is said to be below it, it keeps the invariant of a table, at any level
pub zeroed_inv_at : (σ : Setting) (m : ℕ → ℕ) (role : ℕ → Role) (l q : ℕ) → l < 4 → Allocated σ role q → Zero m q → ((i t : ℕ) → i < 512 → role t ≢ table l q i) → InvAt σ m role l q
zeroed_inv_at σ m role l q u home z childless = record {
  aligned = omega arith;
  allocated = home;
  layer_in_range = u;
  zeroed = λ i v e. z i v;
  obeys = λ i t g v e. no_table i t g v e;
  flags = λ i t g v e. no_table i t g v e;
  matches = λ i t v. (λ k. no_table i t k.0 v k.1, λ e. absurd (childless i t v e));
  disjoint = λ k i j s t g g' n v v' d e e'. no_table i s g v e;
  not_itself = λ k i s g n v e. no_table i s g v e;
  regions = λ p k. subst (Allocated σ role) (sym (zeroed_alone z k)) home;
  hp_pat = λ i f g v e n. no_page i f g v e;
  mb0 = λ i v. subst (MustBeZero l) (sym (z i v)) (zero_entry_facts l 0 (omega arith) (omega arith)).1;
  large = λ i f g v e n. no_page i f g v e;
}
  where
    nothing : (i : ℕ) → i < 512 → entry_at m l q i ≡ Nothing
    nothing i v = ap (says l) (z i v) ∙ says_absent l 0 (omega arith)

    no_table : {A : Type 0} (i t : ℕ) (g : Rights) → i < 512 → entry_at m l q i ≡ Table t g → A
    no_table i t g v e = let k : ◌≡◌ {A = Entry} Nothing (Table t g) = sym (nothing i v) ∙ e in let x : ◌≡◌ {A = ℕ} 0 1 = cc in absurd (omega arith)

    no_page : {A : Type 0} (i f : ℕ) (g : Rights) → i < 512 → entry_at m l q i ≡ Page f g → A
    no_page i f g v e = let k : ◌≡◌ {A = Entry} Nothing (Page f g) = sym (nothing i v) ∙ e in let x : ◌≡◌ {A = ℕ} 0 1 = cc in absurd (omega arith)
