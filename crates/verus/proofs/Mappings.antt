-- A range of addresses that changes its meaning, as a change of the map from bases; and the test of overlap.
use Prim.Native.Nat.{ℕ, ◌+◌, ◌<◌, ◌≤◌}
use mathlib.Core.Bool.{cond}
use mathlib.Core.Logic.{◌↔◌, ◌⊎◌, inl, inr, ◌≢◌}
use mathlib.Core.Option.{none, some}
use mathlib.Core.Path.{◌≡◌, refl, sym, ap, ◌∙◌}
use native.Mathlib.Decide.{ℕ_discrete, dec_lt, dec_le}
use native.Mathlib.Omega.{arith}
use borrow.Author.Tests.{eq-eqb, ne_eqb}
use lib.Dec.{eqb}
use Rattle.entry.specs.Entry.{table_of}
use Rattle.entry.specs.declared.Rights.{Rights}
use Rattle.walk.specs.declared.Found.{Found}
use Rattle.walk.specs.declared.Found.TheVariants.{Page, Nothing, Outside}
use Rattle.tables.specs.Roles.{Setting}
use Rattle.tables.specs.Meaning.{meaning}
use Rattle.tables.specs.Overlap.{MappedIn}
use Rattle.verus.specs.Regions.{PTE, pte_of}
use Rattle.verus.specs.Mappings.{CandidateOverlaps, inserted, removed}
use Rattle.verus.specs.Walks.{interp}
use Rattle.verus.proofs.Walks.{at_base, meaning_is_interp, Based, interp_is_meaning}

-- an address of the range
abbrev pub In : ℕ → ℕ → ℕ → Type 0
In base size va = (base ≤ va) × (va < base + size)

-- it lies in the range or it does not
in_or_not : (base size va : ℕ) → In base size va ⊎ (In base size va → ⊥)
in_or_not base size va = go (dec_le base va) (dec_lt va (base + size))
  where
    go : Dec (base ≤ va) → Dec (va < base + size) → In base size va ⊎ (In base size va → ⊥)
    go (yes u) (yes v) = inl (u, v)
    go (no u) v = inr (λ i. u i.0)
    go (yes u) (no v) = inr (λ i. v i.1)

-- no base but the first of a range whose addresses all have the page that begins there
pub inner_none : (base size frame va : ℕ) (r : Rights) → va ≢ base → at_base va (Page base size frame r) ≡ none
unfolding at_base
inner_none base size frame va r n = rw (ne_eqb base va (λ e. n (sym e)))

pub first_some : (base size frame : ℕ) (r : Rights) → at_base base (Page base size frame r) ≡ some (pte_of size frame r)
unfolding at_base
first_some base size frame r = rw (eq-eqb base base refl)

-- what addresses mean before (M) and after (N): every address of the range has o, and every other what it had
module _ (M N : ℕ → Found) (base size : ℕ) (o : Found) (wide : 0 < size) (inside : (va : ℕ) → In base size va → N va ≡ o)
    (beside : (va : ℕ) → (In base size va → ⊥) → N va ≡ M va) (inner : (va : ℕ) → In base size va → va ≢ base → at_base va (M va) ≡ none) where
  -- as a map from bases: the page is inserted
  pub turned_inserts : (frame : ℕ) (r : Rights) → o ≡ Page base size frame r → (va : ℕ)
      → at_base va (N va) ≡ inserted (λ b. at_base b (M b)) base (pte_of size frame r) va
  unfolding inserted
  turned_inserts frame r is va = go (ℕ_discrete va base) (in_or_not base size va)
    where
      go : Dec (va ≡ base) → In base size va ⊎ (In base size va → ⊥) → at_base va (N va) ≡ cond (eqb va base) (some (pte_of size frame r)) (at_base va (M va))
      go (yes e) (inl i) = rw (eq-eqb va base e, inside va i, is, e) (first_some base size frame r)
      go (yes e) (inr n) = absurd (n (omega arith, omega arith))
      go (no e) (inl i) = rw (ne_eqb va base e, inside va i, is) (inner_none base size frame va r e ∙ sym (inner va i e))
      go (no e) (inr n) = rw (ne_eqb va base e) (ap (at_base va) (beside va n))

  -- or removed
  pub turned_removes : o ≡ Nothing → (va : ℕ) → at_base va (N va) ≡ removed (λ b. at_base b (M b)) base va
  unfolding removed
  turned_removes is va = go (ℕ_discrete va base) (in_or_not base size va)
    where
      empty : at_base va Nothing ≡ none
      empty = unfold at_base in refl

      go : Dec (va ≡ base) → In base size va ⊎ (In base size va → ⊥) → at_base va (N va) ≡ cond (eqb va base) none (at_base va (M va))
      go (yes e) (inl i) = rw (eq-eqb va base e) (ap (at_base va) (inside va i ∙ is) ∙ empty)
      go (yes e) (inr n) = absurd (n (omega arith, omega arith))
      go (no e) (inl i) = rw (ne_eqb va base e) (ap (at_base va) (inside va i ∙ is) ∙ empty ∙ sym (inner va i e))
      go (no e) (inr n) = rw (ne_eqb va base e) (ap (at_base va) (beside va n))

-- THEIR TEST OF OVERLAP IS OURS: a base whose range overlaps the candidate's is there exactly where some address of the candidate's is mapped
module _ (σ : Setting) (m : ℕ → ℕ) (stays : (va : ℕ) → meaning σ m va ≢ Outside) (base : ℕ) (p : PTE) (wide : 0 < p.frame.size) where
  overlaps_mapped : CandidateOverlaps (interp m (table_of σ.cr3)) base p → MappedIn σ m base p.frame.size
  overlaps_mapped c = go c.overlap
    where
      k : Based σ.window m σ.cr3 stays c.key c.pte
      k = interp_is_meaning σ.window m σ.cr3 stays c.key c.pte c.there

      found : (va : ℕ) → base ≤ va → va < base + p.frame.size → c.key ≤ va → va < c.key + c.pte.frame.size → MappedIn σ m base p.frame.size
      found va u v x y = record {
        address = va;
        from = u;
        upto = v;
        start = c.key;
        long = c.pte.frame.size;
        frame = c.pte.frame.base;
        rights = k.rights;
        means = k.everywhere va x y;
      }

      go : ((base ≤ c.key) × ((base ≡ c.key) ⊎ (c.key < base + p.frame.size))) ⊎ ((c.key < base) × (base < c.key + c.pte.frame.size))
          → MappedIn σ m base p.frame.size
      go (inl (u, inl e)) = found base (omega arith) (omega (arith, wide)) (omega arith) (omega (arith, k.wide))
      go (inl (u, inr v)) = found c.key u v (omega arith) (omega (arith, k.wide))
      go (inr (u, v)) = found base (omega arith) (omega (arith, wide)) (omega arith) v

  mapped_overlaps : MappedIn σ m base p.frame.size → CandidateOverlaps (interp m (table_of σ.cr3)) base p
  mapped_overlaps w =
      let k = meaning_is_interp σ.window m σ.cr3 stays w.address w.start w.long w.frame w.rights w.means in
      record { key = w.start; pte = pte_of w.long w.frame w.rights; there = k.0; overlap = unfold pte_of in meets k.1 k.2 (dec_le base w.start) }
    where
      meets : w.start ≤ w.address → w.address < w.start + w.long → Dec (base ≤ w.start)
          → ((base ≤ w.start) × ((base ≡ w.start) ⊎ (w.start < base + p.frame.size))) ⊎ ((w.start < base) × (base < w.start + w.long))
      meets x y (yes u) = inl (u, inr (omega (arith, w.upto)))
      meets x y (no u) = inr (omega arith, omega (arith, w.from))

  pub overlaps_same : CandidateOverlaps (interp m (table_of σ.cr3)) base p ↔ MappedIn σ m base p.frame.size
  overlaps_same = (overlaps_mapped, mapped_overlaps)
