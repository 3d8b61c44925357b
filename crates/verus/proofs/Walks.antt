-- THE SOURCE'S WALK IS OURS, and its map from bases and our function of addresses are the same thing.
use Prim.Native.Nat.{ℕ, zero, suc, ◌+◌, ◌-◌, ◌/◌, ◌%◌, ◌^◌, ◌<◌, ◌≤◌}
use mathlib.Core.Bool.{Bool, true, false, cond}
use mathlib.Core.Logic.{◌≢◌}
use mathlib.Core.Option.{Option, none, some}
use mathlib.Core.Path.{◌≡◌, refl, sym, ap, ◌∙◌, subst}
use native.Mathlib.Omega.{arith}
use borrow.Author.Tests.{eq-eqb, eqb-true}
use lib.Dec.{eqb}
use Rattle.word.specs.Memory.{at}
use Rattle.entry.specs.Entry.{size_of, table_of, says, both, everything}
use Rattle.entry.specs.declared.Rights.{Rights}
use Rattle.entry.specs.declared.Entry.{Entry}
use Rattle.entry.specs.declared.Entry.TheVariants as entry
use Rattle.entry.proofs.Fields.{last_no_table}
use Rattle.walk.specs.Walk.{canonical, index_of, base_of, entry_of, entered, step_of, run, start, found_of, walk}
use Rattle.walk.specs.declared.Found.{Found}
use Rattle.walk.specs.declared.Found.TheVariants.{Page, Nothing, Outside, NoAddress}
use Rattle.walk.specs.declared.Place.TheVariants.{Going, Ended}
use Rattle.walk.proofs.Ranges.{page_covers, no_address_only}
use Rattle.walk.proofs.Steps.{run_ended}
use Rattle.tables.proofs.Meaning.{everything_both}
use Rattle.verus.specs.Regions.{PTE, from_bits, pte_of}
use Rattle.verus.specs.Walks.{WalkResult, Valid, invalid, layer0, layer1, layer2, layer3, pt_walk, based, interp}
use Rattle.entry.proofs.Parts.{root_no_page}
use Rattle.verus.proofs.Flags.{both_combine}

-- Their walk, which has no window --------------------------------------------------------------------------------------------------

-- what we find, as a result of theirs
abbrev pub result_of : ℕ → Found → WalkResult
result_of va (Page b s f r) = Valid b (pte_of s f r)
result_of va Nothing = invalid va
result_of va Outside = invalid va
result_of va NoAddress = invalid va

-- every page lies in the window
abbrev pub anywhere : ℕ → Bool
anywhere p = true

module _ (m : ℕ → ℕ) (va : ℕ) where
  -- what is found from the table t on, with n levels left
  abbrev pub from : ℕ → ℕ → Rights → WalkResult
  from n t r = result_of va (found_of (run anywhere m n va (Going t r)))

  abbrev pub word : ℕ → ℕ → Entry
  word n t = says n (m (at t (index_of n va)))

  module _ (n t : ℕ) (r : Rights) where
    pub from_nothing : word n t ≡ entry.Nothing → from (suc n) t r ≡ invalid va
    unfolding run step_of entered found_of
    from_nothing e = rw (e, run_ended anywhere m n va Nothing)

    pub from_page : (f : ℕ) (g : Rights) → word n t ≡ entry.Page f g → from (suc n) t r ≡ Valid (base_of n va) (pte_of (size_of n) f (both r g))
    unfolding run step_of entered found_of
    from_page f g e = rw (e, run_ended anywhere m n va (Page (base_of n va) (size_of n) f (both r g)))

    pub from_table : (s : ℕ) (g : Rights) → word n t ≡ entry.Table s g → from (suc n) t r ≡ from n s (both r g)
    unfolding run step_of entered
    from_table s g e = rw e

  at_layer3 : (t : ℕ) (r : Rights) → from 1 t r ≡ layer3 va (from_bits r) (says 0 (m (at t (va / 2 ^ 12 % 512))))
  at_layer3 t r = go (word 0 t) refl
    where
      index : index_of 0 va ≡ va / 2 ^ 12 % 512
      index = unfold index_of size_of in refl

      base : base_of 0 va ≡ va - va % 4096
      base = unfold base_of size_of in omega arith

      go : (e : Entry) → word 0 t ≡ e → from 1 t r ≡ layer3 va (from_bits r) (says 0 (m (at t (va / 2 ^ 12 % 512))))
      go entry.Nothing e = from_nothing 0 t r e ∙ (rw (← index, e) (unfold layer3 in refl))
      go (entry.Page f g) e = from_page 0 t r f g e ∙ (rw (← index, e, base) (unfold layer3 pte_of size_of in rw (both_combine r g)))
      go (entry.Table s g) e = absurd (last_no_table _ s g e)

  at_layer2 : (t : ℕ) (r : Rights) → from 2 t r ≡ layer2 m va (from_bits r) (says 1 (m (at t (va / 2 ^ 21 % 512))))
  at_layer2 t r = go (word 1 t) refl
    where
      index : index_of 1 va ≡ va / 2 ^ 21 % 512
      index = unfold index_of size_of in refl

      base : base_of 1 va ≡ va - va % 2097152
      base = unfold base_of size_of in omega arith

      go : (e : Entry) → word 1 t ≡ e → from 2 t r ≡ layer2 m va (from_bits r) (says 1 (m (at t (va / 2 ^ 21 % 512))))
      go entry.Nothing e = from_nothing 1 t r e ∙ (rw (← index, e) (unfold layer2 in refl))
      go (entry.Page f g) e = from_page 1 t r f g e ∙ (rw (← index, e, base) (unfold layer2 pte_of size_of in rw (both_combine r g)))
      go (entry.Table s g) e = from_table 1 t r s g e ∙ at_layer3 s (both r g) ∙ (rw (← index, e) (unfold layer2 in rw (both_combine r g)))

  at_layer1 : (t : ℕ) (r : Rights) → from 3 t r ≡ layer1 m va (from_bits r) (says 2 (m (at t (va / 2 ^ 30 % 512))))
  at_layer1 t r = go (word 2 t) refl
    where
      index : index_of 2 va ≡ va / 2 ^ 30 % 512
      index = unfold index_of size_of in refl

      base : base_of 2 va ≡ va - va % 1073741824
      base = unfold base_of size_of in omega arith

      go : (e : Entry) → word 2 t ≡ e → from 3 t r ≡ layer1 m va (from_bits r) (says 2 (m (at t (va / 2 ^ 30 % 512))))
      go entry.Nothing e = from_nothing 2 t r e ∙ (rw (← index, e) (unfold layer1 in refl))
      go (entry.Page f g) e = from_page 2 t r f g e ∙ (rw (← index, e, base) (unfold layer1 pte_of size_of in rw (both_combine r g)))
      go (entry.Table s g) e = from_table 2 t r s g e ∙ at_layer2 s (both r g) ∙ (rw (← index, e) (unfold layer1 in rw (both_combine r g)))

  pub at_layer0 : (t : ℕ) → from 4 t everything ≡ pt_walk m t va
  unfolding pt_walk
  at_layer0 t = go (word 3 t) refl
    where
      index : index_of 3 va ≡ va / 2 ^ 39 % 512
      index = unfold index_of size_of in refl

      go : (e : Entry) → word 3 t ≡ e → from 4 t everything ≡ layer0 m va (says 3 (m (at t (va / 2 ^ 39 % 512))))
      go entry.Nothing e = from_nothing 3 t everything e ∙ (rw (← index, e) (unfold layer0 in refl))
      go (entry.Page f g) e = absurd (root_no_page _ f g e)
      go (entry.Table s g) e = from_table 3 t everything s g e ∙ at_layer1 s (both everything g) ∙ (rw (← index, e, everything_both g) (unfold layer0 in refl))

-- THEIR WALK IS OURS, of every address, where every page lies in the window
pub pt_walk_is_walk : (m : ℕ → ℕ) (root va : ℕ) → canonical va ≡ true → pt_walk m (table_of root) va ≡ result_of va (walk anywhere m root va)
unfolding walk start
pt_walk_is_walk m root va u = rw u (sym (at_layer0 m va (table_of root)))

-- The window ---------------------------------------------------------------------------------------------------------------------------

module _ (h : ℕ → Bool) (m : ℕ → ℕ) (va : ℕ) where
  -- a walk that does not leave the window finds what it would find without one
  inside_from : (n t : ℕ) (r : Rights) → found_of (run h m n va (Going t r)) ≢ Outside
      → found_of (run anywhere m n va (Going t r)) ≡ found_of (run h m n va (Going t r))
  unfolding run step_of entered
  inside_from zero t r o = refl
  inside_from (suc n) t r o = go (h t) (says n (m (entry_of n va t))) refl refl (λ s g. inside_from n s g) o
    where
      go : (x : Bool) (e : Entry) → h t ≡ x → says n (m (entry_of n va t)) ≡ e
          → ((s : ℕ) (g : Rights) → found_of (run h m n va (Going s g)) ≢ Outside → found_of (run anywhere m n va (Going s g)) ≡ found_of (run h m n va (Going s g)))
          → found_of (run h m n va (cond (h t) (entered n va r (says n (m (entry_of n va t)))) (Ended Outside))) ≢ Outside
          → found_of (run anywhere m n va (entered n va r (says n (m (entry_of n va t)))))
          ≡ found_of (run h m n va (cond (h t) (entered n va r (says n (m (entry_of n va t)))) (Ended Outside)))
      go false e hx ew ih o = absurd (o (rw hx (ap found_of (run_ended h m n va Outside) ∙ (unfold found_of in refl))))
      go true entry.Nothing hx ew ih o = rw (hx, ew, run_ended h m n va Nothing, run_ended anywhere m n va Nothing)
      go true (entry.Page f g) hx ew ih o =
          rw (hx, ew, run_ended h m n va (Page (base_of n va) (size_of n) f (both r g)), run_ended anywhere m n va (Page (base_of n va) (size_of n) f (both r g)))
      go true (entry.Table s g) hx ew ih o = rw (hx, ew) (ih s (both r g) (rw (hx, ew) at o))

  pub inside_walk : (root : ℕ) → walk h m root va ≢ Outside → walk anywhere m root va ≡ walk h m root va
  unfolding walk start
  inside_walk root o = go (canonical va) o
    where
      go : (b : Bool) → found_of (run h m 4 va (cond b (Going (table_of root) everything) (Ended NoAddress))) ≢ Outside
          → found_of (run anywhere m 4 va (cond b (Going (table_of root) everything) (Ended NoAddress)))
          ≡ found_of (run h m 4 va (cond b (Going (table_of root) everything) (Ended NoAddress)))
      go true k = inside_from 4 (table_of root) everything k
      go false k = ap found_of (run_ended anywhere m 4 va NoAddress ∙ sym (run_ended h m 4 va NoAddress))

-- The same thing ---------------------------------------------------------------------------------------------------------------------

-- a page whose base the address is, as theirs
unfoldable pub at_base : ℕ → Found → Option PTE
at_base va (Page b s f r) = cond (eqb b va) (some (pte_of s f r)) none
at_base va Nothing = none
at_base va Outside = none
at_base va NoAddress = none

based_found : (va : ℕ) (o : Found) → based va (result_of va o) ≡ at_base va o
unfolding based at_base
based_found va (Page b s f r) = refl
based_found va Nothing = refl
based_found va Outside = refl
based_found va NoAddress = refl

module _ (h : ℕ → Bool) (m : ℕ → ℕ) (root : ℕ) (stays : (va : ℕ) → walk h m root va ≢ Outside) where
  -- their map, by what we find
  pub interp_found : (va : ℕ) → interp m (table_of root) va ≡ at_base va (walk h m root va)
  unfolding interp
  interp_found va = go (canonical va) refl
    where
      go : (b : Bool) → canonical va ≡ b → cond b (based va (pt_walk m (table_of root) va)) none ≡ at_base va (walk h m root va)
      go true u = ap (based va) (pt_walk_is_walk m root va u) ∙ based_found va (walk anywhere m root va) ∙ ap (at_base va) (inside_walk h m va root (stays va))
      go false u = sym (ap (at_base va) ((no_address_only h m root va).1 u) ∙ (unfold at_base in refl))

  -- WHAT AN ADDRESS MEANS IS IN THEIR MAP, at its page's base, and the address lies in that page
  pub meaning_is_interp : (va b s f : ℕ) (r : Rights) → walk h m root va ≡ Page b s f r → (interp m (table_of root) b ≡ some (pte_of s f r)) × (b ≤ va) × (va < b + s)
  meaning_is_interp va b s f r e =
      let k = page_covers h m root va b s f r e in
      let here : walk h m root b ≡ Page b s f r = k.everywhere b (omega arith) (omega (arith, k.begins, k.reaches)) in
      (interp_found b ∙ ap (at_base b) here ∙ (unfold at_base in rw (eq-eqb b b refl)), k.begins, k.reaches)

  -- what a base of their map is, as we find it
  pub record Based (b : ℕ) (p : PTE) : Type 0 where
    pub rights : Rights
    pub flags : from_bits rights ≡ p.flags
    pub wide : 0 < p.frame.size
    pub everywhere : (va : ℕ) → b ≤ va → va < b + p.frame.size → walk h m root va ≡ Page b p.frame.size p.frame.base rights

  -- AND WHAT IS IN THEIR MAP IS THE MEANING of every address of its range
  pub interp_is_meaning : (b : ℕ) (p : PTE) → interp m (table_of root) b ≡ some p → Based b p
  unfolding at_base pte_of
  interp_is_meaning b p e = go (walk h m root b) refl (sym (interp_found b) ∙ e)
    where
      go : (o : Found) → walk h m root b ≡ o → at_base b o ≡ some p → Based b p
      go (Page c s f r) k x = at (eqb c b) refl x
        where
          at : (t : Bool) → eqb c b ≡ t → cond t (some (pte_of s f r)) none ≡ some p → Based b p
          at true eq y =
              let same : c ≡ b = eqb-true c b eq in
              let pte : pte_of s f r ≡ p = cc in
              let cover = page_covers h m root b c s f r k in
              subst (Based b) pte (record { rights = r; flags = refl; wide = omega (arith, cover.begins, cover.reaches); everywhere = λ va u v. rw (← same) (cover.everywhere va (omega arith) (omega arith)) })
          at false eq y = let z : ◌≡◌ {A = ℕ} 0 1 = cc in absurd (omega arith)
      go Nothing k x = let z : ◌≡◌ {A = ℕ} 0 1 = cc in absurd (omega arith)
      go Outside k x = let z : ◌≡◌ {A = ℕ} 0 1 = cc in absurd (omega arith)
      go NoAddress k x = let z : ◌≡◌ {A = ℕ} 0 1 = cc in absurd (omega arith)
