-- FOR WHICH ADDRESSES THE SOURCE'S MAP IS OURS: below 2 ^ 47 as it stands; from there to 2 ^ 48, which are no addresses of the machine, it is ours at the
-- address that the number means, with bit 47 extended. Beyond, the source has none.
use Prim.Native.Nat.{ℕ, ◌+◌, ◌-◌, ◌/◌, ◌%◌, ◌^◌, ◌<◌, ◌≤◌}
use mathlib.Core.Bool.{true, false, cond}
use mathlib.Core.Logic.{inl, inr}
use mathlib.Core.Option.{Option, none, some}
use mathlib.Core.Path.{◌≡◌, refl, sym, ap, ◌∙◌}
use native.Mathlib.Decide.{ℕ_discrete, dec_lt}
use native.Mathlib.Omega.{arith}
use borrow.Author.Tests.{lt-ltb, le-ltb, eq-eqb, ne_eqb}
use lib.Dec.{eqb}
use Rattle.word.specs.Memory.{at}
use Rattle.entry.specs.Entry.{says}
use Rattle.entry.specs.declared.Entry.{Entry}
use Rattle.entry.specs.declared.Entry.TheVariants.{Nothing, Page, Table}
use Rattle.walk.specs.Walk.{canonical}
use Rattle.walk.proofs.Addresses.{Halves, halves, in_lower, in_upper}
use Rattle.verus.specs.Regions.{Flags, PTE, from_bits, combine}
use Rattle.verus.specs.Mappings.{SameMap, inserted, removed, max_base}
use Rattle.verus.specs.Walks.{valid, layer0, layer1, layer2, layer3, pt_walk, based, view, interp}

-- BELOW 2 ^ 47
pub view_below : (m : ℕ → ℕ) (pml4 va : ℕ) → va < 2 ^ 47 → view m pml4 va ≡ interp m pml4 va
unfolding view interp
view_below m pml4 va u = rw (lt-ltb va max_base (omega arith), in_lower va u)

-- FROM 2 ^ 48 ON
pub view_beyond : (m : ℕ → ℕ) (pml4 va : ℕ) → 2 ^ 48 ≤ va → view m pml4 va ≡ none
unfolding view
view_beyond m pml4 va u = rw (le-ltb va max_base u)

module _ (m : ℕ → ℕ) (a : ℕ) (lo : 2 ^ 47 ≤ a) (hi : a < 2 ^ 48) where
  -- the address that a means
  abbrev b : ℕ
  b = a + (2 ^ 64 - 2 ^ 48)

  page : (s f : ℕ) (fl : Flags) → b % s ≡ a % s → based b (valid b s f fl) ≡ based a (valid a s f fl)
  unfolding based
  page s f fl e = go (ℕ_discrete (a % s) 0)
    where
      there : Option PTE
      there = some (record { frame = record { base = f; size = s }; flags = fl })

      go : Dec (a % s ≡ 0) → cond (eqb (b - b % s) b) there none ≡ cond (eqb (a - a % s) a) there none
      go (yes d) = rw (eq-eqb (b - b % s) b (omega arith), eq-eqb (a - a % s) a (omega arith))
      go (no d) = rw (ne_eqb (b - b % s) b (λ x. d (omega (arith, x))), ne_eqb (a - a % s) a (λ x. d (omega (arith, x))))

  at3 : (fl : Flags) (x : Entry) → based b (layer3 b fl x) ≡ based a (layer3 a fl x)
  unfolding layer3 based
  at3 fl Nothing = refl
  at3 fl (Page f g) = page 4096 f (combine fl (from_bits g)) (omega arith)
  at3 fl (Table t g) = refl

  at2 : (fl : Flags) (x : Entry) → based b (layer2 m b fl x) ≡ based a (layer2 m a fl x)
  unfolding layer2 based
  at2 fl Nothing = refl
  at2 fl (Page f g) = page 2097152 f (combine fl (from_bits g)) (omega arith)
  at2 fl (Table t g) =
      let index : b / 2 ^ 12 % 512 ≡ a / 2 ^ 12 % 512 = omega arith in
      ap (λ i. based b (layer3 b (combine fl (from_bits g)) (says 0 (m (at t i))))) index ∙ at3 (combine fl (from_bits g)) (says 0 (m (at t (a / 2 ^ 12 % 512))))

  at1 : (fl : Flags) (x : Entry) → based b (layer1 m b fl x) ≡ based a (layer1 m a fl x)
  unfolding layer1 based
  at1 fl Nothing = refl
  at1 fl (Page f g) = page 1073741824 f (combine fl (from_bits g)) (omega arith)
  at1 fl (Table t g) =
      let index : b / 2 ^ 21 % 512 ≡ a / 2 ^ 21 % 512 = omega arith in
      ap (λ i. based b (layer2 m b (combine fl (from_bits g)) (says 1 (m (at t i))))) index ∙ at2 (combine fl (from_bits g)) (says 1 (m (at t (a / 2 ^ 21 % 512))))

  at0 : (x : Entry) → based b (layer0 m b x) ≡ based a (layer0 m a x)
  unfolding layer0 based
  at0 Nothing = refl
  at0 (Page f g) = refl
  at0 (Table t g) =
      let index : b / 2 ^ 30 % 512 ≡ a / 2 ^ 30 % 512 = omega arith in
      ap (λ i. based b (layer1 m b (from_bits g) (says 2 (m (at t i))))) index ∙ at1 (from_bits g) (says 2 (m (at t (a / 2 ^ 30 % 512))))

  -- BETWEEN
  pub view_extended : (pml4 : ℕ) → view m pml4 a ≡ interp m pml4 (a + (2 ^ 64 - 2 ^ 48))
  unfolding view interp pt_walk
  view_extended pml4 =
      let index : b / 2 ^ 39 % 512 ≡ a / 2 ^ 39 % 512 = omega arith in
      rw (lt-ltb a max_base hi, in_upper b (omega arith) (omega arith))
      (sym (ap (λ i. based b (layer0 m b (says 3 (m (at pml4 i))))) index ∙ at0 (says 3 (m (at pml4 (a / 2 ^ 39 % 512))))))

-- one test for another
test : (x y u v : ℕ) → (x ≡ y → u ≡ v) → (u ≡ v → x ≡ y) → eqb x y ≡ eqb u v
test x y u v f g = go (ℕ_discrete x y)
  where
    go : Dec (x ≡ y) → eqb x y ≡ eqb u v
    go (yes e) = eq-eqb x y e ∙ sym (eq-eqb u v (f e))
    go (no n) = ne_eqb x y n ∙ sym (ne_eqb u v (λ d. n (g d)))

module _ (m m' : ℕ → ℕ) (pml4 base : ℕ) (c : canonical base ≡ true) where
  -- WHAT CHANGES AT ONE BASE OF OURS changes in the source's own map at the base's low 48 bits, and nowhere else
  turned : (x : Option PTE) → ((b : ℕ) → interp m' pml4 b ≡ cond (eqb b base) x (interp m pml4 b))
      → (a : ℕ) → view m' pml4 a ≡ cond (eqb a (base % 2 ^ 48)) x (view m pml4 a)
  turned x s a = go (dec_lt a (2 ^ 47)) (dec_lt a (2 ^ 48)) (halves base c)
    where
      go : Dec (a < 2 ^ 47) → Dec (a < 2 ^ 48) → Halves base → view m' pml4 a ≡ cond (eqb a (base % 2 ^ 48)) x (view m pml4 a)
      go (yes u) w h =
          view_below m' pml4 a u ∙ s a ∙ ap (λ t. cond t x (interp m pml4 a)) (test a base a (base % 2 ^ 48) (λ e. omega arith) (λ e. back h e))
          ∙ ap (λ o. cond (eqb a (base % 2 ^ 48)) x o) (sym (view_below m pml4 a u))
        where
          back : Halves base → a ≡ base % 2 ^ 48 → a ≡ base
          back (inl l) e = omega arith
          back (inr l) e = absurd (omega (arith, l.0, l.1))
      go (no u) (yes w) h =
          let lo : 2 ^ 47 ≤ a = omega arith in
          view_extended m' a lo w pml4 ∙ s (a + (2 ^ 64 - 2 ^ 48))
          ∙ ap (λ t. cond t x (interp m pml4 (a + (2 ^ 64 - 2 ^ 48)))) (test (a + (2 ^ 64 - 2 ^ 48)) base a (base % 2 ^ 48) (λ e. omega arith) (λ e. back h e))
          ∙ ap (λ o. cond (eqb a (base % 2 ^ 48)) x o) (sym (view_extended m a lo w pml4))
        where
          back : Halves base → a ≡ base % 2 ^ 48 → a + (2 ^ 64 - 2 ^ 48) ≡ base
          back (inl l) e = absurd (omega arith)
          back (inr l) e = omega (arith, l.0, l.1)
      go (no u) (no w) h =
          let hi : 2 ^ 48 ≤ a = omega arith in
          let none_there : eqb a (base % 2 ^ 48) ≡ false = ne_eqb a (base % 2 ^ 48) (λ e. omega arith) in
          view_beyond m' pml4 a hi ∙ sym (ap (λ t. cond t x (view m pml4 a)) none_there ∙ view_beyond m pml4 a hi)

  -- MAP AND PROTECT, UNMAP, in the source's own map
  pub view_inserted : (p : PTE) → SameMap (interp m' pml4) (inserted (interp m pml4) base p) → SameMap (view m' pml4) (inserted (view m pml4) (base % 2 ^ 48) p)
  unfolding inserted
  view_inserted p s a = turned (some p) s a

  pub view_removed : SameMap (interp m' pml4) (removed (interp m pml4) base) → SameMap (view m' pml4) (removed (view m pml4) (base % 2 ^ 48))
  unfolding removed
  view_removed s a = turned none s a
