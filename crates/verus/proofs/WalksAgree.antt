-- LEMMA_PT_WALK_AGREES_IN_FRAME, for any memory and any numbers: every address of a page's range is walked as its base is.
use Prim.Native.Nat.{ℕ, ◌+◌, ◌-◌, ◌/◌, ◌%◌, ◌^◌, ◌<◌, ◌≤◌}
use mathlib.Core.Path.{◌≡◌, sym, ap, ◌∙◌}
use native.Mathlib.Omega.{arith}
use Rattle.word.specs.Memory.{at}
use Rattle.entry.specs.Entry.{says}
use Rattle.entry.specs.declared.Entry.{Entry}
use Rattle.entry.specs.declared.Entry.TheVariants.{Nothing, Page, Table}
use Rattle.verus.specs.Regions.{Flags, PTE, from_bits, combine}
use Rattle.verus.specs.Walks.{Valid, invalid, valid, layer0, layer1, layer2, layer3, pt_walk}

module _ (m : ℕ → ℕ) (a b : ℕ) (p : PTE) (low : a ≤ b) (high : b < a + p.frame.size) where
  never : {A : Type 0} → invalid a ≡ Valid a p → A
  never k = let z : ◌≡◌ {A = ℕ} 0 1 = cc in absurd (omega arith)

  -- a page of size s that begins at a
  begins : (s f : ℕ) (fl : Flags) → valid a s f fl ≡ Valid a p → (a - a % s ≡ a) × (p.frame.size ≡ s) × (p ≡ record { frame = record { base = f; size = s }; flags = fl })
  begins s f fl e =
      let base : a - a % s ≡ a = cc in
      let same : record { frame = record { base = f; size = s }; flags = fl } ≡ p = cc in
      (base, ap (λ (y : PTE). y.frame.size) (sym same), sym same)

  at3 : (fl : Flags) (x : Entry) → layer3 a fl x ≡ Valid a p → (layer3 b fl x ≡ Valid a p) × (b / 4096 ≡ a / 4096)
  unfolding layer3
  at3 fl Nothing e = never e
  at3 fl (Table t g) e = never e
  at3 fl (Page f g) e =
      let k = begins 4096 f (combine fl (from_bits g)) e in
      let here : b - b % 4096 ≡ a = omega (arith, k.0, k.1) in
      (ap (λ y. Valid y (record { frame = record { base = f; size = 4096 }; flags = combine fl (from_bits g) })) here ∙ ap (Valid a) (sym k.2), omega (arith, k.0, k.1))

  at2 : (fl : Flags) (x : Entry) → layer2 m a fl x ≡ Valid a p → (layer2 m b fl x ≡ Valid a p) × (b / 2097152 ≡ a / 2097152)
  unfolding layer2
  at2 fl Nothing e = never e
  at2 fl (Page f g) e =
      let k = begins 2097152 f (combine fl (from_bits g)) e in
      let here : b - b % 2097152 ≡ a = omega (arith, k.0, k.1) in
      (ap (λ y. Valid y (record { frame = record { base = f; size = 2097152 }; flags = combine fl (from_bits g) })) here ∙ ap (Valid a) (sym k.2), omega (arith, k.0, k.1))
  at2 fl (Table t g) e =
      let k = at3 (combine fl (from_bits g)) (says 0 (m (at t (a / 2 ^ 12 % 512)))) e in
      let index : b / 2 ^ 12 % 512 ≡ a / 2 ^ 12 % 512 = omega (arith, k.1) in
      (ap (λ i. layer3 b (combine fl (from_bits g)) (says 0 (m (at t i)))) index ∙ k.0, omega (arith, k.1))

  at1 : (fl : Flags) (x : Entry) → layer1 m a fl x ≡ Valid a p → (layer1 m b fl x ≡ Valid a p) × (b / 1073741824 ≡ a / 1073741824)
  unfolding layer1
  at1 fl Nothing e = never e
  at1 fl (Page f g) e =
      let k = begins 1073741824 f (combine fl (from_bits g)) e in
      let here : b - b % 1073741824 ≡ a = omega (arith, k.0, k.1) in
      (ap (λ y. Valid y (record { frame = record { base = f; size = 1073741824 }; flags = combine fl (from_bits g) })) here ∙ ap (Valid a) (sym k.2), omega (arith, k.0, k.1))
  at1 fl (Table t g) e =
      let k = at2 (combine fl (from_bits g)) (says 1 (m (at t (a / 2 ^ 21 % 512)))) e in
      let index : b / 2 ^ 21 % 512 ≡ a / 2 ^ 21 % 512 = omega (arith, k.1) in
      (ap (λ i. layer2 m b (combine fl (from_bits g)) (says 1 (m (at t i)))) index ∙ k.0, omega (arith, k.1))

  at0 : (x : Entry) → layer0 m a x ≡ Valid a p → (layer0 m b x ≡ Valid a p) × (b / 1073741824 ≡ a / 1073741824)
  unfolding layer0
  at0 Nothing e = never e
  at0 (Page f g) e = never e
  at0 (Table t g) e =
      let k = at1 (from_bits g) (says 2 (m (at t (a / 2 ^ 30 % 512)))) e in
      let index : b / 2 ^ 30 % 512 ≡ a / 2 ^ 30 % 512 = omega (arith, k.1) in
      (ap (λ i. layer1 m b (from_bits g) (says 2 (m (at t i)))) index ∙ k.0, k.1)

  pub agrees_in_frame : (pml4 : ℕ) → pt_walk m pml4 a ≡ Valid a p → pt_walk m pml4 b ≡ pt_walk m pml4 a
  unfolding pt_walk
  agrees_in_frame pml4 e =
      let k = at0 (says 3 (m (at pml4 (a / 2 ^ 39 % 512)))) e in
      let index : b / 2 ^ 39 % 512 ≡ a / 2 ^ 39 % 512 = omega (arith, k.1) in
      ap (λ i. layer0 m b (says 3 (m (at pml4 i)))) index ∙ k.0 ∙ sym e
