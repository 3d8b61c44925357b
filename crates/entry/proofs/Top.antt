-- At the root: bits 0 and 7 of a word by one test of the number before it.
use Rattle.std.proofs.Common.{◌≡◌, ℕ, ◌+◌, ◌*◌, ◌/◌, ◌%◌, ◌^◌, ◌<◌, ◌≤◌, sym, refl, ap, ◌∙◌, subst, arith}
use native.Mathlib.Decide.{dec_le}
use borrow.Author.Tests.{lt-leb}
use lib.Bits.{bit_and, and_block, and_mask}
use Rattle.entry.specs.Entry.{says, large_of, table_of, rights_of}
use Rattle.entry.specs.declared.Entry.TheVariants.{Nothing, Table}
use Rattle.entry.proofs.Levels.{bit_off, bit_on, present_above}

and_129 : (t : ℕ) → bit_and t 129 ≡ t / 128 % 2 * 128 + t % 2
and_129 t =
    let parts : t ≡ t / 128 * 2 ^ 7 + t % 128 = omega arith in
    let low : t % 128 % 2 ≡ t % 2 = omega arith in
    ap (λ (x : ℕ). bit_and x 129) parts
    ∙ and_block 7 (t / 128) 1 (t % 128) 1 (omega arith) (omega arith)
    ∙ rw (and_mask (t / 128) 1, and_mask (t % 128) 1, low) refl

-- the number behind an even one has its bits from 7 on
behind_even : (t : ℕ) → t % 2 ≡ 0 → (t + 1) / 128 ≡ t / 128
behind_even t e =
    let low : t % 128 % 2 ≡ t % 2 = omega arith in
    let room : t % 128 < 127 = omega (arith, low, e) in
    omega (arith, room)

-- t is the number before w, modulo 2 ^ 64
module _ (n w t : ℕ) (above : 2 < n) (small : w < 2 ^ 64) (low : t < 2 ^ 64) (before : (t + 1) % 2 ^ 64 ≡ w) where
  pub root_table : bit_and t 129 ≡ 0 → Table (table_of w) (rights_of w) ≡ says n w
  unfolding says
  root_table e =
      let k : t / 128 % 2 * 128 + t % 2 ≡ 0 = sym (and_129 t) ∙ e in
      let even : t % 2 ≡ 0 = omega (arith, k) in
      let is : t + 1 ≡ w = omega (arith, even) in
      let same : w / 128 ≡ t / 128 = subst (λ (x : ℕ). x / 128 ≡ t / 128) is (behind_even t even) in
      simp (bit_on 0 w (λ h. omega (arith, h, even, is)), present_above n w (λ z. omega (arith, z)), bit_off 7 w (subst (λ (x : ℕ). x % 2 ≡ 0) (sym same) (omega (arith, k))))

  pub root_nothing : (bit_and t 129 ≡ 0 → ⊥) → Nothing ≡ says n w
  unfolding says large_of
  root_nothing d = go (dec_le (w % 2) 0)
    where
      go : Dec (w % 2 ≤ 0) → Nothing ≡ says n w
      go (yes u) = simp (bit_off 0 w (omega (arith, u)))
      go (no u) =
          let k : t / 128 % 2 * 128 + t % 2 ≡ 0 → ⊥ = λ e. d (and_129 t ∙ e) in
          let is : t + 1 ≡ w = omega (arith, u) in
          let even : t % 2 ≡ 0 = omega (arith, u, is) in
          let same : w / 128 ≡ t / 128 = subst (λ (x : ℕ). x / 128 ≡ t / 128) is (behind_even t even) in
          let odd : t / 128 % 2 ≡ 0 → ⊥ = λ h. k (omega (arith, h, even)) in
          simp (bit_on 0 w (λ h. omega (arith, h, u)), present_above n w (λ z. omega (arith, z)), bit_on 7 w (λ h. odd (subst (λ (x : ℕ). x % 2 ≡ 0) same h)), lt-leb n 2 above)
