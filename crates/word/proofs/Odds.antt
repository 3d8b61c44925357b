-- Odd entries in parts of a page: the entries before one and those behind it are all others.
use Rattle.std.proofs.Common.{◌≡◌, ℕ, zero, suc, ◌+◌, ◌-◌, ◌*◌, ◌/◌, ◌%◌, ◌<◌, ◌≤◌, max, Bool, true, false, cond, ◌||◌, eqb, sym, refl, ap, ◌∙◌, arith, eq-eqb, ne_eqb}
use mathlib.Core.Bool.{or-false, or_assoc, or_comm}
use Rattle.std.proofs.Common.{add_comm, add-one}
use Rattle.std.proofs.Math.Nat.{mul-suc, mul-le-mul_left}
use lib.Bits.{bit_or, or_step}
use Rattle.word.specs.Memory.{at}
use Rattle.word.specs.Scan.{odd, odd_of, other_of, besides_of}

-- a word of two is odd where one of them is
digit_or : (x r s : ℕ) → r < 2 → s < 2 → eqb ((x * 2 + max r s) % 2) 1 ≡ (eqb r 1 || eqb s 1)
digit_or x zero zero u v = let z : (x * 2 + 0) % 2 ≡ 0 = omega arith in rw z
digit_or x zero (suc zero) u v = let z : (x * 2 + 1) % 2 ≡ 1 = omega arith in rw z
digit_or x zero (suc (suc s)) u v = absurd (omega arith)
digit_or x (suc zero) zero u v = let z : (x * 2 + 1) % 2 ≡ 1 = omega arith in rw z
digit_or x (suc zero) (suc zero) u v = let z : (x * 2 + 1) % 2 ≡ 1 = omega arith in rw z
digit_or x (suc zero) (suc (suc s)) u v = absurd (omega arith)
digit_or x (suc (suc r)) s u v = absurd (omega arith)

pub odd_or : (a b : ℕ) → odd (bit_or a b) ≡ (odd a || odd b)
unfolding odd
odd_or a b = rw (or_step a b) (digit_or (bit_or (a / 2) (b / 2)) (a % 2) (b % 2) (omega arith) (omega arith))

pub odd_test : (w : ℕ) (r : Bool) → eqb (w % 2) 1 ≡ r → odd w ≡ r
unfolding odd
odd_test w r e = e

pub odd_zero : (w : ℕ) → w ≡ 0 → odd w ≡ false
unfolding odd
odd_zero w e = rw e

-- a block of n before the block `to` ends where that one begins, or before
pub block_ends : (n k to : ℕ) → k < to → n * k + n ≤ n * to
block_ends n k to u = let y : n * k + n ≡ n * (k + 1) = sym (rw (add-one k) (mul-suc n k)) in omega (arith, y, mul-le-mul_left {m = k + 1} {n = to} n (omega arith))

module _ (m : ℕ → ℕ) (p : ℕ) where
  pub odd_none : (k : ℕ) → odd_of m p k 0 ≡ false
  unfolding odd_of
  odd_none k = refl

  pub odd_one : (k : ℕ) → odd_of m p k 1 ≡ odd (m (at p k))
  unfolding odd_of
  odd_one k = or-false (odd (m (at p k)))

  -- a entries, and then b
  pub odd_join : (k a b : ℕ) → odd_of m p k (a + b) ≡ (odd_of m p k a || odd_of m p (k + a) b)
  unfolding odd_of
  odd_join k zero b =
      let z : 0 + b ≡ b = omega arith in
      let y : k + 0 ≡ k = omega arith in
      rw (z, y)
  odd_join k (suc a) b =
      let z : suc a + b ≡ suc (a + b) = omega arith in
      let y : suc k + a ≡ k + suc a = omega arith in
      rw z (ap (◌||◌ (odd (m (at p k)))) (rw y at (odd_join (suc k) a b)) ∙ sym (or_assoc (odd (m (at p k))) (odd_of m p (suc k) a) (odd_of m p (k + suc a) b)))

  -- the next n of the entries up to one
  pub odd_part : (k to n : ℕ) → n ≤ to - k → odd_of m p k (to - k) ≡ (odd_of m p k n || odd_of m p (k + n) (to - (k + n)))
  odd_part k to n u = let z : to - k ≡ n + (to - (k + n)) = omega arith in rw z (odd_join k n (to - (k + n)))

  -- the next of the blocks of n up to one
  pub odd_blocks : (n k to : ℕ) → k < to → odd_of m p (n * k) (n * (to - k)) ≡ (odd_of m p (n * k) n || odd_of m p (n * (k + 1)) (n * (to - (k + 1))))
  odd_blocks n k to u =
      let x : to - k ≡ suc (to - (k + 1)) = omega arith in
      let z : n * (to - k) ≡ n + n * (to - (k + 1)) = rw x (mul-suc n (to - (k + 1)) ∙ add_comm (n * (to - (k + 1))) n) in
      let y : n * k + n ≡ n * (k + 1) = sym (rw (add-one k) (mul-suc n k)) in
      rw z (rw y at (odd_join (n * k) n (n * (to - (k + 1)))))

  -- blocks of one
  pub odd_by_one : (k n : ℕ) → odd_of m p (1 * k) (1 * n) ≡ odd_of m p k n
  odd_by_one k n = let y : 1 * k ≡ k = omega arith in let z : 1 * n ≡ n = omega arith in rw (y, z)

  -- and one more entry
  pub odd_last : (k n : ℕ) → odd_of m p k (n + 1) ≡ (odd_of m p k n || odd (m (at p (k + n))))
  odd_last k n = odd_join k n 1 ∙ ap (◌||◌ (odd_of m p k n)) (odd_one (k + n))

  module _ (h : ℕ → Bool) (i : ℕ) where
    other_outside : (k : ℕ) → h p ≡ false → other_of h m p i k ≡ false
    unfolding other_of
    other_outside k e = rw e (none_of (eqb k i))
      where
        none_of : (b : Bool) → cond b false false ≡ false
        none_of true = refl
        none_of false = refl

    pub besides_outside : (n : ℕ) → h p ≡ false → besides_of h m p i n ≡ false
    unfolding besides_of
    besides_outside zero e = refl
    besides_outside (suc n) e = rw (other_outside n e) (besides_outside n e)

    module _ (inside : h p ≡ true) where
      other_of_lem : (k : ℕ) → (k ≡ i → ⊥) → other_of h m p i k ≡ odd (m (at p k))
      unfolding other_of
      other_of_lem k n = simp (ne_eqb k i n, inside)

      itself : other_of h m p i i ≡ false
      unfolding other_of
      itself = simp (eq-eqb i i refl)

      -- one entry more at the end
      odd_more : (k n : ℕ) → odd_of m p k (suc n) ≡ (odd_of m p k n || odd (m (at p (k + n))))
      odd_more k n = let z : suc n ≡ n + 1 = omega arith in rw z (odd_join k n 1 ∙ ap (◌||◌ (odd_of m p k n)) (odd_one (k + n)))

      pub besides_before : (n : ℕ) → n ≤ i → besides_of h m p i n ≡ odd_of m p 0 n
      unfolding besides_of
      besides_before zero u = sym (odd_none 0)
      besides_before (suc n) u =
          let z : 0 + n ≡ n = omega arith in
          rw (other_of_lem n (λ e. omega arith), besides_before n (omega arith)) (or_comm (odd (m (at p n))) (odd_of m p 0 n) ∙ sym (rw z at (odd_more 0 n)))

      besides_behind : (d : ℕ) → besides_of h m p i (suc i + d) ≡ (odd_of m p 0 i || odd_of m p (suc i) d)
      unfolding besides_of
      besides_behind zero =
          let z : suc i + 0 ≡ suc i = omega arith in
          rw (z, itself, odd_none (suc i), or-false (odd_of m p 0 i)) (besides_before i (omega arith))
      besides_behind (suc d) =
          let z : suc i + suc d ≡ suc (suc i + d) = omega arith in
          let b : Bool = odd (m (at p (suc i + d))) in
          rw (z, other_of_lem (suc i + d) (λ e. omega arith), besides_behind d, odd_more (suc i) d)
          (or_comm b (odd_of m p 0 i || odd_of m p (suc i) d) ∙ or_assoc (odd_of m p 0 i) (odd_of m p (suc i) d) b)

      besides_split : i < 512 → besides_of h m p i 512 ≡ (odd_of m p 0 i || odd_of m p (i + 1) (512 - (i + 1)))
      besides_split u =
          let z : 512 ≡ i + 1 + (512 - (i + 1)) = omega arith in
          let y : suc i ≡ i + 1 = omega arith in
          ap (besides_of h m p i) z ∙ rw y at (besides_behind (512 - (i + 1)))

      -- by eights: those before the eight that has entry i, what that one has before i and behind it, and the eights behind it
      pub besides_eights : i < 512 → (a b c d : Bool) → a ≡ odd_of m p (8 * 0) (8 * (i / 8 - 0)) → b ≡ odd_of m p (8 * (i / 8)) (i - 8 * (i / 8))
          → c ≡ odd_of m p (i + 1) (8 * (i / 8) + 8 - (i + 1)) → d ≡ odd_of m p (8 * (i / 8 + 1)) (8 * (64 - (i / 8 + 1)))
          → besides_of h m p i 512 ≡ (a || (b || (c || d)))
      besides_eights u a b c d ea eb ec ed =
          let z : i ≡ 8 * (i / 8 - 0) + (i - 8 * (i / 8)) = omega arith in
          let y : 0 + 8 * (i / 8 - 0) ≡ 8 * (i / 8) = omega arith in
          let x : 512 - (i + 1) ≡ 8 * (i / 8) + 8 - (i + 1) + 8 * (64 - (i / 8 + 1)) = omega arith in
          let w : i + 1 + (8 * (i / 8) + 8 - (i + 1)) ≡ 8 * (i / 8 + 1) = omega arith in
          let before : odd_of m p 0 i ≡ (a || b) = ap (odd_of m p 0) z ∙ (odd_join 0 (8 * (i / 8 - 0)) (i - 8 * (i / 8)) ∙ rw (ea, eb, y)) in
          let behind : odd_of m p (i + 1) (512 - (i + 1)) ≡ (c || d) = rw x (odd_join (i + 1) (8 * (i / 8) + 8 - (i + 1)) (8 * (64 - (i / 8 + 1))) ∙ rw (ec, ed, w)) in
          besides_split u ∙ (rw (before, behind) (or_assoc a b (c || d)))
