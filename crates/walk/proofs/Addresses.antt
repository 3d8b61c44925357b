-- What is an address: by its bits, at the edges, and that a page lies in one half.
use Rattle.std.proofs.Common.{◌≡◌, ℕ, zero, suc, ◌+◌, ◌-◌, ◌*◌, ◌/◌, ◌%◌, ◌^◌, ◌<◌, ◌≤◌, Bool, true, false, ◌&&◌, ◌||◌, ltb, leb, ◌⊎◌, ◌↔◌, sym, refl, ap, ◌∙◌, inl, inr, pow-suc, arith, pow-add, ltb-true, le-ltb, lt-ltb, le-leb, leb-true}
use native.Mathlib.Nat.{div-div-eq-div-mul}
use native.Mathlib.Decide.{ℕ_discrete}
use Rattle.word.proofs.Tests.{and_both}
use Rattle.entry.specs.Entry.{size_of}
use Rattle.walk.specs.Walk.{half, canonical, index_of, base_of}
use Rattle.walk.proofs.Digits.{agree_up}

-- the two halves in numbers
abbrev pub Halves : ℕ → Type 0
Halves va = (va < half) ⊎ ((2 ^ 64 - half ≤ va) × (va < 2 ^ 64))

pub halves : (va : ℕ) → canonical va ≡ true → Halves va
unfolding canonical
halves va e = go (ltb va half) refl e
  where
    go : (x : Bool) → ltb va half ≡ x → (x || (leb (2 ^ 64 - half) va && ltb va (2 ^ 64))) ≡ true → Halves va
    go true l k = inl (ltb-true va half l)
    go false l k = let b = and_both (leb (2 ^ 64 - half) va) (ltb va (2 ^ 64)) k in inr (leb-true (2 ^ 64 - half) va b.0, ltb-true va (2 ^ 64) b.1)

pub in_lower : (va : ℕ) → va < half → canonical va ≡ true
unfolding canonical
in_lower va u = rw (lt-ltb va half u)

pub in_upper : (va : ℕ) → 2 ^ 64 - half ≤ va → va < 2 ^ 64 → canonical va ≡ true
unfolding canonical
in_upper va u v = rw (le-ltb va half (omega arith), le-leb (2 ^ 64 - half) va u, lt-ltb va (2 ^ 64) v)

pub in_halves : (va : ℕ) → Halves va → canonical va ≡ true
in_halves va (inl u) = in_lower va u
in_halves va (inr u) = in_upper va u.0 u.1

odd : (x y : ℕ) → x + 1 ≡ 2 * y → x % 2 ≡ 1
odd x y e = omega arith

-- a number of suc n bits that are all alike is 0, or all ones
all_alike : (n q : ℕ) → q < 2 ^ suc n → ((j : ℕ) → j ≤ n → q / 2 ^ j % 2 ≡ q % 2) → (q ≡ 0) ⊎ (q + 1 ≡ 2 ^ suc n)
all_alike zero q u f = go (ℕ_discrete q 0)
  where
    go : Dec (q ≡ 0) → (q ≡ 0) ⊎ (q + 1 ≡ 2 ^ 1)
    go (yes e) = inl e
    go (no d) = inr (omega arith)
all_alike (suc n) q u f = go (all_alike n (q / 2) (omega (arith, pow-suc 2 (suc n))) (λ j v. rw (div-div-eq-div-mul, ← up j) (f (suc j) (omega arith) ∙ sym next)))
  where
    up : (j : ℕ) → 2 ^ suc j ≡ 2 * 2 ^ j
    up j = omega (arith, pow-suc 2 j)

    next : q / 2 % 2 ≡ q % 2
    next = f 1 (omega arith)

    go : (q / 2 ≡ 0) ⊎ (q / 2 + 1 ≡ 2 ^ suc n) → (q ≡ 0) ⊎ (q + 1 ≡ 2 ^ suc (suc n))
    go (inl e) = inl (omega (arith, next))
    go (inr e) = inr (omega (arith, next, odd (q / 2) (2 ^ n) (e ∙ up n), up (suc n)))

alike_all : (n q j : ℕ) → j ≤ n → (q ≡ 0) ⊎ (q + 1 ≡ 2 ^ suc n) → q / 2 ^ j % 2 ≡ q % 2
alike_all n q zero v e = omega arith
alike_all zero q (suc j) v e = absurd (omega arith)
alike_all (suc n) q (suc j) v e = rw (up j, ← div-div-eq-div-mul) (alike_all n (q / 2) j (omega arith) (half_is e) ∙ next e)
  where
    up : (i : ℕ) → 2 ^ suc i ≡ 2 * 2 ^ i
    up i = omega (arith, pow-suc 2 i)

    half_is : (q ≡ 0) ⊎ (q + 1 ≡ 2 ^ suc (suc n)) → (q / 2 ≡ 0) ⊎ (q / 2 + 1 ≡ 2 ^ suc n)
    half_is (inl d) = inl (omega arith)
    half_is (inr d) = inr (omega (arith, up (suc n)))

    next : (q ≡ 0) ⊎ (q + 1 ≡ 2 ^ suc (suc n)) → q / 2 % 2 ≡ q % 2
    next (inl d) = omega arith
    next (inr d) = odd (q / 2) (2 ^ n) (omega (arith, up n, up (suc n))) ∙ sym (odd q (2 ^ suc n) (d ∙ up (suc n)))

-- bit i from bit 47 on, as a bit of what is left from there
bit_from : (va j : ℕ) → va / 2 ^ (47 + j) ≡ va / 2 ^ 47 / 2 ^ j
bit_from va j = rw (pow-add 2 47 j, div-div-eq-div-mul)

-- AN ADDRESS IS A NUMBER OF 64 BITS WHOSE BITS FROM 47 ON ARE ALL ALIKE.
pub canonical_bits : (va : ℕ) → (canonical va ≡ true) ↔ ((va < 2 ^ 64) × ((i : ℕ) → 47 ≤ i → i < 64 → va / 2 ^ i % 2 ≡ va / 2 ^ 47 % 2))
canonical_bits va = (λ e. let o = halves va e in (small o, λ i u v. same i u v o), λ k. in_halves va (back (all_alike 16 (va / 2 ^ 47) (omega (arith, k.0)) (λ j v. there k j v))))
  where
    small : Halves va → va < 2 ^ 64
    small (inl u) = omega arith
    small (inr u) = u.1

    top : Halves va → (va / 2 ^ 47 ≡ 0) ⊎ (va / 2 ^ 47 + 1 ≡ 2 ^ 17)
    top (inl u) = inl (omega arith)
    top (inr u) = inr (omega (arith, u.0, u.1))

    back : (va / 2 ^ 47 ≡ 0) ⊎ (va / 2 ^ 47 + 1 ≡ 2 ^ 17) → Halves va
    back (inl u) = inl (omega arith)
    back (inr u) = inr (omega arith, omega arith)

    same : (i : ℕ) → 47 ≤ i → i < 64 → Halves va → va / 2 ^ i % 2 ≡ va / 2 ^ 47 % 2
    same i u v o =
        let z : 47 + (i - 47) ≡ i = omega arith in
        rw (← z, bit_from va (i - 47)) (alike_all 16 (va / 2 ^ 47) (i - 47) (omega arith) (top o))

    there : (va < 2 ^ 64) × ((i : ℕ) → 47 ≤ i → i < 64 → va / 2 ^ i % 2 ≡ va / 2 ^ 47 % 2) → (j : ℕ) → j ≤ 16 → va / 2 ^ 47 / 2 ^ j % 2 ≡ va / 2 ^ 47 % 2
    there k j v = ap (λ x. x % 2) (sym (bit_from va j)) ∙ k.1 (47 + j) (omega arith) (omega arith)

-- The edges: the last of the lower half, the first and the last between the halves, the first of the upper half, and the last of all.
pub edges : (canonical 0 ≡ true) × (canonical (2 ^ 47 - 1) ≡ true) × (canonical (2 ^ 47) ≡ false) × (canonical (2 ^ 64 - 2 ^ 47 - 1) ≡ false)
    × (canonical (2 ^ 64 - 2 ^ 47) ≡ true) × (canonical (2 ^ 64 - 1) ≡ true) × (canonical (2 ^ 64) ≡ false)
unfolding canonical
edges = (refl, refl, refl, refl, refl, refl, refl)

-- A PAGE LIES IN ONE HALF: in the lower one it ends at 2 ^ 47 at most, in the upper one at 2 ^ 64 at most.
pub page_in_half : (n va : ℕ) → n < 4 → canonical va ≡ true
    → (base_of n va + size_of n ≤ 2 ^ 47) ⊎ ((2 ^ 64 - 2 ^ 47 ≤ base_of n va) × (base_of n va + size_of n ≤ 2 ^ 64))
unfolding base_of size_of
page_in_half n va u e = go n u (halves va e)
  where
    go : (n : ℕ) → n < 4 → Halves va → (base_of n va + size_of n ≤ 2 ^ 47) ⊎ ((2 ^ 64 - 2 ^ 47 ≤ base_of n va) × (base_of n va + size_of n ≤ 2 ^ 64))
    go zero u (inl l) = inl (omega arith)
    go (suc zero) u (inl l) = inl (omega arith)
    go (suc (suc zero)) u (inl l) = inl (omega arith)
    go (suc (suc (suc zero))) u (inl l) = inl (omega arith)
    go zero u (inr l) = inr (omega (arith, l.0), omega (arith, l.1))
    go (suc zero) u (inr l) = inr (omega (arith, l.0), omega (arith, l.1))
    go (suc (suc zero)) u (inr l) = inr (omega (arith, l.0), omega (arith, l.1))
    go (suc (suc (suc zero))) u (inr l) = inr (omega (arith, l.0), omega (arith, l.1))
    go (suc (suc (suc (suc n)))) u o = absurd (omega arith)

-- numbers that agree from the root's entries on are addresses alike
pub near_canonical : (n va vb : ℕ) → n < 4 → va / size_of n ≡ vb / size_of n → canonical va ≡ canonical vb
unfolding size_of
near_canonical n va vb u e = go (canonical va) (canonical vb) refl refl
  where
    near : va / size_of 3 ≡ vb / size_of 3
    near = agree_up n 3 va vb (omega arith) e

    over : (x y : ℕ) → x / size_of 3 ≡ y / size_of 3 → Halves x → Halves y
    over x y d (inl l) = inl (omega arith)
    over x y d (inr l) = inr (omega (arith, l.0), omega (arith, l.1))

    go : (b c : Bool) → canonical va ≡ b → canonical vb ≡ c → b ≡ c
    go true c f g = sym (in_halves vb (over va vb near (halves va f))) ∙ g
    go false false f g = refl
    go false true f g = sym f ∙ in_halves va (over vb va (sym near) (halves vb g))

-- addresses with one entry of the root agree from there on: the two halves have no entry in common
pub root_index : (va vb : ℕ) → canonical va ≡ true → canonical vb ≡ true → index_of 3 va ≡ index_of 3 vb → va / size_of 3 ≡ vb / size_of 3
unfolding index_of size_of
root_index va vb e f = go (halves va e) (halves vb f)
  where
    go : Halves va → Halves vb → index_of 3 va ≡ index_of 3 vb → va / size_of 3 ≡ vb / size_of 3
    go (inl u) (inl v) k = omega arith
    go (inl u) (inr v) k = omega (arith, v.0, v.1)
    go (inr u) (inl v) k = omega (arith, u.0, u.1)
    go (inr u) (inr v) k = omega (arith, u.0, u.1, v.0, v.1)

-- the code's test: half of all addresses further on, an address lies below twice as many
pub by_wrapping : (va r : ℕ) → va < 2 ^ 64 → r ≡ (va + half) % 2 ^ 64 → ltb r (2 * half) ≡ canonical va
by_wrapping va r u e = go (canonical va) refl
  where
    go : (b : Bool) → canonical va ≡ b → ltb r (2 * half) ≡ b
    go true f = lt-ltb r (2 * half) (below (halves va f))
      where
        below : Halves va → r < 2 * half
        below (inl l) = omega arith
        below (inr l) = omega (arith, l.0, l.1)
    go false f = test (ltb r (2 * half)) refl
      where
        test : (c : Bool) → ltb r (2 * half) ≡ c → c ≡ false
        test false g = refl
        test true g = sym (in_halves va (which (ℕ_discrete (va / half) 0) (ltb-true r (2 * half) g))) ∙ f
          where
            which : Dec (va / half ≡ 0) → r < 2 * half → Halves va
            which (yes d) w = inl (omega arith)
            which (no d) w = inr (omega arith, u)
