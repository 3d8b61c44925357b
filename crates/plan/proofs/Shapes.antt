-- What it shows that sizes, alignment, range and rights are right.
use Rattle.std.proofs.Common.{◌≡◌, ℕ, zero, suc, ◌+◌, ◌-◌, ◌*◌, ◌%◌, ◌^◌, ◌<◌, ◌≤◌, Bool, true, false, cond, eqb, leb, sym, refl, ◌∙◌, subst, arith, lt-ltb, eqb-true, leb-true, Result, Ok, Err}
use Rattle.plan.specs.declared.Reason.{Reason}
use Rattle.entry.specs.Entry.{size_of}
use Rattle.walk.specs.Walk.{half, canonical}
use Rattle.walk.proofs.Addresses.{by_wrapping}
use Rattle.plan.specs.declared.Reason.TheVariants.{Size, BaseUnaligned, FrameUnaligned, BaseRange, FrameRange}
use Rattle.plan.specs.declared.maps.Asked.{Asked}
use Rattle.plan.specs.Map.{fits_of, shape_of, strict_of, allowed_of}
use Rattle.plan.specs.Rights.{write_execute}

-- a page of level n, and where it may go
pub record Shaped (n size base frame : ℕ) : Type 0 where
  pub level : n ≤ 2
  pub size_is : size ≡ size_of n
  pub base_aligned : base % size ≡ 0
  pub frame_aligned : frame % size ≡ 0
  pub base_fits : canonical base ≡ true
  pub frame_fits : frame + size ≤ 2 ^ 52

-- the three sizes
pub size_small : (n size : ℕ) → n ≤ 2 → size ≡ size_of n → (0 < size) × (size ≤ 1073741824)
unfolding size_of
size_small zero size u e = (omega arith, omega arith)
size_small (suc zero) size u e = (omega arith, omega arith)
size_small (suc (suc zero)) size u e = (omega arith, omega arith)
size_small (suc (suc (suc n))) size u e = absurd (omega arith)

-- half of all addresses further on an address is aligned as before
pub on_aligned : (n size base on : ℕ) → n ≤ 2 → size ≡ size_of n → base < 2 ^ 64 → on ≡ (base + half) % 2 ^ 64 → on % size ≡ 0 → base % size ≡ 0
unfolding size_of
on_aligned zero size base on u e b o a = let k : on % 4096 ≡ 0 = rw (← e) a in let g : base % 4096 ≡ 0 = omega arith in rw e g
on_aligned (suc zero) size base on u e b o a = let k : on % 2097152 ≡ 0 = rw (← e) a in let g : base % 2097152 ≡ 0 = omega arith in rw e g
on_aligned (suc (suc zero)) size base on u e b o a = let k : on % 1073741824 ≡ 0 = rw (← e) a in let g : base % 1073741824 ≡ 0 = omega arith in rw e g
on_aligned (suc (suc (suc n))) size base on u e b o a = absurd (omega arith)

-- and it is an address where it lies below twice as many
pub on_address : (base on : ℕ) → base < 2 ^ 64 → on ≡ (base + half) % 2 ^ 64 → on < 2 * half → canonical base ≡ true
on_address base on b o u = sym (by_wrapping base on b o) ∙ lt-ltb on (2 * half) u

-- a frame that is aligned and begins below 2 ^ 52 also ends there
pub frame_ends : (n size frame : ℕ) → n ≤ 2 → size ≡ size_of n → frame % size ≡ 0 → frame < 2 ^ 52 → frame ≤ 2 ^ 52 - size
unfolding size_of
frame_ends zero size frame u e a b = let k : frame % 4096 ≡ 0 = rw (← e) a in omega arith
frame_ends (suc zero) size frame u e a b = let k : frame % 2097152 ≡ 0 = rw (← e) a in omega arith
frame_ends (suc (suc zero)) size frame u e a b = let k : frame % 1073741824 ≡ 0 = rw (← e) a in omega arith
frame_ends (suc (suc (suc n))) size frame u e a b = absurd (omega arith)

-- what is asked in the size of level n
pub shape_fits : (n size base frame : ℕ) → n ≤ 2 → size ≡ size_of n → shape_of size base frame ≡ fits_of n size base frame
unfolding shape_of size_of
shape_fits zero size base frame u e = rw e refl
shape_fits (suc zero) size base frame u e = rw e refl
shape_fits (suc (suc zero)) size base frame u e = rw e refl
shape_fits (suc (suc (suc n))) size base frame u e = absurd (omega arith)

-- what fits has the level that was asked about
pub fits_level : (n k size base frame : ℕ) → fits_of n size base frame ≡ Ok k → k ≡ n
unfolding fits_of
fits_level n k size base frame e = go (eqb (base % size) 0) (eqb (frame % size) 0) (canonical base) (leb frame (2 ^ 52 - size)) e
  where
    go : (a b c d : Bool) → cond a (cond b (cond c (cond d (Ok n) (Err FrameRange)) (Err BaseRange)) (Err FrameUnaligned)) (Err BaseUnaligned) ≡ Ok k → k ≡ n
    go true true true true e = cc
    go true true true false e = let z : ◌≡◌ {A = ℕ} 0 1 = cc in absurd (omega arith)
    go true true false d e = let z : ◌≡◌ {A = ℕ} 0 1 = cc in absurd (omega arith)
    go true false c d e = let z : ◌≡◌ {A = ℕ} 0 1 = cc in absurd (omega arith)
    go false b c d e = let z : ◌≡◌ {A = ℕ} 0 1 = cc in absurd (omega arith)

module _ (base frame n : ℕ) where
  fitted : (k size : ℕ) → k ≤ 2 → size ≡ size_of k → size ≤ 1073741824 → (a b c d : Bool) → eqb (base % size) 0 ≡ a → eqb (frame % size) 0 ≡ b
      → canonical base ≡ c → leb frame (2 ^ 52 - size) ≡ d
      → cond a (cond b (cond c (cond d (Ok k) (Err FrameRange)) (Err BaseRange)) (Err FrameUnaligned)) (Err BaseUnaligned) ≡ Ok n
      → Shaped n size base frame
  fitted k size u es v true true true true ea eb ec ed e =
      let same : k ≡ n = cc in
      subst (λ x. Shaped x size base frame) same (record {
        level = u;
        size_is = es;
        base_aligned = eqb-true _ 0 ea;
        frame_aligned = eqb-true _ 0 eb;
        base_fits = ec;
        frame_fits = omega (arith, leb-true frame (2 ^ 52 - size) ed);
      })
  fitted k size u es v true true true false ea eb ec ed e = let z : ◌≡◌ {A = ℕ} 0 1 = cc in absurd (omega arith)
  fitted k size u es v true true false d ea eb ec ed e = let z : ◌≡◌ {A = ℕ} 0 1 = cc in absurd (omega arith)
  fitted k size u es v true false c d ea eb ec ed e = let z : ◌≡◌ {A = ℕ} 0 1 = cc in absurd (omega arith)
  fitted k size u es v false b c d ea eb ec ed e = let z : ◌≡◌ {A = ℕ} 0 1 = cc in absurd (omega arith)

  fits_shaped : (k size : ℕ) → k ≤ 2 → size ≡ size_of k → size ≤ 1073741824 → fits_of k size base frame ≡ Ok n → Shaped n size base frame
  unfolding fits_of
  fits_shaped k size u es v e = fitted k size u es v _ _ _ _ refl refl refl refl e

  -- what is asked has a level: it is one of the three sizes, aligned, and in range
  pub shaped : (size : ℕ) → shape_of size base frame ≡ Ok n → Shaped n size base frame
  unfolding shape_of size_of
  shaped size e = go (eqb size 4096) (eqb size 2097152) (eqb size 1073741824) refl refl refl e
    where
      go : (a b c : Bool) → eqb size 4096 ≡ a → eqb size 2097152 ≡ b → eqb size 1073741824 ≡ c
          → cond a (fits_of 0 4096 base frame) (cond b (fits_of 1 2097152 base frame) (cond c (fits_of 2 1073741824 base frame) (Err Size))) ≡ Ok n
          → Shaped n size base frame
      go true b c ea eb ec k = let s = eqb-true size 4096 ea in rw s (fits_shaped 0 4096 (omega arith) refl (omega arith) k)
      go false true c ea eb ec k = let s = eqb-true size 2097152 eb in rw s (fits_shaped 1 2097152 (omega arith) refl (omega arith) k)
      go false false true ea eb ec k = let s = eqb-true size 1073741824 ec in rw s (fits_shaped 2 1073741824 (omega arith) refl (omega arith) k)
      go false false false ea eb ec k = let z : ◌≡◌ {A = ℕ} 0 1 = cc in absurd (omega arith)

-- The rights ---------------------------------------------------------------------------------------------------------------------

-- what is asked has the level of its shape, where the rights may be given
pub allowed_strict : (q : Asked) (n : ℕ) → shape_of q.size q.base q.frame ≡ Ok n → write_execute q.rights ≡ false → allowed_of q ≡ Ok n
unfolding allowed_of strict_of
allowed_strict q n e s = rw (e, s)

-- and no other
pub allowed_shape : (q : Asked) (n : ℕ) → allowed_of q ≡ Ok n → shape_of q.size q.base q.frame ≡ Ok n
unfolding allowed_of strict_of
allowed_shape q n e = go (shape_of q.size q.base q.frame) (write_execute q.rights) refl e
  where
    go : (x : Result ℕ Reason) (b : Bool) → write_execute q.rights ≡ b → strict_of q.rights x ≡ Ok n → x ≡ Ok n
    go (Err y) b eb k = let z : ◌≡◌ {A = ℕ} 0 1 = cc in absurd (omega arith)
    go (Ok l) true eb k = let j = rw eb at k in let z : ◌≡◌ {A = ℕ} 0 1 = cc in absurd (omega arith)
    go (Ok l) false eb k = rw eb at k
