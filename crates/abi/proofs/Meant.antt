-- RIGHTS THAT MEAN NOTHING are refused before all else, for any bytes and numbers; rights that mean something are no hindrance.
use Prim.Native.Nat.{ℕ, ◌<◌, ◌≤◌}
use mathlib.Core.Bool.{Bool, true, false}
use mathlib.Core.List.{List}
use mathlib.Core.Logic.{◌⊎◌, inl, inr, ◌≢◌}
use mathlib.Core.Path.{◌≡◌, refl, sym, ap, ◌∙◌}
use native.Mathlib.Omega.{arith}
use lib.Dec.{ltb}
use borrow.Author.Tests.{lt-ltb, le-ltb, ltb-true, ltb-false}
use Rattle.std.proofs.Common.{Result, Err}
use Rattle.pool.specs.declared.Space.{Space}
use Rattle.abi.specs.ReasonNumbers as why
use Rattle.abi.specs.ReasonNumbers.{number_of}
use Rattle.abi.specs.Answers.{rights_in}
use Rattle.abi.specs.Calls.{site_of, asked_site, strict_site, ask, rights_site, bytes_after, map_answer, protect_answer}
use Rattle.abi.specs.Relied as c
use Rattle.abi.specs.Relied.{Numbers, Call, KnownRights, leaves, reason, tp_map, tp_protect}

pub below_8 : (rights : ℕ) → (rights < 8) ⊎ (8 ≤ rights)
below_8 rights = go (ltb rights 8) refl
  where
    go : (b : Bool) → ltb rights 8 ≡ b → (rights < 8) ⊎ (8 ≤ rights)
    go true e = inl (ltb-true rights 8 e)
    go false e = inr (ltb-false rights 8 e)

pub meant : (rights : ℕ) (x : Result Space ℕ) → rights < 8 → rights_site rights x ≡ x
unfolding rights_site
meant rights x l = rw (lt-ltb rights 8 l)

pub meaningless : (rights : ℕ) (x : Result Space ℕ) → 8 ≤ rights → rights_site rights x ≡ Err (number_of why.rights)
unfolding rights_site
meaningless rights x l = rw (le-ltb rights 8 l)

module _ (s : List ℕ) (n : Numbers) where
  -- THE REASON
  pub rights_causes : (x : Call) → ¬ KnownRights x → reason s n x ≡ number_of why.rights
  unfolding reason map_answer protect_answer
  rights_causes (c.map base frame size rights) k =
      ap (λ x. (map_answer s (ask base frame size rights) x).reason)
      (meaningless rights (asked_site n.origin n.pool n.pages n.root (ask base frame size rights)) (omega (arith, k)))
  rights_causes (c.unmap base) k = absurd (k tt)
  rights_causes (c.protect base rights) k =
      ap (λ x. (protect_answer s base (rights_in rights) x).reason) (meaningless rights (strict_site rights (site_of n.origin n.pool n.pages n.root)) (omega (arith, k)))
  rights_causes (c.told ticket) k = absurd (k tt)

  -- a call that means something, or one that leaves every byte
  pub meant_or_same : (x : Call) → KnownRights x ⊎ (leaves s n x ≡ s)
  unfolding leaves bytes_after
  meant_or_same (c.map base frame size rights) = go (below_8 rights)
    where
      go : (rights < 8) ⊎ (8 ≤ rights) → (rights < 8) ⊎ (leaves s n (c.map base frame size rights) ≡ s)
      go (inl l) = inl l
      go (inr l) = inr (rw (meaningless rights (asked_site n.origin n.pool n.pages n.root (ask base frame size rights)) l))
  meant_or_same (c.unmap base) = inl tt
  meant_or_same (c.protect base rights) = go (below_8 rights)
    where
      go : (rights < 8) ⊎ (8 ≤ rights) → (rights < 8) ⊎ (leaves s n (c.protect base rights) ≡ s)
      go (inl l) = inl l
      go (inr l) = inr (rw (meaningless rights (strict_site rights (site_of n.origin n.pool n.pages n.root)) l))
  meant_or_same (c.told ticket) = inl tt

  -- any other answer is given to rights that mean something
  pub map_given : (base frame size rights k : ℕ) → (tp_map s n base frame size rights).reason ≡ k → k ≢ number_of why.rights → rights < 8
  unfolding reason
  map_given base frame size rights k e other = go (below_8 rights)
    where
      go : (rights < 8) ⊎ (8 ≤ rights) → rights < 8
      go (inl l) = l
      go (inr l) = absurd (other (sym e ∙ rights_causes (c.map base frame size rights) (omega (arith, l))))

  pub protect_given : (base rights k : ℕ) → (tp_protect s n base rights).reason ≡ k → k ≢ number_of why.rights → rights < 8
  unfolding reason
  protect_given base rights k e other = go (below_8 rights)
    where
      go : (rights < 8) ⊎ (8 ≤ rights) → rights < 8
      go (inl l) = l
      go (inr l) = absurd (other (sym e ∙ rights_causes (c.protect base rights) (omega (arith, l))))

  -- so what was done was meant
  pub map_meant : (base frame size rights : ℕ) → (tp_map s n base frame size rights).reason ≡ 0 → rights < 8
  map_meant base frame size rights e = map_given base frame size rights 0 e (omega arith)

  pub protect_meant : (base rights : ℕ) → (tp_protect s n base rights).reason ≡ 0 → rights < 8
  protect_meant base rights e = protect_given base rights 0 e (omega arith)
