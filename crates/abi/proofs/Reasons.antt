-- EVERY REASON HAS ITS OWN NUMBER, the one that the header has for it; 0 is none of them.
use Prim.Native.Nat.{ℕ}
use mathlib.Core.Logic.{◌≢◌}
use mathlib.Core.Path.{◌≡◌, refl, sym, ap, ◌∙◌}
use native.Mathlib.Omega.{arith}
use lib.ListN.{get_or}
use Rattle.pool.specs.declared.Reason as in_pool
use Rattle.pool.specs.declared.Reason.TheVariants as pool
use Rattle.plan.specs.declared.Reason.{Reason}
use Rattle.plan.specs.declared.Reason.TheVariants as plan
use Rattle.abi.specs.ReasonNumbers.{Outcome, done, refused, pool_unaligned, root_unaligned, unknown, spent, rights, pointer, reason_of, pool_reason, number_of, header}

-- THE HEADER'S PLACE of a reason is its number.
pub in_header : (y : Outcome) → get_or header (number_of y) done ≡ y
unfolding header reason_of pool_reason
-- tools/reasons: in_header
in_header done = refl
in_header (refused plan.Size) = refl
in_header (refused plan.BaseUnaligned) = refl
in_header (refused plan.FrameUnaligned) = refl
in_header (refused plan.BaseRange) = refl
in_header (refused plan.FrameRange) = refl
in_header (refused plan.FrameInPool) = refl
in_header (refused plan.Overlap) = refl
in_header (refused plan.NoRoom) = refl
in_header (refused plan.NothingStarts) = refl
in_header (refused plan.Stray) = refl
in_header (refused plan.BadList) = refl
in_header (refused (plan.Pool pool.OriginUnaligned)) = refl
in_header (refused (plan.Pool pool.LengthUnaligned)) = refl
in_header pool_unaligned = refl
in_header root_unaligned = refl
in_header (refused (plan.Pool pool.PoolLarge)) = refl
in_header (refused (plan.Pool pool.PoolSmall)) = refl
in_header (refused (plan.Pool pool.PoolOutside)) = refl
in_header (refused (plan.Pool pool.BadRoot)) = refl
in_header (refused (plan.Pool pool.NoBook)) = refl
in_header (refused (plan.Pool pool.OtherBook)) = refl
in_header (refused (plan.Pool pool.BadBook)) = refl
in_header unknown = refl
in_header spent = refl
in_header rights = refl
in_header pointer = refl
in_header (refused plan.WriteExecute) = refl

-- tools/reasons: end

-- ONE TO ONE
pub one_number : (x y : Outcome) → number_of x ≡ number_of y → x ≡ y
one_number x y e = sym (in_header x) ∙ (ap (λ n. get_or header n done) e ∙ in_header y)

-- of the operations' reasons, and of the pool's
pub one_reason : (x y : Reason) → reason_of x ≡ reason_of y → x ≡ y
one_reason x y e = let same = one_number (refused x) (refused y) e in cc

pub one_pool_reason : (x y : in_pool.Reason) → pool_reason x ≡ pool_reason y → x ≡ y
unfolding reason_of
one_pool_reason x y e = let same = one_reason (plan.Pool x) (plan.Pool y) e in cc

-- none is 0: a refusal is never told as done
pub never_done : (y : Reason) → reason_of y ≡ 0 → ⊥
never_done y e =
    let same = one_number (refused y) done e in
    let z : ◌≡◌ {A = ℕ} 0 1 = cc in
    omega arith

-- nor are they said of rights
pub never_rights : (y : Reason) → reason_of y ≢ number_of rights
never_rights y e =
    let same = one_number (refused y) rights e in
    let z : ◌≡◌ {A = ℕ} 0 1 = cc in
    omega arith

pub pool_never_done : (y : in_pool.Reason) → pool_reason y ≡ 0 → ⊥
unfolding reason_of
pool_never_done y e = never_done (plan.Pool y) e
