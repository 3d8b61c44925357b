-- MAP REFUSES EXACTLY FOR ITS CAUSES, in a space that is whole; and so it succeeds exactly where none of them holds.
use Prim.Native.Nat.{ℕ}
use mathlib.Core.Bool.{Bool}
use mathlib.Core.Logic.{◌↔◌}
use mathlib.Core.Path.{◌≡◌, refl, subst}
use native.Mathlib.Omega.{arith}
use Rattle.tables.specs.Roles.{Role}
use Rattle.pool.specs.declared.Space.{Space}
use Rattle.plan.specs.declared.Reason.{Reason}
use Rattle.plan.specs.declared.maps.Asked.{Asked}
use Rattle.plan.specs.declared.maps.Mapping.{Mapping}
use Rattle.plan.specs.Map.{Placed, Go, Refused, decide_of}
use Rattle.effect.specs.MapDone.{MapDone}
use Rattle.effect.specs.MapRefused.{Cause, HasCause, no_size, base_unaligned, frame_unaligned, base_range, frame_high, write_execute_lem, frame_in_pool, mapped, no_room}
use Rattle.effect.specs.Whole.{Whole}
use Rattle.effect.proofs.MapDone.{decided_done}
use Rattle.effect.proofs.MapVerdict.{MapVerdict, refuses, goes, verdict, cause_refuses}

cause_given : {h : ℕ → Bool} {sp : Space} {m : ℕ → ℕ} {q : Asked} (r : Reason) → Cause h sp m q r → HasCause r
cause_given r (no_size n) = tt
cause_given r (base_unaligned l o a) = tt
cause_given r (frame_unaligned l o a b) = tt
cause_given r (base_range l o a b u) = tt
cause_given r (frame_high l o a b u v) = tt
cause_given r (write_execute_lem l o a b u v x) = tt
cause_given r (frame_in_pool l f k) = tt
cause_given r (mapped l f c k) = tt
cause_given r (no_room l n f c x k u) = tt

module _ {h : ℕ → Bool} {sp : Space} {m : ℕ → ℕ} {role : ℕ → Role} (w : Whole h sp m role) (q : Asked) where
  refused_cause : (r : Reason) → decide_of h m sp q ≡ Refused r → Cause h sp m q r
  refused_cause r = go (decide_of h m sp q) (verdict w q)
    where
      go : (d : Placed) → MapVerdict h sp m q d → d ≡ Refused r → Cause h sp m q r
      go d (refuses r' c) e = let same : r' ≡ r = cc in subst (Cause h sp m q) same c
      go d (goes p k) e = let z : ◌≡◌ {A = ℕ} 0 1 = cc in absurd (omega arith)

  -- EACH REFUSAL HAPPENS EXACTLY WHEN ITS CAUSE HOLDS
  pub map_refused : (r : Reason) → (decide_of h m sp q ≡ Refused r) ↔ Cause h sp m q r
  map_refused r = (refused_cause r, cause_refuses w q r)

  -- and no other reason is given: never the pool's, nor that the tables or the book are damaged
  pub map_reasons : (r : Reason) → decide_of h m sp q ≡ Refused r → HasCause r
  map_reasons r e = cause_given r (refused_cause r e)

  -- MAP SUCCEEDS EXACTLY WHERE THERE IS NO CAUSE TO REFUSE; and then it has done what was asked
  pub map_succeeds : ((p : Mapping) × (decide_of h m sp q ≡ Go p) × MapDone h sp m role q p) ↔ ((r : Reason) → ¬ Cause h sp m q r)
  map_succeeds = (λ k r c. let e = cause_refuses w q r c in let z : ◌≡◌ {A = ℕ} 0 1 = cc k.1 in omega arith, λ n. go n (decide_of h m sp q) refl (verdict w q))
    where
      go : ((r : Reason) → ¬ Cause h sp m q r) → (d : Placed) → decide_of h m sp q ≡ d → MapVerdict h sp m q d
          → (p : Mapping) × (decide_of h m sp q ≡ Go p) × MapDone h sp m role q p
      go n d e (refuses r c) = absurd (n r c)
      go n d e (goes p k) = (p, e, decided_done w q p e)
