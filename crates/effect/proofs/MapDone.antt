-- MAP DOES WHAT WAS ASKED: where it decides to go on, in a space that is whole, its writes change exactly that, and leave the space whole.
use Prim.Native.Nat.{ℕ, ◌+◌, ◌<◌, ◌≤◌}
use mathlib.Core.Bool.{Bool}
use mathlib.Core.Path.{◌≡◌, subst}
use native.Mathlib.Omega.{arith}
use Rattle.word.specs.Writes.{after}
use Rattle.walk.specs.declared.Found.TheVariants as found
use Rattle.tables.specs.Roles.{Role, Exact}
use Rattle.tables.proofs.Edits.{turns_inside, turns_outside}
use Rattle.tables.specs.Meaning.{meaning}
use Rattle.tables.proofs.Overlap.{aligned_base}
use Rattle.walk.specs.Walk.{base_of}
use Rattle.pool.specs.Booked.{setting_of}
use Rattle.pool.specs.declared.Space.{Space}
use Rattle.plan.specs.declared.maps.Asked.{Asked}
use Rattle.plan.specs.declared.maps.Mapping.{Mapping}
use Rattle.plan.specs.Map.{Placed, Go, decide_of, writes_of}
use Rattle.effect.specs.MapDone.{MapDone}
use Rattle.effect.specs.Whole.{Whole}
use Rattle.effect.proofs.MapBuilt.{planned_done, planned_exact}
use Rattle.effect.proofs.MapPlan.{Planned}
use Rattle.effect.proofs.MapVerdict.{MapVerdict, refuses, goes, verdict}

module _ {h : ℕ → Bool} {sp : Space} {m : ℕ → ℕ} {role : ℕ → Role} (w : Whole h sp m role) (q : Asked) where
  pub decided_planned : (p : Mapping) → decide_of h m sp q ≡ Go p → Planned h sp m q p
  decided_planned p = go (decide_of h m sp q) (verdict w q)
    where
      go : (d : Placed) → MapVerdict h sp m q d → d ≡ Go p → Planned h sp m q p
      go d (refuses r c) e = let z : ◌≡◌ {A = ℕ} 0 1 = cc in absurd (omega arith)
      go d (goes p' k) e = let same : p' ≡ p = cc in subst (λ (x : Mapping). Planned h sp m q x) same k

  -- MAP, DONE
  pub decided_done : (p : Mapping) → decide_of h m sp q ≡ Go p → MapDone h sp m role q p
  decided_done p e = planned_done w (decided_planned p e)

  -- entries as we write them stay so
  pub map_exact : Exact m role → (p : Mapping) (e : decide_of h m sp q ≡ Go p) → Exact (after m (writes_of sp p)) (decided_done p e).role'
  unfolding decided_done
  map_exact exact p e = planned_exact w (decided_planned p e) exact

  module _ (p : Mapping) (d : MapDone h sp m role q p) where
    base_is : base_of p.target q.base ≡ q.base
    base_is = aligned_base p.target q.base (rw d.fitted.size_is at d.fitted.base_aligned)

    -- the range that was asked, in numbers: each address there has the page, and no other address has changed
    pub mapped_inside : (va : ℕ) → q.base ≤ va → va < q.base + q.size
        → meaning (setting_of h sp) (after m (writes_of sp p)) va ≡ found.Page q.base q.size q.frame q.rights
    mapped_inside va u v = turns_inside d.changed.turns va (rw base_is u) (omega (arith, base_is, d.fitted.size_is))

    pub mapped_outside : (va : ℕ) → (q.base ≤ va → va < q.base + q.size → ⊥)
        → meaning (setting_of h sp) (after m (writes_of sp p)) va ≡ meaning (setting_of h sp) m va
    mapped_outside va n =
        turns_outside d.changed.turns va (λ u v. n (omega (arith, base_is)) (omega (arith, base_is, d.fitted.size_is)))
