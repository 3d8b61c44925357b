-- MAP_FRAME, both outcomes: what the source promises follows from what our map answers and writes.
use Prim.Native.Nat.{ℕ, zero, suc, ◌+◌, ◌*◌, ◌%◌, ◌^◌, ◌<◌, ◌≤◌}
use mathlib.Core.Bool.{Bool, false, false≢true}
use mathlib.Core.Logic.{inl, inr, ◌≢◌}
use mathlib.Core.Option.{none}
use mathlib.Core.Path.{◌≡◌, refl, sym, ap, ◌∙◌, subst}
use native.Mathlib.Decide.{dec_le}
use native.Mathlib.Omega.{arith}
use Rattle.std.proofs.Common.{Ok, Err}
use Rattle.word.specs.Writes.{after}
use Rattle.entry.specs.Entry.{size_of}
use Rattle.entry.specs.declared.Rights.{Rights}
use Rattle.walk.specs.declared.Found.{Found}
use Rattle.walk.specs.declared.Found.TheVariants.{Page, Nothing, Outside, NoAddress}
use Rattle.walk.proofs.Digits.{size_pos}
use Rattle.tables.specs.Roles.{Role}
use Rattle.tables.specs.Meaning.{meaning}
use Rattle.tables.proofs.Meaning.{never_outside}
use Rattle.tables.specs.Overlap.{MappedIn}
use Rattle.pool.specs.Booked.{setting_of}
use Rattle.pool.specs.declared.Space.{Space}
use Rattle.pool.proofs.Pages.{root_page}
use Rattle.plan.specs.Map as map
use Rattle.plan.specs.declared.Reason.{Reason}
use Rattle.plan.specs.declared.Reason.TheVariants.{FrameInPool, NoRoom}
use Rattle.plan.specs.declared.maps.Asked.{Asked}
use Rattle.plan.specs.declared.maps.Mapping.{Mapping}
use Rattle.plan.specs.Map.{Placed}
use Rattle.plan.specs.Rights.{write_execute}
use Rattle.effect.specs.Whole.{Whole}
use Rattle.effect.specs.MapDone.{MapDone, Fitted}
use Rattle.effect.specs.MapRefused.{Cause, FrameApart, SomeMapped, no_size, base_unaligned, frame_unaligned, base_range, frame_high, write_execute_lem, frame_in_pool, mapped, no_room}
use Rattle.effect.proofs.Wholes.{root_low}
use Rattle.effect.proofs.MapBuilt.{page_last}
use Rattle.effect.proofs.MapDone.{decided_planned, decided_done, mapped_inside, mapped_outside}
use Rattle.effect.proofs.MapRefused.{map_refused, map_succeeds}
use Rattle.tablepath.specs.Answers.{map_answer, map_writes, map_said}
use Rattle.verus.specs.Regions.{PTE, pte_of}
use Rattle.verus.specs.Mappings.{CandidateOverlaps, AcceptedMapping, SameMap, inserted, max_phyaddr}
use Rattle.verus.specs.Walks.{interp}
use Rattle.verus.specs.Order.{meant}
use Rattle.verus.specs.Operations.{MapOk, MapErr}
use Rattle.verus.proofs.Walks.{at_base}
use Rattle.verus.proofs.Mappings.{In, turned_inserts, overlaps_same}
use Rattle.verus.proofs.Invariant.{inv_holds, moments_inv}
use Rattle.verus.proofs.Order.{meant_built, map_order}
use Rattle.verus.proofs.Framing.{map_framed}

-- what is asked, as theirs
abbrev pub asked_entry : Asked → PTE
asked_entry q = pte_of q.size q.frame q.rights

-- what the tables mean to them, by what an address means to us
pub meant_found : {h : ℕ → Bool} {sp : Space} {m : ℕ → ℕ} {role : ℕ → Role} → Whole h sp m role → (va : ℕ) → meant sp m va ≡ at_base va (meaning (setting_of h sp) m va)
meant_found {h} {sp} w va = meant_built h sp (root_low w) w.sound.built va

-- a test of overlap, by our word for it
pub meant_overlaps : {h : ℕ → Bool} {sp : Space} {m : ℕ → ℕ} {role : ℕ → Role} → Whole h sp m role → (base : ℕ) (p : PTE) → 0 < p.frame.size
    → (CandidateOverlaps (meant sp m) base p → MappedIn (setting_of h sp) m base p.frame.size) × (MappedIn (setting_of h sp) m base p.frame.size → CandidateOverlaps (meant sp m) base p)
meant_overlaps {h} {sp} {m} w base p wide =
    subst (λ t. (CandidateOverlaps (interp m t) base p → MappedIn (setting_of h sp) m base p.frame.size) × (MappedIn (setting_of h sp) m base p.frame.size → CandidateOverlaps (interp m t) base p))
    (root_page sp.root (root_low w))
    (overlaps_same (setting_of h sp) m (never_outside w.sound.built) base p wide)

-- an address that is not mapped is no base
unmapped_none : (va : ℕ) (o : Found) → o ≢ Outside → ((b s f : ℕ) (r : Rights) → o ≡ Page b s f r → ⊥) → at_base va o ≡ none
unfolding at_base
unmapped_none va (Page b s f r) x n = absurd (n b s f r refl)
unmapped_none va Nothing x n = refl
unmapped_none va Outside x n = absurd (x refl)
unmapped_none va NoAddress x n = refl

-- an aligned frame that begins below the physical limit ends there or below
frame_ends : (l f : ℕ) → l ≤ 2 → f % size_of l ≡ 0 → f ≤ max_phyaddr → f + size_of l ≤ 2 ^ 52
unfolding size_of
frame_ends zero f u k p = omega arith
frame_ends (suc zero) f u k p = omega arith
frame_ends (suc (suc zero)) f u k p = omega arith
frame_ends (suc (suc (suc l))) f u k p = absurd (omega arith)

-- what accepted_mapping accepts fits, where it is not both writable and executable
pub accepted_fits : (q : Asked) (a : AcceptedMapping q.base (asked_entry q)) → write_execute q.rights ≡ false → Fitted a.size.level q
unfolding pte_of
accepted_fits q a s = record {
  level = a.size.low;
  size_is = a.size.is;
  base_aligned = a.vaddr_aligned;
  frame_aligned = a.frame_aligned;
  base_fits = a.address;
  frame_fits =
      let k : q.frame % size_of a.size.level ≡ 0 = subst (λ x. q.frame % x ≡ 0) a.size.is a.frame_aligned in
      omega (arith, a.size.is, frame_ends a.size.level q.frame a.size.low k a.physical);
  strict = s;
}

module _ {h : ℕ → Bool} {sp : Space} {m : ℕ → ℕ} {role : ℕ → Role} (w : Whole h sp m role) (q : Asked) where
  map_made : (p : Mapping) → map.decide_of h m sp q ≡ map.Go p → MapOk h sp m role (map.writes_of sp p) q.base (asked_entry q)
  unfolding pte_of
  map_made p e = record {
    made = record {
      inv = record { role = d.role'; whole = d.whole; inv = inv_holds d.whole };
      one = d.changed.change;
      moments = moments_inv d.changed;
      meaning = now;
    };
    apart = λ c. not_mapped ((meant_overlaps w q.base (asked_entry q) wide).0 c);
    order = map_order h sp (root_low w) p d.changed (page_last w (decided_planned w q p e)) _ now;
    framed = map_framed w (decided_planned w q p e) d;
  }
    where
      d : MapDone h sp m role q p
      d = decided_done w q p e

      wide : 0 < q.size
      wide = omega (arith, d.fitted.size_is, size_pos p.target)

      apart : FrameApart h sp q
      apart = go (dec_le (q.frame + q.size) (4096 * sp.first)) (dec_le (4096 * (sp.first + sp.pages)) q.frame)
        where
          go : Dec (q.frame + q.size ≤ 4096 * sp.first) → Dec (4096 * (sp.first + sp.pages) ≤ q.frame) → FrameApart h sp q
          go (yes u) v = inl u
          go (no u) (yes v) = inr v
          go (no u) (no v) = absurd ((map_succeeds w q).0 (p, e, d) _ (frame_in_pool p.target d.fitted (omega arith, omega arith)))

      not_mapped : SomeMapped h sp m q → ⊥
      not_mapped k = (map_succeeds w q).0 (p, e, d) _ (mapped p.target d.fitted apart k)

      inner : (va : ℕ) → In q.base q.size va → va ≢ q.base → at_base va (meaning (setting_of h sp) m va) ≡ none
      inner va i n = unmapped_none va _ (never_outside w.sound.built va)
          (λ b s f r k. not_mapped (record { address = va; from = i.0; upto = i.1; start = b; long = s; frame = f; rights = r; means = k }))

      inserts : (va : ℕ) → at_base va (meaning (setting_of h sp) (after m (map.writes_of sp p)) va)
          ≡ inserted (λ b. at_base b (meaning (setting_of h sp) m b)) q.base (asked_entry q) va
      inserts = turned_inserts (meaning (setting_of h sp) m) (meaning (setting_of h sp) (after m (map.writes_of sp p))) q.base q.size _ wide
          (λ va i. mapped_inside w q p d va i.0 i.1) (λ va n. mapped_outside w q p d va (λ x y. n (x, y))) inner q.frame q.rights refl

      again : (va : ℕ) → inserted (λ b. at_base b (meaning (setting_of h sp) m b)) q.base (asked_entry q) va ≡ inserted (meant sp m) q.base (asked_entry q) va
      again va = unfold inserted in rw (meant_found w va)

      now : SameMap (meant sp (after m (map.writes_of sp p))) (inserted (meant sp m) q.base (asked_entry q))
      now va = meant_found d.whole va ∙ inserts va ∙ again va

  -- MAP_FRAME, OK: the candidate overlapped nothing; the one changing write was made, the last one of a table; the map has the page, and nothing
  -- else has changed; regions that are neither the subtree's nor new keep their words.
  pub map_ok : (k : ℕ) → map_answer h m sp q ≡ Ok k → MapOk h sp m role (map_writes h m sp q) q.base (asked_entry q)
  unfolding map_answer map_writes map_said map.did_of
  map_ok k done = go (map.decide_of h m sp q) refl done
    where
      go : (x : Placed) → map.decide_of h m sp q ≡ x → map_said x ≡ Ok k → MapOk h sp m role (map.did_of sp x) q.base (asked_entry q)
      go (map.Refused r) e f = let z : ◌≡◌ {A = ℕ} 0 1 = cc in absurd (omega arith)
      go (map.Go p) e f = map_made p e

  -- MAP_FRAME, ERR, where accepted_mapping holds and the page is not both writable and executable, which the source allows, for every reason
  -- but the two that the source has no word for (its table memory and its frames lie apart, and there always is a page): nothing was written,
  -- and the candidate overlaps.
  pub map_err : (y : Reason) → map_answer h m sp q ≡ Err y → AcceptedMapping q.base (asked_entry q) → write_execute q.rights ≡ false → y ≢ FrameInPool → y ≢ NoRoom
      → MapErr sp m (map_writes h m sp q) q.base (asked_entry q)
  unfolding map_answer map_writes map_said map.did_of pte_of
  map_err y refused a strict no_pool some_room = go (map.decide_of h m sp q) refl refused
    where
      f : Fitted a.size.level q
      f = accepted_fits q a strict

      wide : 0 < q.size
      wide = omega (arith, f.size_is, size_pos a.size.level)

      because : (r : Reason) → Cause h sp m q r → r ≢ FrameInPool → r ≢ NoRoom → CandidateOverlaps (meant sp m) q.base (asked_entry q)
      because r (no_size n) i o = absurd (n a.size.level a.size.low a.size.is)
      because r (base_unaligned l x n) i o = absurd (n a.vaddr_aligned)
      because r (frame_unaligned l x b n) i o = absurd (n a.frame_aligned)
      because r (base_range l x b c n) i o = absurd (false≢true (sym n ∙ a.address))
      because r (frame_high l x b c u n) i o = absurd (omega (arith, f.frame_fits))
      because r (write_execute_lem l x b c u v d) i o = absurd (false≢true (sym strict ∙ d))
      because r (frame_in_pool l g k) i o = absurd (i refl)
      because r (mapped l g c k) i o = (meant_overlaps w q.base (asked_entry q) wide).1 k
      because r (no_room l n g c x k u) i o = absurd (o refl)

      go : (x : Placed) → map.decide_of h m sp q ≡ x → map_said x ≡ Err y → MapErr sp m (map.did_of sp x) q.base (asked_entry q)
      go (map.Go p) e g = let z : ◌≡◌ {A = ℕ} 0 1 = cc in absurd (omega arith)
      go (map.Refused r) e g =
          let same : r ≡ y = cc in
          record { unchanged = refl; overlaps = because y ((map_refused w q y).0 (e ∙ ap map.Refused same)) no_pool some_room }
