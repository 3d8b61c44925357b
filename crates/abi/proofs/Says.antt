-- THE ANSWER TELLS THE OPERATION'S: from the numbers that C gets, field by field, what the operation answered is known again, for any bytes.
use Prim.Native.Nat.{ℕ, ◌<◌}
use Rattle.tablepath.specs.declared.NotReleased.TheVariants as notreleased
use mathlib.Core.List.{List}
use mathlib.Core.Bool.{false}
use mathlib.Core.Logic.{inl, inr, ◌↔◌}
use mathlib.Core.Path.{◌≡◌, refl, sym, ap, ◌∙◌}
use native.Mathlib.Omega.{arith}
use Rattle.std.proofs.Common.{Result, Ok, Err}
use Rattle.plan.specs.declared.Reason.{Reason}
use Rattle.tablepath.specs.declared.Gone.{Gone}
use Rattle.tablepath.specs.declared.Altered.{Altered}
use Rattle.tablepath.specs.declared.NotReleased.{NotReleased}
use Rattle.pool.specs.declared.moment.Counts.{Counts}
use Rattle.word.specs.Memory.{memory, holds}
use Rattle.walk.specs.Walk.{canonical, walk}
use Rattle.walk.specs.declared.Found.{Found}
use Rattle.walk.specs.declared.Found.TheVariants as found
use Rattle.walk.proofs.Ranges.{no_address_only}
use Rattle.pool.specs.declared.Reason as in_pool
use Rattle.pool.specs.State.{state_of}
use Rattle.plan.specs.declared.Reason.TheVariants as plan
use Rattle.tablepath.specs.Answers as the
use Rattle.abi.specs.ReasonNumbers.{reason_of, pool_reason, number_of}
use Rattle.abi.specs.Answers.{rights_word, created_to_c, mapped_to_c, unmapped_to_c, protected_to_c, told_to_c, uncounted, counted_to_c, looked_up_to_c}
use Rattle.abi.specs.Relied.{Numbers, AlignedNumbers, space_of, granted, asked, tp_map, tp_unmap, tp_protect, tp_told, tp_state, tp_look_up}
use Rattle.abi.specs.ReasonNumbers as why
use Rattle.abi.specs.Reasons.{CreateSays, MapSays, UnmapSays, ProtectSays, ToldSays, StateSays, LookUpSays}
use Rattle.abi.proofs.Named.{rights_granted, map_answers, unmap_answers, protect_answers, told_answers, state_answers}
use Rattle.abi.proofs.Reasons.{one_number, one_reason, one_pool_reason, never_done, pool_never_done}
use Rattle.abi.proofs.Walked.{rights_told}

clash : {A : Type 0} → ◌≡◌ {A = ℕ} 0 1 → A
clash e = absurd (omega arith)

-- Structs --------------------------------------------------------------------------------------------------------------------------

pub created_says : (a : Result ℕ in_pool.Reason) → CreateSays (created_to_c a) a
unfolding created_to_c
created_says (Ok p) = record { done = λ e. ap Ok (omega arith); refused = λ y e. absurd (pool_never_done y (sym e)); known = inl refl }
created_says (Err z) = record {
  done = λ e. absurd (pool_never_done z e);
  refused = λ y e. ap Err (one_pool_reason z y e);
  known = inr (z, refl);
}

mapped_says : (a : Result ℕ Reason) → MapSays (mapped_to_c a) a
unfolding mapped_to_c
mapped_says (Ok k) = record { done = λ e. refl; refused = λ y e. absurd (never_done y (sym e)); known = inl refl }
mapped_says (Err z) = record { done = λ e. absurd (never_done z e); refused = λ y e. ap Err (one_reason z y e); known = inr (z, refl) }

unmapped_says : (a : Result Gone Reason) → UnmapSays (unmapped_to_c a) a
unfolding unmapped_to_c
unmapped_says (Ok g) = record { done = λ e. refl; refused = λ y e. absurd (never_done y (sym e)); known = inl refl }
unmapped_says (Err z) = record { done = λ e. absurd (never_done z e); refused = λ y e. ap Err (one_reason z y e); known = inr (z, refl) }

protected_says : (a : Result Altered Reason) → ProtectSays (protected_to_c a) a
unfolding protected_to_c
protected_says (Ok g) = record { done = λ e. refl; refused = λ y e. absurd (never_done y (sym e)); known = inl refl }
protected_says (Err z) = record { done = λ e. absurd (never_done z e); refused = λ y e. ap Err (one_reason z y e); known = inr (z, refl) }

-- a reason of the pool is neither of told's own
not_told : (y : in_pool.Reason) (x : why.Outcome) → pool_reason y ≡ number_of x → why.refused (plan.Pool y) ≡ x
unfolding reason_of
not_told y x e = one_number (why.refused (plan.Pool y)) x e

told_struct : (a : Result ℕ NotReleased) → ToldSays (told_to_c a) a
unfolding told_to_c
told_struct (Ok k) = record {
  done = λ e. refl;
  unknown = λ e. absurd (omega arith);
  spent = λ e. absurd (omega arith);
  refused = λ y e. absurd (pool_never_done y (sym e));
  known = inl refl;
}
told_struct (Err notreleased.Unknown) = record {
  done = λ e. absurd (omega arith);
  unknown = λ e. refl;
  spent = λ e. absurd (omega arith);
  refused = λ y e. let same = not_told y why.unknown (sym e) in clash cc;
  known = inr (inl refl);
}
told_struct (Err notreleased.Spent) = record {
  done = λ e. absurd (omega arith);
  unknown = λ e. absurd (omega arith);
  spent = λ e. refl;
  refused = λ y e. let same = not_told y why.spent (sym e) in clash cc;
  known = inr (inr (inl refl));
}
told_struct (Err (notreleased.Pool z)) = record {
  done = λ e. absurd (pool_never_done z e);
  unknown = λ e. let same = not_told z why.unknown e in clash cc;
  spent = λ e. let same = not_told z why.spent e in clash cc;
  refused = λ y e. ap (λ r. Err (notreleased.Pool r)) (one_pool_reason z y e);
  known = inr (inr (inr (z, refl)));
}

counted_says : (a : Result Counts in_pool.Reason) → StateSays (counted_to_c a) a
unfolding counted_to_c uncounted
counted_says (Ok k) = record { done = λ e. refl; refused = λ y e. absurd (pool_never_done y (sym e)); known = inl refl }
counted_says (Err z) = record {
  done = λ e. absurd (pool_never_done z e);
  refused = λ y e. ap Err (one_pool_reason z y e);
  known = inr (z, refl);
}

looked_up_says : (a : Found) → LookUpSays (looked_up_to_c a) a
unfolding looked_up_to_c
looked_up_says (found.Page b s f r) = record {
  nothing = λ e. absurd (omega arith);
  page = λ e. ap (found.Page b s f) (sym (rights_told r) ∙ rights_granted (rights_word r));
  outside = λ e. absurd (omega arith);
  no_address = λ e. absurd (omega arith);
  known = inl (omega arith);
  bare = λ k. absurd (k refl);
}
looked_up_says found.Nothing = record {
  nothing = λ e. refl;
  page = λ e. absurd (omega arith);
  outside = λ e. absurd (omega arith);
  no_address = λ e. absurd (omega arith);
  known = inl (omega arith);
  bare = λ k. (refl, refl, refl, refl);
}
looked_up_says found.Outside = record {
  nothing = λ e. absurd (omega arith);
  page = λ e. absurd (omega arith);
  outside = λ e. refl;
  no_address = λ e. absurd (omega arith);
  known = inl (omega arith);
  bare = λ k. (refl, refl, refl, refl);
}
looked_up_says found.NoAddress = record {
  nothing = λ e. absurd (omega arith);
  page = λ e. absurd (omega arith);
  outside = λ e. absurd (omega arith);
  no_address = λ e. refl;
  known = inr refl;
  bare = λ k. (refl, refl, refl, refl);
}

-- Calls ----------------------------------------------------------------------------------------------------------------------------

module _ (s : List ℕ) where
  -- LOOK-UP: what the walk finds
  pub look_up_says : (n : Numbers) (va : ℕ) → LookUpSays (tp_look_up s n va) (walk (holds s n.origin) (memory s n.origin) n.root va)
  look_up_says n va = looked_up_says _

  -- NO ADDRESS is answered exactly for a number that is not canonical
  pub look_up_address : (n : Numbers) (va : ℕ) → ((tp_look_up s n va).kind ≡ 5) ↔ (canonical va ≡ false)
  unfolding looked_up_to_c
  look_up_address n va =
      let k = no_address_only (holds s n.origin) (memory s n.origin) n.root va in
      (λ e. k.0 ((look_up_says n va).no_address e), λ e. ap (λ f. (looked_up_to_c f).kind) (k.1 e))

  module _ (n : Numbers) (a : AlignedNumbers n) where
    pub map_says : (base frame size rights : ℕ) → rights < 8 → MapSays (tp_map s n base frame size rights)
        (the.map_answer (holds s n.origin) (memory s n.origin) (space_of n) (asked base frame size rights))
    map_says base frame size rights l = rw (map_answers n a s base frame size rights l) (mapped_says _)

    pub unmap_says : (base : ℕ) → UnmapSays (tp_unmap s n base) (the.unmap_answer (holds s n.origin) (memory s n.origin) (space_of n) base)
    unmap_says base = rw (unmap_answers n a s base) (unmapped_says _)

    pub protect_says : (base rights : ℕ) → rights < 8 → ProtectSays (tp_protect s n base rights)
        (the.protect_answer (holds s n.origin) (memory s n.origin) (space_of n) base (granted rights))
    protect_says base rights l = rw (protect_answers n a s base rights l) (protected_says _)

    pub told_says : (ticket : ℕ) → ToldSays (tp_told s n ticket) (the.told_answer (holds s n.origin) (memory s n.origin) (space_of n) ticket)
    told_says ticket = rw (told_answers n a s ticket) (told_struct _)

    pub state_says : StateSays (tp_state s n) (state_of (holds s n.origin) (memory s n.origin) (space_of n))
    state_says = rw (state_answers n a s) (counted_says _)
