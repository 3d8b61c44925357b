-- What map is asked is looked at before the space, whichever of the two the code looks at first; of protect the rights are.
use Prim.Native.Nat.{ℕ}
use mathlib.Core.Bool.{Bool, true, false, cond}
use mathlib.Core.List.{List}
use mathlib.Core.Path.{◌≡◌, refl}
use Rattle.std.proofs.Common.{Result, Ok, Err}
use Rattle.plan.specs.declared.Reason.{Reason}
use Rattle.word.specs.Memory.{memory, holds}
use Rattle.word.specs.Writes.{Wrote, carried}
use Rattle.word.proofs.Budget.{wrote_nothing}
use Rattle.pool.specs.declared.Space.{Space}
use Rattle.plan.specs.Map.{allowed_of, decide_of, shaped_of, did_of}
use Rattle.plan.specs.Protect as protect
use Rattle.plan.specs.Rights.{write_execute}
use Rattle.plan.specs.declared.Reason.TheVariants.{WriteExecute}
use Rattle.plan.specs.declared.maps.Asked.{Asked}
use Rattle.plan.proofs.Strictly.{protect_refuses}
use Rattle.tablepath.specs.Answers as the
use Rattle.abi.specs.ReasonNumbers.{reason_of}
use Rattle.abi.specs.Answers.{rights_in, mapped_to_c, protected_to_c}
use Rattle.abi.specs.Calls.{site_of, shaped_site, asked_site, misplaced_by, misplaced_of, bytes_after, InOrder, map_answer, map_writes, map_bytes, strict_site, protect_answer, protect_writes, protect_bytes}

module _ (q : Asked) (origin pool pages root : ℕ) where
  pub refused_asked : (y : ℕ) → site_of origin pool pages root ≡ Err y → asked_site origin pool pages root q ≡ Err (misplaced_of q y)
  unfolding asked_site shaped_site misplaced_of misplaced_by
  refused_asked y e = rw e (go (allowed_of q))
    where
      go : (x : Result ℕ Reason) → shaped_site x (Err y) ≡ Err (misplaced_by y x)
      go (Ok n) = refl
      go (Err r) = refl

  module _ (s : List ℕ) (sp : Space) (e : site_of origin pool pages root ≡ Ok sp) where
    pub answer_asked : map_answer s q (asked_site origin pool pages root q) ≡ mapped_to_c (the.map_answer (holds s sp.origin) (memory s sp.origin) sp q)
    unfolding asked_site shaped_site map_answer mapped_to_c the.map_answer the.map_said decide_of shaped_of
    answer_asked = rw e (go (allowed_of q) refl)
      where
        go : (x : Result ℕ Reason) → allowed_of q ≡ x
            → map_answer s q (shaped_site x (Ok sp)) ≡ mapped_to_c (the.map_said (shaped_of (holds s sp.origin) (memory s sp.origin) sp q x))
        go (Ok n) f = rw f
        go (Err r) f = refl

    pub order_asked : (left rest : ℕ) (t : List ℕ) → Wrote sp.origin (map_writes s q sp) left rest s t
        → InOrder (asked_site origin pool pages root q) (map_writes s q) left rest s t
    unfolding asked_site shaped_site the.map_writes did_of decide_of shaped_of
    order_asked left rest t w = rw e (go (allowed_of q) refl)
      where
        go : (x : Result ℕ Reason) → allowed_of q ≡ x → InOrder (shaped_site x (Ok sp)) (map_writes s q) left rest s t
        go (Ok n) f = w
        go (Err r) f = wrote_nothing sp.origin left rest s t (rw f at w)

    pub bytes_asked : map_bytes s q (asked_site origin pool pages root q) ≡ carried s sp.origin (map_writes s q sp)
    unfolding asked_site shaped_site bytes_after carried the.map_writes did_of decide_of shaped_of
    bytes_asked = rw e (go (allowed_of q) refl)
      where
        go : (x : Result ℕ Reason) → allowed_of q ≡ x
            → map_bytes s q (shaped_site x (Ok sp)) ≡ carried s sp.origin (did_of sp (shaped_of (holds s sp.origin) (memory s sp.origin) sp q x))
        go (Ok n) f = rw f
        go (Err r) f = refl

-- protect, where there is a space: plan looks at the rights again
module _ (rights base : ℕ) (s : List ℕ) (sp : Space) where
  pub strict_answer : protect_answer s base (rights_in rights) (strict_site rights (Ok sp))
      ≡ protected_to_c (the.protect_answer (holds s sp.origin) (memory s sp.origin) sp base (rights_in rights))
  unfolding strict_site protect_answer protected_to_c the.protect_answer the.protect_said
  strict_answer = go (write_execute (rights_in rights)) refl
    where
      go : (b : Bool) → write_execute (rights_in rights) ≡ b → protect_answer s base (rights_in rights) (cond b (Err (reason_of WriteExecute)) (Ok sp))
          ≡ protected_to_c (the.protect_said (protect.decide_of (holds s sp.origin) (memory s sp.origin) sp base (rights_in rights)))
      go true e = rw (protect_refuses (holds s sp.origin) (memory s sp.origin) sp base (rights_in rights) e)
      go false e = refl

  pub strict_bytes : protect_bytes s base (rights_in rights) (strict_site rights (Ok sp)) ≡ carried s sp.origin (protect_writes s base (rights_in rights) sp)
  unfolding strict_site bytes_after carried the.protect_writes protect.did_of
  strict_bytes = go (write_execute (rights_in rights)) refl
    where
      go : (b : Bool) → write_execute (rights_in rights) ≡ b → protect_bytes s base (rights_in rights) (cond b (Err (reason_of WriteExecute)) (Ok sp))
          ≡ carried s sp.origin (protect.did_of (protect.decide_of (holds s sp.origin) (memory s sp.origin) sp base (rights_in rights)))
      go true e = rw (protect_refuses (holds s sp.origin) (memory s sp.origin) sp base (rights_in rights) e)
      go false e = refl
