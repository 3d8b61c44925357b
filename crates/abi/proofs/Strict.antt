-- NO PAGE IS WRITABLE AND EXECUTABLE, by C's numbers: look-up answers none after tp_raw_create, and every call keeps it so.
use Prim.Native.Nat.{ℕ}
use mathlib.Core.Bool.{Bool, true, false}
use mathlib.Core.List.{List}
use mathlib.Core.Logic.{◌⊎◌, inl, inr}
use mathlib.Core.Path.{◌≡◌, refl, sym, ap, ◌∙◌}
use native.Mathlib.Omega.{arith}
use Rattle.walk.specs.Walk.{canonical}
use Rattle.walk.specs.declared.Found.{Found}
use Rattle.walk.specs.declared.Found.TheVariants.{Page, Nothing, Outside, NoAddress}
use Rattle.plan.specs.Rights.{write_execute}
use Rattle.tablepath.specs.Looks.{look_up}
use Rattle.tablepath.specs.Strict.{NotBoth, StrictBytes}
use Rattle.tablepath.proofs.Strict.{call_keeps_strict}
use Rattle.abi.specs.Answers.{rights_word, looked_up_to_c}
use Rattle.abi.specs.Relied.{Numbers, AlignedNumbers, space_of, granted, Call, KnownRights, call_of, leaves, WholeAt, tp_create, create_leaves, new_numbers, tp_look_up, StrictAt}
use Rattle.abi.proofs.Meant.{meant_or_same}
use Rattle.abi.proofs.Named.{rights_granted, call_leaves}
use Rattle.abi.proofs.Walked.{rights_told}
use Rattle.abi.proofs.Says.{look_up_address}
use Rattle.abi.proofs.RoundTrips.{looks}
use Rattle.abi.proofs.Creating.{create_done}

module _ (n : Numbers) (a : AlignedNumbers n) (s : List ℕ) where
  -- what the tables mean, as C gets it
  strict_told : StrictBytes s (space_of n) → StrictAt s n
  unfolding NotBoth looked_up_to_c
  strict_told k va = go (look_up s (space_of n) va) (looks n a s va) (k va)
    where
      go : (o : Found) → tp_look_up s n va ≡ looked_up_to_c o → NotBoth o → (tp_look_up s n va).kind ≡ 1 → write_execute (granted (tp_look_up s n va).rights) ≡ false
      go (Page b z f r) e j i = ap (λ x. write_execute (granted x.rights)) e ∙ ap write_execute (sym (rights_granted (rights_word r)) ∙ rights_told r) ∙ j
      go Nothing e j i = absurd (omega (arith, ap (λ x. x.kind) e, i))
      go Outside e j i = absurd (omega (arith, ap (λ x. x.kind) e, i))
      go NoAddress e j i = absurd (omega (arith, ap (λ x. x.kind) e, i))

  strict_meant : StrictAt s n → StrictBytes s (space_of n)
  unfolding NotBoth looked_up_to_c
  strict_meant k va = go (look_up s (space_of n) va) (looks n a s va)
    where
      go : (o : Found) → tp_look_up s n va ≡ looked_up_to_c o → NotBoth o
      go (Page b z f r) e =
          ap write_execute (sym (sym (rights_granted (rights_word r)) ∙ rights_told r)) ∙ ap (λ x. write_execute (granted x.rights)) (sym e) ∙ k va (ap (λ x. x.kind) e)
      go Nothing e = tt
      go Outside e = tt
      go NoAddress e = tt

-- AFTER CREATE there is none
pub create_then_strict : (s : List ℕ) (origin pool pages : ℕ) → (tp_create s origin pool pages).reason ≡ 0
    → StrictAt (create_leaves s origin pool pages) (new_numbers s origin pool pages)
create_then_strict s origin pool pages e va k = go (canonical va) refl
  where
    go : (b : Bool) → canonical va ≡ b → write_execute (granted (tp_look_up (create_leaves s origin pool pages) (new_numbers s origin pool pages) va).rights) ≡ false
    go true u = absurd (omega (arith, k, ap (λ x. x.kind) ((create_done s origin pool pages e).empty va u)))
    go false u = absurd (omega (arith, k, (look_up_address (create_leaves s origin pool pages) (new_numbers s origin pool pages) va).1 u))

-- EVERY CALL KEEPS IT, whatever it answers
pub every_call_strict : (s : List ℕ) (n : Numbers) → WholeAt s n → StrictAt s n → (x : Call) → StrictAt (leaves s n x) n
every_call_strict s n w k x = go (meant_or_same s n x)
  where
    go : KnownRights x ⊎ (leaves s n x ≡ s) → StrictAt (leaves s n x) n
    go (inl l) =
        strict_told n w.aligned (leaves s n x)
        (rw (call_leaves n w.aligned s x l) (call_keeps_strict s (space_of n) w.role w.whole (call_of x) (strict_meant n w.aligned s k)))
    go (inr e) = rw e k
