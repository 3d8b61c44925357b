-- A REFUSAL TOUCHES NOTHING, for any bytes and any numbers: every byte is what it was, and every field but the reason is 0.
use Prim.Native.Nat.{ℕ, ◌/◌, ◌%◌}
use Rattle.pool.specs.declared.NotDue.TheVariants as notdue
use mathlib.Core.Bool.{Bool, true, false, cond}
use mathlib.Core.List.{List, [], ◌∷◌}
use mathlib.Core.Logic.{◌≢◌}
use mathlib.Core.Path.{◌≡◌, refl}
use Rattle.std.proofs.Common.{Result, Ok, Err}
use Rattle.pool.specs.declared.Reason.{Reason as PoolReason}
use Rattle.plan.specs.declared.Reason.{Reason}
use Rattle.pool.specs.declared.Space.{Space}
use Rattle.pool.specs.declared.NotDue.{NotDue}
use Rattle.plan.specs.declared.unmaps.Removal.{Removal}
use Rattle.plan.specs.declared.protects.Change.{Change}
use lib.Dec.{eqb}
use lib.ListN.{length, replicate}
use Rattle.word.specs.Memory.{memory, holds}
use Rattle.word.specs.Writes.{carried}
use Rattle.entry.specs.declared.Rights.{Rights}
use Rattle.pool.specs.Book.{book_of, opened_of, due_of}
use Rattle.pool.specs.Create.{created_of, created_in, create_writes, create_in, new_space, may_create}
use Rattle.pool.specs.declared.Book.{Book}
use Rattle.plan.specs.Map as map
use Rattle.plan.specs.Map.{Placed}
use Rattle.plan.specs.Unmap as unmap
use Rattle.plan.specs.Protect as protect
use Rattle.plan.specs.declared.maps.Asked.{Asked}
use Rattle.tablepath.specs.Answers as the
use Rattle.pool.specs.declared.Reason.TheVariants.{OriginUnaligned, LengthUnaligned}
use Rattle.abi.specs.ReasonNumbers.{pool_reason, number_of, pool_unaligned}
use Rattle.abi.specs.Answers.{rights_in, created_to_c, mapped_to_c, unmapped_to_c, protected_to_c, told_to_c}
use Rattle.abi.specs.Calls as call
use Rattle.abi.specs.Calls.{site_of, map_site, protect_site, ask, bytes_after, create_answer, map_answer, map_bytes, unmap_answer, unmap_bytes, protect_answer, protect_bytes, told_answer, told_bytes}
use Rattle.abi.specs.Relied as c
use Rattle.abi.specs.Relied.{Numbers, Call, tp_create, create_leaves, leaves, reason, others, Untouched}
use Rattle.abi.specs.declared.answers.Created.{Created}
use Rattle.abi.specs.declared.answers.Unmapped.{Unmapped}
use Rattle.abi.specs.declared.answers.Protected.{Protected}

module _ (s : List ℕ) where
  same : {k : List ℕ} → k ≡ replicate (length k) 0 → Untouched s s k
  same e = record { bytes = refl; zeros = e }

  map_refused : (q : Asked) (x : Result Space ℕ) → (map_answer s q x).reason ≢ 0 → Untouched s (map_bytes s q x) ((map_answer s q x).tables ∷ [])
  unfolding map_answer bytes_after mapped_to_c the.map_answer the.map_writes the.map_said map.did_of carried
  map_refused q (Err y) k = same refl
  map_refused q (Ok sp) k = go (map.decide_of (holds s sp.origin) (memory s sp.origin) sp q) k
    where
      go : (d : Placed) → (mapped_to_c (the.map_said d)).reason ≢ 0 → Untouched s (carried s sp.origin (map.did_of sp d)) ((mapped_to_c (the.map_said d)).tables ∷ [])
      go (map.Go p) k = absurd (k refl)
      go (map.Refused r) k = same refl

  -- the fields of unmap's answer
  unmap_fields : Unmapped → List ℕ
  unmap_fields x = x.frame ∷ x.size ∷ x.aside ∷ x.ticket ∷ []

  unmap_refused : (base : ℕ) (x : Result Space ℕ) → (unmap_answer s base x).reason ≢ 0 → Untouched s (unmap_bytes s base x) (unmap_fields (unmap_answer s base x))
  unfolding unmap_answer bytes_after unmapped_to_c unmap_fields the.unmap_answer the.unmap_writes the.unmap_said unmap.did_of carried
  unmap_refused base (Err y) k = same refl
  unmap_refused base (Ok sp) k = go (unmap.decide_of (holds s sp.origin) (memory s sp.origin) sp base) k
    where
      go : (d : Result Removal Reason) → (unmapped_to_c (the.unmap_said (book_of (memory s sp.origin) sp) d)).reason ≢ 0
          → Untouched s (carried s sp.origin (unmap.did_of sp base d)) (unmap_fields (unmapped_to_c (the.unmap_said (book_of (memory s sp.origin) sp) d)))
      go (Ok r) k = absurd (k refl)
      go (Err y) k = same refl

  protect_fields : Protected → List ℕ
  protect_fields x = x.frame ∷ x.size ∷ x.ticket ∷ []

  protect_refused : (base : ℕ) (r : Rights) (x : Result Space ℕ) → (protect_answer s base r x).reason ≢ 0
      → Untouched s (protect_bytes s base r x) (protect_fields (protect_answer s base r x))
  unfolding protect_answer bytes_after protected_to_c protect_fields the.protect_answer the.protect_writes the.protect_said protect.did_of carried
  protect_refused base r (Err y) k = same refl
  protect_refused base r (Ok sp) k = go (protect.decide_of (holds s sp.origin) (memory s sp.origin) sp base r) k
    where
      go : (d : Result Change Reason) → (protected_to_c (the.protect_said d)).reason ≢ 0
          → Untouched s (carried s sp.origin (protect.did_of d)) (protect_fields (protected_to_c (the.protect_said d)))
      go (Ok g) k = absurd (k refl)
      go (Err y) k = same refl

  told_refused : (ticket : ℕ) (x : Result Space ℕ) → (told_answer s ticket x).reason ≢ 0 → Untouched s (told_bytes s ticket x) ((told_answer s ticket x).released ∷ [])
  unfolding told_answer bytes_after told_to_c the.told_answer the.told_writes the.told_said the.told_did the.due_said the.due_did carried
  told_refused ticket (Err y) k = same refl
  told_refused ticket (Ok sp) k = go (opened_of (holds s sp.origin) (memory s sp.origin) sp) k
    where
      due_refused : (b : Book) (d : Result ℕ NotDue) → (told_to_c (the.due_said d)).reason ≢ 0 → Untouched s (carried s sp.origin (the.due_did sp b d)) ((told_to_c (the.due_said d)).released ∷ [])
      due_refused b (Ok n) k = absurd (k refl)
      due_refused b (Err notdue.Unknown) k = same refl
      due_refused b (Err notdue.Spent) k = same refl

      go : (o : Result Book PoolReason) → (told_to_c (the.told_said ticket o)).reason ≢ 0
          → Untouched s (carried s sp.origin (the.told_did sp ticket o)) ((told_to_c (the.told_said ticket o)).released ∷ [])
      go (Ok b) k = due_refused b (due_of b ticket) k
      go (Err r) k = same refl

  -- EVERY CALL in a space, or in what is none
  pub call_refused : (n : Numbers) (x : Call) → reason s n x ≢ 0 → Untouched s (leaves s n x) (others s n x)
  unfolding reason leaves others unmap_fields protect_fields
  call_refused n (c.map base frame size rights) k = map_refused (ask base frame size rights) (map_site n.origin n.pool n.pages n.root base frame size rights) k
  call_refused n (c.unmap base) k = unmap_refused base (site_of n.origin n.pool n.pages n.root) k
  call_refused n (c.protect base rights) k = protect_refused base (rights_in rights) (protect_site n.origin n.pool n.pages n.root rights) k
  call_refused n (c.told ticket) k = told_refused ticket (site_of n.origin n.pool n.pages n.root) k

  -- CREATE
  pub create_refused : (origin pool pages : ℕ) → (tp_create s origin pool pages).reason ≢ 0
      → Untouched s (create_leaves s origin pool pages) ((tp_create s origin pool pages).root ∷ [])
  unfolding create_answer call.create_writes created_to_c created_of created_in create_writes create_in carried
  create_refused origin pool pages k =
      go (eqb (origin % 4096) 0) (eqb (length s % 4096) 0) (eqb (pool % 4096) 0) (may_create (length s) (holds s origin) origin (pool / 4096) pages) k
    where
      answer : Bool → Bool → Bool → Result (Unit {0}) PoolReason → Created
      answer x y z f =
          cond x (cond y (cond z (created_to_c (created_in (pool / 4096) pages f)) (record { reason = number_of pool_unaligned; root = 0 })) (record { reason = pool_reason LengthUnaligned; root = 0 }))
          (record { reason = pool_reason OriginUnaligned; root = 0 })

      bytes : Bool → Bool → Bool → Result (Unit {0}) PoolReason → List ℕ
      bytes x y z f = carried s origin (cond x (cond y (cond z (create_in (new_space origin (pool / 4096) pages) f) []) []) [])

      go : (x y z : Bool) (f : Result (Unit {0}) PoolReason) → (answer x y z f).reason ≢ 0 → Untouched s (bytes x y z f) ((answer x y z f).root ∷ [])
      go true true true (Ok tt) k = absurd (k refl)
      go true true true (Err r) k = same refl
      go true true false f k = same refl
      go true false z f k = same refl
      go false y z f k = same refl
