-- What holds between operations, of the bytes: create establishes it, and every call keeps it.
use Prim.Native.Nat.{ℕ, ◌+◌, ◌%◌}
use Rattle.pool.specs.declared.NotDue.TheVariants as notdue
use mathlib.Core.Bool.{Bool, true, false, cond}
use mathlib.Core.List.{List, []}
use mathlib.Core.Path.{◌≡◌, refl}
use native.Mathlib.Omega.{arith}
use Rattle.std.proofs.Common.{Result, Ok, Err}
use Rattle.plan.specs.declared.Reason.{Reason as PlanReason}
use Rattle.pool.specs.declared.Reason.{Reason}
use Rattle.pool.specs.declared.NotDue.{NotDue}
use Rattle.plan.specs.declared.unmaps.Removal.{Removal}
use Rattle.plan.specs.declared.protects.Change.{Change}
use lib.Dec.{eqb}
use lib.ListN.{length}
use Rattle.word.specs.Memory.{memory, holds}
use Rattle.word.specs.Writes.{Write, after, carried, Every, none}
use Rattle.word.proofs.Writes.{every_map, holds_carried, memory_carried}
use Rattle.entry.specs.declared.Rights.{Rights}
use Rattle.tables.specs.Roles.{Role}
use Rattle.pool.specs.Layout.{book_pages}
use Rattle.pool.specs.Book.{book_of, room_of, in_pool, rooted_in, due_of}
use Rattle.pool.specs.Booked.{new_role}
use Rattle.pool.specs.Create.{created_of, created_in, create_writes, new_space, may_create}
use Rattle.pool.specs.Stands.{stands_of}
use Rattle.pool.specs.declared.Reason.TheVariants.{OriginUnaligned, LengthUnaligned}
use Rattle.pool.specs.declared.Space.{Space}
use Rattle.pool.proofs.Counting.{in_pool_lem}
use Rattle.pool.proofs.Opening.{may_fit, fit_small}
use Rattle.pool.proofs.Makes.{create_makes}
use Rattle.plan.specs.Map as map
use Rattle.plan.specs.Unmap as unmap
use Rattle.plan.specs.Protect as protect
use Rattle.plan.specs.declared.maps.Asked.{Asked}
use Rattle.plan.specs.Map.{Placed}
use Rattle.effect.specs.Whole.{Whole}
use Rattle.effect.proofs.Wholes.{book_opens, every_held}
use Rattle.effect.proofs.MapDone.{decided_done}
use Rattle.effect.proofs.UnmapDone.{unmapped}
use Rattle.effect.proofs.ProtectDone.{protected}
use Rattle.effect.proofs.ToldDone as effect
use Rattle.tablepath.specs.Answers.{map_writes, unmap_writes, protect_writes, told_writes, told_did, due_did}
use Rattle.tablepath.specs.Calls.{Call, call_writes}
use Rattle.tablepath.specs.Calls as calls
use Rattle.tablepath.specs.Looks.{WholeBytes}

-- Create ------------------------------------------------------------------------------------------------------------------------

module _ (s : List ℕ) (origin first pages : ℕ) where
  may_room : may_create (length s) (holds s origin) origin first pages ≡ Ok tt → room_of (holds s origin) first pages ≡ Ok tt
  unfolding may_create
  may_room e = go (eqb (origin % 4096) 0) (eqb (length s % 4096) 0) e
    where
      go : (a b : Bool) → cond a (cond b (room_of (holds s origin) first pages) (Err LengthUnaligned)) (Err OriginUnaligned) ≡ Ok tt → room_of (holds s origin) first pages ≡ Ok tt
      go true true k = k
      go true false k = let z : ◌≡◌ {A = ℕ} 0 1 = cc in absurd (omega arith)
      go false b k = let z : ◌≡◌ {A = ℕ} 0 1 = cc in absurd (omega arith)

  root_may : (p : ℕ) (x : Result (Unit {0}) Reason) → created_in first pages x ≡ Ok p → x ≡ Ok tt
  unfolding created_in
  root_may p (Ok tt) e = refl
  root_may p (Err r) e = let z : ◌≡◌ {A = ℕ} 0 1 = cc in absurd (omega arith)

  -- CREATE ESTABLISHES IT: where it answers a root, the space is whole, with every page behind the root free.
  pub create_whole : (p : ℕ) → created_of (length s) (holds s origin) origin first pages ≡ Ok p
      → (p ≡ first + book_pages pages)
      × WholeBytes (carried s origin (create_writes (length s) (holds s origin) origin first pages)) (new_space origin first pages) (new_role (new_space origin first pages))
  unfolding created_of stands_of rooted_in
  create_whole p e =
      let k = create_makes s origin first pages p e in
      let may = root_may p (may_create (length s) (holds s origin) origin first pages) e in
      let f = may_fit (length s) (holds s origin) origin first pages may in
      let here : in_pool (new_space origin first pages) (first + book_pages pages) ≡ true =
      in_pool_lem (new_space origin first pages) (first + book_pages pages) (record { behind = omega arith; before_end = omega (arith, f.enough) }) in (
        k.0,
        record {
          stands = rw (holds_carried s origin (create_writes (length s) (holds s origin) origin first pages), may_room may, here);
          small = fit_small s origin first pages f;
          sound = k.1.sound;
          booked = k.1.booked;
          alone = k.1.alone;
        },
      )

-- Every call ----------------------------------------------------------------------------------------------------------------------

module _ (h : ℕ → Bool) (sp : Space) (m : ℕ → ℕ) (role : ℕ → Role) (w : Whole h sp m role) where
  -- what a list of writes leaves
  abbrev pub Leaves : List Write → Type 0
  Leaves ws = ((role' : ℕ → Role) × Whole h sp (after m ws) role') × Every (λ q. h q ≡ true) ws

  none_leaves : Leaves []
  unfolding after
  none_leaves = ((role, w), none)

  map_leaves : (q : Asked) (x : Placed) → map.decide_of h m sp q ≡ x → Leaves (map.did_of sp x)
  unfolding map.did_of
  map_leaves q (map.Refused r) e = none_leaves
  map_leaves q (map.Go p) e = let d = decided_done w q p e in ((d.role', d.whole), every_map (λ x u. u.held) (map.writes_of sp p) d.proper)

  unmap_leaves : (va : ℕ) (x : Result Removal PlanReason) → unmap.decide_of h m sp va ≡ x → Leaves (unmap.did_of sp va x)
  unfolding unmap.did_of
  unmap_leaves va (Err y) e = none_leaves
  unmap_leaves va (Ok r) e = let d = unmapped w va r e in ((d.role', d.whole), every_held w (unmap.writes_of sp va r) d.proper)

  protect_leaves : (va : ℕ) (g : Rights) (x : Result Change PlanReason) → protect.decide_of h m sp va g ≡ x → Leaves (protect.did_of x)
  unfolding protect.did_of
  protect_leaves va g (Err y) e = none_leaves
  protect_leaves va g (Ok c) e = let d = protected w va g c e in ((role, d.whole), every_held w (protect.writes_of c) d.proper)

  due_leaves : (t : ℕ) (x : Result ℕ NotDue) → due_of (book_of m sp) t ≡ x → Leaves (due_did sp (book_of m sp) x)
  unfolding due_did
  due_leaves t (Err notdue.Unknown) e = none_leaves
  due_leaves t (Err notdue.Spent) e = none_leaves
  due_leaves t (Ok k) e = let d = effect.told w t k e in ((_, d.whole), every_held w _ d.proper)

  pub call_leaves : (c : Call) → Leaves (call_writes h m sp c)
  unfolding call_writes map_writes unmap_writes protect_writes told_writes told_did
  call_leaves (calls.map q) = map_leaves q (map.decide_of h m sp q) refl
  call_leaves (calls.unmap va) = unmap_leaves va (unmap.decide_of h m sp va) refl
  call_leaves (calls.protect va g) = protect_leaves va g (protect.decide_of h m sp va g) refl
  call_leaves (calls.told t) = rw (book_opens w) (due_leaves t (due_of (book_of m sp) t) refl)

-- EVERY CALL KEEPS IT, whatever it answers.
pub call_kept : (s : List ℕ) (sp : Space) (role : ℕ → Role) → WholeBytes s sp role → (c : Call)
    → (role' : ℕ → Role) × WholeBytes (carried s sp.origin (call_writes (holds s sp.origin) (memory s sp.origin) sp c)) sp role'
call_kept s sp role w c =
    let k = call_leaves (holds s sp.origin) sp (memory s sp.origin) role w c in
    (k.0.0, rw (holds_carried s sp.origin _, memory_carried s sp.origin _ k.1) k.0.1)
