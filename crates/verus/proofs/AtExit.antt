-- WHAT THE SOURCE PROMISES, OF THE BYTES AT EXIT: from the clauses `answer` and `bytes` of map, unmap and protect (tablepath/src/lib.rt), in a
-- window in which the space is whole.
use Prim.Native.Nat.{ℕ}
use mathlib.Core.List.{List}
use mathlib.Core.Path.{◌≡◌}
use Rattle.std.proofs.Common.{Result}
use Rattle.plan.specs.declared.Reason.{Reason}
use Rattle.tablepath.specs.declared.Gone.{Gone}
use Rattle.tablepath.specs.declared.Altered.{Altered}
use Rattle.word.specs.Memory.{memory, holds}
use Rattle.word.specs.Writes.{carried}
use Rattle.word.proofs.Writes.{memory_carried}
use Rattle.entry.specs.declared.Rights.{Rights}
use Rattle.tables.specs.Roles.{Role}
use Rattle.pool.specs.declared.Space.{Space}
use Rattle.plan.specs.declared.maps.Asked.{Asked}
use Rattle.tablepath.specs.Answers.{map_answer, map_writes, unmap_answer, unmap_writes, protect_answer, protect_writes}
use Rattle.tablepath.specs.Calls.{Call, call_writes}
use Rattle.tablepath.specs.Calls as calls
use Rattle.tablepath.specs.Looks.{in_window, WholeBytes}
use Rattle.tablepath.proofs.SaysAny.{refusal_leaves}
use Rattle.tablepath.proofs.Wholes.{call_leaves, call_kept}
use Rattle.verus.specs.AtExit.{InvIn, MapExit, UnmapExit, ProtectExit}
use Rattle.verus.proofs.Invariant.{inv_holds}
use Rattle.verus.proofs.MapFrame.{map_ok, map_err}
use Rattle.verus.proofs.UnmapProtect.{unmap_ok, unmap_err, protect_ok, protect_err}

module _ (s : List ℕ) (sp : Space) (role : ℕ → Role) (w : WholeBytes s sp role) where
  -- whatever a call answers, their invariant holds when it returns
  inv_at_exit : (c : Call) → InvIn (carried s sp.origin (call_writes (holds s sp.origin) (memory s sp.origin) sp c)) sp
  inv_at_exit c = let k = call_kept s sp role w c in record { role = k.0; whole = k.1; inv = inv_holds k.1 }

  -- MAP_FRAME
  pub map_exit : (q : Asked) (s' : List ℕ) (r : Result ℕ Reason) → r ≡ in_window s sp.origin map_answer sp q → s' ≡ carried s sp.origin (in_window s sp.origin map_writes sp q)
      → MapExit s s' sp q r
  unfolding call_writes
  map_exit q s' r answer bytes = rw (answer, bytes) (record {
    inv = inv_at_exit (calls.map q);
    done = λ k e. rw (memory_carried s sp.origin _ (call_leaves _ sp _ role w (calls.map q)).1) (map_ok w q k e).made.meaning;
    apart = λ k e. (map_ok w q k e).apart;
    unchanged = λ y e. (refusal_leaves s).map sp q y e;
    overlaps = λ y e a x f n. (map_err w q y e a x f n).overlaps;
  })

  -- UNMAP
  pub unmap_exit : (base : ℕ) (s' : List ℕ) (r : Result Gone Reason) → r ≡ in_window s sp.origin unmap_answer sp base → s' ≡ carried s sp.origin (in_window s sp.origin unmap_writes sp base)
      → UnmapExit s s' sp base r
  unfolding call_writes
  unmap_exit base s' r answer bytes = rw (answer, bytes) (record {
    inv = inv_at_exit (calls.unmap base);
    done = λ g e. rw (memory_carried s sp.origin _ (call_leaves _ sp _ role w (calls.unmap base)).1) (unmap_ok w base g e).made.meaning;
    had = λ g e. let k = unmap_ok w base g e in (k.rights, k.had);
    unchanged = λ y e. (refusal_leaves s).unmap sp base y e;
    missing = λ y e. (unmap_err w base y e).missing;
  })

  -- PROTECT
  pub protect_exit : (base : ℕ) (rights : Rights) (s' : List ℕ) (r : Result Altered Reason) → r ≡ in_window s sp.origin protect_answer sp base rights
      → s' ≡ carried s sp.origin (in_window s sp.origin protect_writes sp base rights) → ProtectExit s s' sp base rights r
  unfolding call_writes
  protect_exit base rights s' r answer bytes = rw (answer, bytes) (record {
    inv = inv_at_exit (calls.protect base rights);
    done = λ g e. rw (memory_carried s sp.origin _ (call_leaves _ sp _ role w (calls.protect base rights)).1) (protect_ok w base rights g e).made.meaning;
    had = λ g e. let k = protect_ok w base rights g e in (k.before, k.had);
    unchanged = λ y e. (refusal_leaves s).protect sp base rights y e;
    missing = λ y e x. (protect_err w base rights y e x).missing;
  })
