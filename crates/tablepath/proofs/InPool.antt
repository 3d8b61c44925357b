-- FOR ANY BYTES: whatever the book, the tables and the bounds say, a call writes words of the pool, and every other byte stays.
use Prim.Native.Nat.{ℕ, ◌+◌, ◌-◌, ◌*◌, ◌/◌}
use Rattle.pool.specs.declared.NotDue.TheVariants as notdue
use mathlib.Core.Bool.{Bool, true, false, cond, ◌&&◌}
use mathlib.Core.List.{List, [], ◌∷◌}
use mathlib.Core.Logic.{◌≢◌}
use mathlib.Core.Path.{◌≡◌, refl, ◌∙◌, subst}
use native.Mathlib.Omega.{arith}
use lib.Dec.{ltb}
use borrow.Author.Tests.{ltb-true}
use Rattle.std.proofs.Common.{Result, Ok, Err}
use Rattle.pool.specs.declared.Reason.{Reason as PoolReason}
use Rattle.plan.specs.declared.Reason.{Reason}
use Rattle.pool.specs.declared.NotDue.{NotDue}
use Rattle.plan.specs.declared.unmaps.Removal.{Removal}
use Rattle.plan.specs.declared.protects.Change.{Change}
use lib.ListN.{get_or}
use Rattle.word.specs.Bytes.{put_word}
use Rattle.word.specs.Memory.{memory, holds, at, written}
use Rattle.word.specs.Writes.{Write, carried, Every, none, more}
use Rattle.word.proofs.Bytes.{byte_put_apart}
use Rattle.word.proofs.Memory.{held}
use Rattle.word.proofs.Tests.{and_both}
use Rattle.word.proofs.Writes.{every_map}
use Rattle.entry.specs.declared.Rights.{Rights}
use Rattle.pool.specs.Book.{opened_of, due_of}
use Rattle.pool.specs.declared.Space.{Space}
use Rattle.pool.specs.declared.Book.{Book}
use Rattle.plan.specs.Map as map
use Rattle.plan.specs.Unmap as unmap
use Rattle.plan.specs.Protect as protect
use Rattle.plan.specs.declared.maps.Asked.{Asked}
use Rattle.plan.specs.Map.{Placed}
use Rattle.effect.specs.OfPool.{OfPool}
use Rattle.effect.proofs.MapInPool.{map_in_pool}
use Rattle.effect.proofs.UnmapInPool.{unmap_in_pool}
use Rattle.effect.proofs.InPool.{protect_in_pool, told_in_pool}
use Rattle.tablepath.specs.Answers.{map_writes, unmap_writes, protect_writes, told_writes, told_did, due_did}
use Rattle.tablepath.specs.Calls.{Call, call_writes}
use Rattle.tablepath.specs.Calls as calls

module _ (h : ℕ → Bool) (m : ℕ → ℕ) (sp : Space) where
  did_map : (q : Asked) (x : Placed) → map.decide_of h m sp q ≡ x → Every (OfPool sp) (map.did_of sp x)
  unfolding map.did_of
  did_map q (map.Go p) e = map_in_pool h m sp q p e
  did_map q (map.Refused r) e = none

  did_unmap : (va : ℕ) (x : Result Removal Reason) → unmap.decide_of h m sp va ≡ x → Every (OfPool sp) (unmap.did_of sp va x)
  unfolding unmap.did_of
  did_unmap va (Ok r) e = unmap_in_pool h m sp va r e
  did_unmap va (Err y) e = none

  did_protect : (va : ℕ) (g : Rights) (x : Result Change Reason) → protect.decide_of h m sp va g ≡ x → Every (OfPool sp) (protect.did_of x)
  unfolding protect.did_of
  did_protect va g (Ok c) e = protect_in_pool h m sp va g c e
  did_protect va g (Err y) e = none

  did_due : (b : Book) (x : Result ℕ NotDue) → opened_of h m sp ≡ Ok b → Every (OfPool sp) (due_did sp b x)
  unfolding due_did
  did_due b (Ok k) e = told_in_pool h m sp b k e
  did_due b (Err notdue.Unknown) e = none
  did_due b (Err notdue.Spent) e = none

  did_told : (t : ℕ) (x : Result Book PoolReason) → opened_of h m sp ≡ x → Every (OfPool sp) (told_did sp t x)
  unfolding told_did
  did_told t (Ok b) e = did_due b (due_of b t) e
  did_told t (Err r) e = none

  -- EVERY WRITE of every call is of a page of the pool.
  pub call_in_pool : (c : Call) → Every (OfPool sp) (call_writes h m sp c)
  unfolding call_writes map_writes unmap_writes protect_writes told_writes
  call_in_pool (calls.map q) = did_map q (map.decide_of h m sp q) refl
  call_in_pool (calls.unmap va) = did_unmap va (unmap.decide_of h m sp va) refl
  call_in_pool (calls.protect va g) = did_protect va g (protect.decide_of h m sp va g) refl
  call_in_pool (calls.told t) = did_told t (opened_of h m sp) refl

-- byte b of a window belongs to the page (origin + b) / 4096; a word of another page leaves it
byte_written : (s : List ℕ) (origin p i w b : ℕ) → p ≢ (origin + b) / 4096 → get_or (written s origin p i w) b 0 ≡ get_or s b 0
unfolding written
byte_written s origin p i w b n = go (ltb i 512 && holds s origin p) refl
  where
    go : (x : Bool) → (ltb i 512 && holds s origin p) ≡ x → get_or (cond x (put_word s (8 * at p i - origin) w) s) b 0 ≡ get_or s b 0
    go false e = refl
    go true e =
        let a = and_both _ _ e in
        byte_put_apart s (8 * at p i - origin) w b
        (λ k u d. n (omega (arith, ltb-true i 512 a.0, (held s origin p a.1).from)))

byte_carried : (s : List ℕ) (origin b : ℕ) (xs : List Write) → Every (λ p. p ≢ (origin + b) / 4096) xs → get_or (carried s origin xs) b 0 ≡ get_or s b 0
unfolding carried
byte_carried s origin b [] none = refl
byte_carried s origin b (x ∷ xs) (more p r) =
    byte_carried (written s origin x.page x.index x.word) origin b xs r ∙ byte_written s origin x.page x.index x.word b p.in_page

-- EVERY OTHER BYTE STAYS, whatever the call answers.
pub others_untouched : (s : List ℕ) (sp : Space) (c : Call) (b : ℕ) → ¬ OfPool sp ((sp.origin + b) / 4096)
    → get_or (carried s sp.origin (call_writes (holds s sp.origin) (memory s sp.origin) sp c)) b 0 ≡ get_or s b 0
others_untouched s sp c b n =
    byte_carried s sp.origin b _ (every_map (λ p u e. n (subst (OfPool sp) e u)) _ (call_in_pool (holds s sp.origin) (memory s sp.origin) sp c))
