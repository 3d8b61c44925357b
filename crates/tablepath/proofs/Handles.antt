-- ONE HANDLE. Where a space is whole, every call that names its first page with other pages or another root, or begins at another page of its
-- pool, is refused and writes nothing. A call that is not refused found a book with exactly its numbers; and it leaves every other space.
use Prim.Native.Nat.{ℕ, ◌+◌, ◌*◌, ◌/◌, ◌%◌, ◌<◌}
use mathlib.Core.Bool.{Bool, true, false}
use mathlib.Core.List.{List}
use mathlib.Core.Logic.{◌⊎◌, inl, inr, ◌≢◌}
use mathlib.Core.Path.{◌≡◌, refl, sym, ap, ◌∙◌, subst}
use native.Mathlib.Omega.{arith}
use borrow.Author.Tests.{eq-eqb, ne_eqb}
use Rattle.std.proofs.Common.{Result, Ok, Err}
use Rattle.word.specs.Memory.{at, memory, holds}
use Rattle.word.specs.Writes.{after, carried, Every, none}
use Rattle.word.proofs.Writes.{every_map, after_other, holds_carried, memory_carried}
use Rattle.entry.specs.declared.Rights.{Rights}
use Rattle.entry.specs.Pat.{PatClear}
use Rattle.entry.specs.Entry.{says}
use Rattle.tables.specs.Roles.{Role, left}
use Rattle.tables.proofs.Unseen.{TablesAlike, alike_sound}
use Rattle.pool.specs.Layout.{signature_at, pages_at, root_at}
use Rattle.pool.specs.Book.{room_of, headed_of, rooted_in, names_in, names_of, opened_of, opened_in}
use Rattle.pool.specs.Booked.{SameBook}
use Rattle.pool.specs.declared.Space.{Space}
use Rattle.pool.specs.declared.Reason.{Reason as PoolReason}
use Rattle.pool.proofs.Far.{word_at_lem}
use Rattle.pool.proofs.Booked.{booked_same}
use Rattle.pool.proofs.Opening.{names_shows, fit_inside}
use Rattle.pool.proofs.Words.{word_in_lem}
use Rattle.plan.specs.Find.{find_of, sought_of}
use Rattle.plan.specs.Map as map
use Rattle.plan.specs.Unmap as unmap
use Rattle.plan.specs.Protect as protect
use Rattle.plan.specs.Rights.{write_execute}
use Rattle.plan.specs.declared.Reason.{Reason}
use Rattle.plan.specs.declared.Reason.TheVariants.{Pool, WriteExecute}
use Rattle.plan.specs.declared.maps.Asked.{Asked}
use Rattle.effect.specs.OfPool.{OfPool}
use Rattle.effect.specs.Whole.{Whole}
use Rattle.tablepath.specs.Answers.{map_answer, map_writes, map_said, unmap_answer, unmap_writes, unmap_said, protect_answer, protect_writes, protect_said, told_answer, told_writes, told_said, told_did}
use Rattle.tablepath.specs.Calls.{Call, call_writes}
use Rattle.tablepath.specs.Calls as calls
use Rattle.tablepath.specs.Handles.{Rejected, NamedNot, RefusedFor, BookAt, Disjoint}
use Rattle.tablepath.proofs.InPool.{call_in_pool}
use Rattle.tablepath.specs.Looks.{WholeBytes}

-- A space that no book names --------------------------------------------------------------------------------------------------------

module _ (h : ℕ → Bool) (m : ℕ → ℕ) (sp : Space) (r : PoolReason) (e : names_of h m sp ≡ Err r) where
  not_found : (va : ℕ) → find_of h m sp va ≡ Err (Pool r)
  unfolding find_of sought_of
  not_found va = rw e

  not_unmapped : (va : ℕ) → unmap.decide_of h m sp va ≡ unmap.removing_of h m sp va (Err (Pool r))
  unfolding unmap.decide_of
  not_unmapped va = ap (unmap.removing_of h m sp va) (not_found va)

  not_mapped : (q : Asked) → (y : Reason) × (map.decide_of h m sp q ≡ map.Refused y)
  unfolding map.decide_of map.shaped_of map.standing_of map.fitting_of
  not_mapped q = go (map.allowed_of q) refl
    where
      go : (x : Result ℕ Reason) → map.allowed_of q ≡ x → (y : Reason) × (map.shaped_of h m sp q (map.allowed_of q) ≡ map.Refused y)
      go (Err y) s = (y, rw s)
      go (Ok n) s = (Pool r, rw (s, e))

  not_protected : (va : ℕ) (g : Rights) → (y : Reason) × (protect.decide_of h m sp va g ≡ Err y)
  unfolding protect.decide_of protect.changing_of
  not_protected va g = go (write_execute g) refl
    where
      go : (b : Bool) → write_execute g ≡ b → (y : Reason) × (protect.decide_of h m sp va g ≡ Err y)
      go true s = (WriteExecute, rw s)
      go false s = (Pool r, rw (s, not_found va))

  -- EVERY CALL WITH IT IS REJECTED
  pub unnamed_rejected : (c : Call) → Rejected h m sp c
  unfolding call_writes map_answer map_writes map_said map.did_of unmap_answer unmap_writes unmap_said unmap.removing_of unmap.did_of protect_answer protect_writes protect_said protect.did_of told_answer told_writes told_said told_did opened_of opened_in
  unnamed_rejected (calls.map q) = let k = not_mapped q in record { refused = (k.0, rw k.1); nothing = rw k.1 }
  unnamed_rejected (calls.unmap va) = record { refused = (Pool r, rw (not_unmapped va)); nothing = rw (not_unmapped va) }
  unnamed_rejected (calls.protect va g) = let k = not_protected va g in record { refused = (k.0, rw k.1); nothing = rw k.1 }
  unnamed_rejected (calls.told t) = record { refused = (r, rw e); nothing = rw e }

  -- AND FOR THAT REASON
  pub unnamed_reason : RefusedFor r h m sp
  unfolding map_answer map_said map.decide_of map.shaped_of map.standing_of map.fitting_of unmap_answer unmap_said unmap.removing_of protect_answer protect_said protect.decide_of protect.changing_of told_answer told_said opened_of opened_in
  unnamed_reason = record {
    map = λ q l s. rw (s, e);
    unmap = λ va. rw (not_unmapped va);
    protect = λ va g s. rw (s, not_found va);
    told = λ t. rw e;
  }

-- THE REASON, by the header's words
pub named_not : (h : ℕ → Bool) (m : ℕ → ℕ) (sp : Space) → room_of h sp.first sp.pages ≡ Ok tt → NamedNot h m sp
unfolding names_of names_in headed_of rooted_in
named_not h m sp f = record {
  no_book = λ a. rw (f, ne_eqb _ _ a);
  other_book = λ a b. rw (f, eq-eqb _ _ a, ne_eqb _ _ b);
  bad_root = λ a b c. rw (f, eq-eqb _ _ a, eq-eqb _ _ b, ne_eqb _ _ c);
}

-- A CALL IS REJECTED, or there is a book with exactly its numbers: for any memory
module _ (h : ℕ → Bool) (m : ℕ → ℕ) (sp : Space) where
  pub rejected_or_named : ((c : Call) → Rejected h m sp c) ⊎ BookAt m sp
  rejected_or_named = go (names_of h m sp) refl
    where
      go : (x : Result (Unit {0}) PoolReason) → names_of h m sp ≡ x → ((c : Call) → Rejected h m sp c) ⊎ BookAt m sp
      go (Err r) e = inl (unnamed_rejected h m sp r e)
      go (Ok tt) e = let k = names_shows h m sp e in inr (record { marked = k.marked; sized = k.sized; rooted = k.rooted })

-- In a space that is whole ----------------------------------------------------------------------------------------------------------

module _ {h : ℕ → Bool} {sp : Space} {m : ℕ → ℕ} {role : ℕ → Role} (w : Whole h sp m role) (other : Space) where
  no_book : (BookAt m other → ⊥) → (c : Call) → Rejected h m other c
  no_book n = go (rejected_or_named h m other)
    where
      go : ((c : Call) → Rejected h m other c) ⊎ BookAt m other → (c : Call) → Rejected h m other c
      go (inl k) = k
      go (inr k) = absurd (n k)

  -- OTHER PAGES OR ANOTHER ROOT, at the same first page
  pub other_numbers : other.first ≡ sp.first → (other.pages ≢ sp.pages) ⊎ (other.root ≢ sp.root) → (c : Call) → Rejected h m other c
  other_numbers here d = no_book (go d)
    where
      go : (other.pages ≢ sp.pages) ⊎ (other.root ≢ sp.root) → BookAt m other → ⊥
      go (inl n) k = n (sym k.sized ∙ ap (λ x. m (512 * x + pages_at)) here ∙ w.booked.sized)
      go (inr n) k = n (sym k.rooted ∙ ap (λ x. m (512 * x + root_at)) here ∙ w.booked.rooted)

  -- ANOTHER PAGE of the pool as its first
  pub other_first : sp.first < other.first → other.first < sp.first + sp.pages → (c : Call) → Rejected h m other c
  other_first u v = no_book (λ k. w.alone other.first u v k.marked)

-- Other spaces ----------------------------------------------------------------------------------------------------------------------

-- A SPACE STAYS WHOLE where the words of its pool are the same
pub same_whole : {h : ℕ → Bool} {sp : Space} {m : ℕ → ℕ} {role : ℕ → Role} (m' : ℕ → ℕ) → Whole h sp m role
    → ((p i : ℕ) → OfPool sp p → i < 512 → m' (at p i) ≡ m (at p i)) → Whole h sp m' role
same_whole {h} {sp} {m} {role} m' w same = record {
  stands = w.stands;
  small = w.small;
  sound = alike_sound w.sound.built m' alike w.sound.filled;
  booked = booked_same book w.booked;
  alone = λ p u v e. w.alone p u v (sym (same p signature_at (omega arith, v) (unfold signature_at in omega arith)) ∙ e);
}
  where
    alike : TablesAlike role m m'
    alike q l i live u =
        let home = w.sound.built.home q (λ z. omega (arith, live, ap left z)) in
        let e = same q i (home.from, home.upto) u in
        (λ j. ap (says j) e, λ z. e ∙ z, λ j c. subst (PatClear j) (sym e) c)

    book : SameBook sp m m'
    book = record { words = λ k u. let i = word_in_lem sp k u in rw (← word_at_lem sp.first k) (same (sp.first + k / 512) (k % 512) (omega arith, omega (arith, i.1, w.booked.sound.room)) (omega arith)) }

-- a call writes nothing of another pool
module _ (h : ℕ → Bool) (m : ℕ → ℕ) (sp other : Space) (d : Disjoint sp other) (c : Call) where
  apart : (p q : ℕ) → OfPool sp p → OfPool other q → q ≢ p
  apart p q u v e = go d
    where
      go : Disjoint sp other → ⊥
      go (inl x) = omega (arith, x, u.1, v.0, e)
      go (inr x) = omega (arith, x, u.0, v.1, e)

  untouched : (p i : ℕ) → OfPool sp p → i < 512 → after m (call_writes h m other c) (at p i) ≡ m (at p i)
  untouched p i u v = after_other m (call_writes h m other c) p i v (every_map (λ q k. apart p q u k) _ (call_in_pool h m other c))

  -- A CALL ON ONE SPACE KEEPS EVERY OTHER whose pool is disjoint, whether it is refused or not, and whatever it finds
  pub others_whole : {role : ℕ → Role} → Whole h sp m role → Whole h sp (after m (call_writes h m other c)) role
  others_whole w = same_whole (after m (call_writes h m other c)) w untouched

-- The bytes -------------------------------------------------------------------------------------------------------------------------

-- what a call writes lies in the window, for any bytes
pub call_in_window : (s : List ℕ) (sp : Space) (m : ℕ → ℕ) (c : Call) → Every (λ q. holds s sp.origin q ≡ true) (call_writes (holds s sp.origin) m sp c)
call_in_window s sp m c = go (names_of (holds s sp.origin) m sp) refl
  where
    go : (x : Result (Unit {0}) PoolReason) → names_of (holds s sp.origin) m sp ≡ x → Every (λ q. holds s sp.origin q ≡ true) (call_writes (holds s sp.origin) m sp c)
    go (Err r) e = rw (unnamed_rejected (holds s sp.origin) m sp r e c).nothing none
    go (Ok tt) e =
        every_map (λ q u. fit_inside s sp.origin sp.first sp.pages (names_shows (holds s sp.origin) m sp e).fits q u.0 u.1) _ (call_in_pool (holds s sp.origin) m sp c)

pub others_kept : (s : List ℕ) (sp other : Space) (role : ℕ → Role) → other.origin ≡ sp.origin → Disjoint sp other → WholeBytes s sp role → (c : Call)
    → WholeBytes (carried s other.origin (call_writes (holds s other.origin) (memory s other.origin) other c)) sp role
others_kept s sp other role same d w c =
    subst (λ (o : ℕ). Whole (holds window o) sp (memory window o) role) same
    (rw (holds_carried s other.origin _, memory_carried s other.origin _ (call_in_window s other (memory s other.origin) c))
    (others_whole (holds s other.origin) (memory s other.origin) sp other d c (subst (λ (o : ℕ). Whole (holds s o) sp (memory s o) role) (sym same) w)))
  where
    window : List ℕ
    window = carried s other.origin (call_writes (holds s other.origin) (memory s other.origin) other c)
