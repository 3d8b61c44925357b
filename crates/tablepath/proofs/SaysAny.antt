-- What the answers say, for any bytes: which decision an answer comes of; told and its book; and that a refusal leaves every byte.
use Prim.Native.Nat.{ℕ}
use Rattle.tablepath.specs.declared.NotReleased.TheVariants as notreleased
use Rattle.pool.specs.declared.NotDue.TheVariants as notdue
use mathlib.Core.Bool.{Bool}
use mathlib.Core.List.{List}
use mathlib.Core.Logic.{◌≢◌}
use mathlib.Core.Path.{◌≡◌, refl, ap}
use native.Mathlib.Omega.{arith}
use Rattle.std.proofs.Common.{Result, Ok, Err}
use Rattle.pool.specs.declared.NotDue.{NotDue}
use lib.ListN.{length}
use Rattle.word.specs.Memory.{memory, holds}
use Rattle.word.specs.Writes.{carried}
use Rattle.entry.specs.declared.Rights.{Rights}
use Rattle.pool.specs.Book.{book_of, opened_of, due_of}
use Rattle.pool.specs.Create.{created_of, created_in, create_writes, create_in, new_space, may_create}
use Rattle.pool.specs.declared.Space.{Space}
use Rattle.pool.specs.declared.Book.{Book}
use Rattle.pool.specs.declared.Reason.{Reason as PoolReason}
use Rattle.plan.specs.Map as map
use Rattle.plan.specs.Map.{Placed}
use Rattle.plan.specs.Unmap as unmap
use Rattle.plan.specs.Protect as protect
use Rattle.plan.specs.declared.Reason.{Reason}
use Rattle.plan.specs.declared.maps.Asked.{Asked}
use Rattle.plan.specs.declared.maps.Mapping.{Mapping}
use Rattle.plan.specs.declared.unmaps.Removal.{Removal}
use Rattle.plan.specs.declared.protects.Change.{Change}
use Rattle.tablepath.specs.declared.Gone.{Gone}
use Rattle.tablepath.specs.declared.Altered.{Altered}
use Rattle.tablepath.specs.Answers.{map_answer, map_writes, map_said, unmap_answer, unmap_writes, unmap_said, gone_of, protect_answer, protect_writes, altered_of, protect_said, told_answer, told_writes, told_said, told_did, due_said, due_did}
use Rattle.tablepath.specs.Says.{ToldOpened, Declined, RefusalLeaves}

-- An answer comes of one decision --------------------------------------------------------------------------------------------------

pub map_refused_by : (y : Reason) (x : Placed) → map_said x ≡ Err y → x ≡ map.Refused y
unfolding map_said
map_refused_by y (map.Go p) e = let z : ◌≡◌ {A = ℕ} 0 1 = cc in absurd (omega arith)
map_refused_by y (map.Refused r) e = let same : r ≡ y = cc in ap map.Refused same

pub map_done_by : (k : ℕ) (x : Placed) → map_said x ≡ Ok k → (p : Mapping) × (x ≡ map.Go p) × (p.fresh.need ≡ k)
unfolding map_said
map_done_by k (map.Go p) e = (p, refl, cc)
map_done_by k (map.Refused r) e = let z : ◌≡◌ {A = ℕ} 0 1 = cc in absurd (omega arith)

-- where it is done, it answers the number of tables that the plan makes
pub map_goes : (h : ℕ → Bool) (m : ℕ → ℕ) (sp : Space) (q : Asked) (p : Mapping) → map.decide_of h m sp q ≡ map.Go p → map_answer h m sp q ≡ Ok p.fresh.need
unfolding map_answer map_said
map_goes h m sp q p e = rw e

pub unmap_refused_by : (b : Book) (y : Reason) (x : Result Removal Reason) → unmap_said b x ≡ Err y → x ≡ Err y
unfolding unmap_said
unmap_refused_by b y (Ok r) e = let z : ◌≡◌ {A = ℕ} 0 1 = cc in absurd (omega arith)
unmap_refused_by b y (Err r) e = let same : r ≡ y = cc in ap Err same

pub unmap_done_by : (b : Book) (g : Gone) (x : Result Removal Reason) → unmap_said b x ≡ Ok g → (r : Removal) × (x ≡ Ok r) × (gone_of b r ≡ g)
unfolding unmap_said
unmap_done_by b g (Ok r) e = (r, refl, cc)
unmap_done_by b g (Err y) e = let z : ◌≡◌ {A = ℕ} 0 1 = cc in absurd (omega arith)

pub protect_refused_by : (y : Reason) (x : Result Change Reason) → protect_said x ≡ Err y → x ≡ Err y
unfolding protect_said
protect_refused_by y (Ok c) e = let z : ◌≡◌ {A = ℕ} 0 1 = cc in absurd (omega arith)
protect_refused_by y (Err r) e = let same : r ≡ y = cc in ap Err same

pub protect_done_by : (g : Altered) (x : Result Change Reason) → protect_said x ≡ Ok g → (c : Change) × (x ≡ Ok c) × (altered_of c ≡ g)
unfolding protect_said
protect_done_by g (Ok c) e = (c, refl, cc)
protect_done_by g (Err y) e = let z : ◌≡◌ {A = ℕ} 0 1 = cc in absurd (omega arith)

-- where they are done, they answer the size of the page
pub unmap_goes : (h : ℕ → Bool) (m : ℕ → ℕ) (sp : Space) (va : ℕ) (r : Removal) → unmap.decide_of h m sp va ≡ Ok r
    → (g : Gone) × (unmap_answer h m sp va ≡ Ok g) × (g.size ≡ r.page.size)
unfolding unmap_answer unmap_said gone_of
unmap_goes h m sp va r e = (_, ap (unmap_said (book_of m sp)) e, refl)

pub protect_goes : (h : ℕ → Bool) (m : ℕ → ℕ) (sp : Space) (va : ℕ) (rights : Rights) (c : Change) → protect.decide_of h m sp va rights ≡ Ok c
    → (g : Altered) × (protect_answer h m sp va rights ≡ Ok g) × (g.size ≡ c.size)
unfolding protect_answer protect_said altered_of
protect_goes h m sp va rights c e = (_, ap protect_said e, refl)

pub due_unknown : (x : Result ℕ NotDue) → due_said x ≡ Err notreleased.Unknown → x ≡ Err notdue.Unknown
unfolding due_said
due_unknown (Ok k) e = let z : ◌≡◌ {A = ℕ} 0 1 = cc in absurd (omega arith)
due_unknown (Err notdue.Unknown) e = refl
due_unknown (Err notdue.Spent) e = let z : ◌≡◌ {A = ℕ} 0 1 = cc in absurd (omega arith)

pub due_spent : (x : Result ℕ NotDue) → due_said x ≡ Err notreleased.Spent → x ≡ Err notdue.Spent
unfolding due_said
due_spent (Ok k) e = let z : ◌≡◌ {A = ℕ} 0 1 = cc in absurd (omega arith)
due_spent (Err notdue.Unknown) e = let z : ◌≡◌ {A = ℕ} 0 1 = cc in absurd (omega arith)
due_spent (Err notdue.Spent) e = refl

pub due_released : (k : ℕ) (x : Result ℕ NotDue) → due_said x ≡ Ok k → x ≡ Ok k
unfolding due_said
due_released k (Ok n) e = let same : n ≡ k = cc in ap Ok same
due_released k (Err notdue.Unknown) e = let z : ◌≡◌ {A = ℕ} 0 1 = cc in absurd (omega arith)
due_released k (Err notdue.Spent) e = let z : ◌≡◌ {A = ℕ} 0 1 = cc in absurd (omega arith)

pub due_no_refusal : (y : PoolReason) (x : Result ℕ NotDue) → due_said x ≢ Err (notreleased.Pool y)
unfolding due_said
due_no_refusal y (Ok k) e = let z : ◌≡◌ {A = ℕ} 0 1 = cc in omega arith
due_no_refusal y (Err notdue.Unknown) e = let z : ◌≡◌ {A = ℕ} 0 1 = cc in omega arith
due_no_refusal y (Err notdue.Spent) e = let z : ◌≡◌ {A = ℕ} 0 1 = cc in omega arith

-- Told ---------------------------------------------------------------------------------------------------------------------------

told_refused_by : (t : ℕ) (y : PoolReason) (x : Result Book PoolReason) → told_said t x ≡ Err (notreleased.Pool y) → x ≡ Err y
unfolding told_said
told_refused_by t y (Ok b) e = absurd (due_no_refusal y (due_of b t) e)
told_refused_by t y (Err r) e = let same : r ≡ y = cc in ap Err same

told_released_by : (t k : ℕ) (x : Result Book PoolReason) → told_said t x ≡ Ok k → (b : Book) × (x ≡ Ok b) × (due_of b t ≡ Ok k)
unfolding told_said
told_released_by t k (Ok b) e = (b, refl, due_released k (due_of b t) e)
told_released_by t k (Err r) e = let z : ◌≡◌ {A = ℕ} 0 1 = cc in absurd (omega arith)

-- TOLD AND ITS BOOK
pub told_opened : (h : ℕ → Bool) (m : ℕ → ℕ) (sp : Space) (t : ℕ) → ToldOpened h m sp t
unfolding told_answer told_said due_said
told_opened h m sp t = record {
  refused = λ y. (told_refused_by t y (opened_of h m sp), λ e. rw e);
  released = λ k. (told_released_by t k (opened_of h m sp), λ r. rw (r.1, r.2));
}

-- A refusal leaves every byte --------------------------------------------------------------------------------------------------------

create_none : (s : List ℕ) (origin first pages : ℕ) (y : PoolReason) (x : Result (Unit {0}) PoolReason) → created_in first pages x ≡ Err y → carried s origin (create_in (new_space origin first pages) x) ≡ s
unfolding created_in create_in carried
create_none s origin first pages y (Ok tt) e = let z : ◌≡◌ {A = ℕ} 0 1 = cc in absurd (omega arith)
create_none s origin first pages y (Err r) e = refl

due_none : (s : List ℕ) (sp : Space) (b : Book) (x : Result ℕ NotDue) → Declined (due_said x) → carried s sp.origin (due_did sp b x) ≡ s
unfolding due_said due_did carried
due_none s sp b (Ok k) d = absurd d
due_none s sp b (Err notdue.Unknown) d = refl
due_none s sp b (Err notdue.Spent) d = refl

told_none : (s : List ℕ) (sp : Space) (t : ℕ) (x : Result Book PoolReason) → Declined (told_said t x) → carried s sp.origin (told_did sp t x) ≡ s
unfolding told_said told_did carried
told_none s sp t (Ok b) d = due_none s sp b (due_of b t) d
told_none s sp t (Err r) d = refl

pub refusal_leaves : (s : List ℕ) → RefusalLeaves s
unfolding created_of create_writes map_answer map_writes map.did_of unmap_answer unmap_writes unmap.did_of protect_answer protect_writes protect.did_of told_answer told_writes carried
refusal_leaves s = record {
  create = λ origin first pages y e. create_none s origin first pages y (may_create (length s) (holds s origin) origin first pages) e;
  map = λ sp q y e. rw (map_refused_by y (map.decide_of (holds s sp.origin) (memory s sp.origin) sp q) e);
  unmap = λ sp va y e. rw (unmap_refused_by (book_of (memory s sp.origin) sp) y (unmap.decide_of (holds s sp.origin) (memory s sp.origin) sp va) e);
  protect = λ sp va r y e. rw (protect_refused_by y (protect.decide_of (holds s sp.origin) (memory s sp.origin) sp va r) e);
  told = λ sp t d. told_none s sp t (opened_of (holds s sp.origin) (memory s sp.origin) sp) d;
}
