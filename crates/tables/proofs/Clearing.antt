-- Lists of writes where no walk comes: the book's, and those that clear a page before it is linked. They leave all that is said of tables;
-- and a page that was cleared is all 0.
use Prim.Native.Nat.{ℕ, ◌/◌, ◌<◌}
use mathlib.Core.List.{List, [], ◌∷◌, ◌++◌}
use mathlib.Core.Logic.{◌≢◌}
use mathlib.Core.Path.{◌≡◌, refl, sym, ap, ◌∙◌}
use native.Mathlib.Omega.{arith}
use Rattle.word.specs.Memory.{set, at}
use Rattle.word.specs.Writes.{Write, write, after, zeros, Every, none, more}
use Rattle.word.proofs.Writes.{every_zeros, after_zeros, page_of}
use Rattle.entry.specs.Entry.{says}
use Rattle.world.specs.Events as world
use Rattle.world.proofs.Rules.{obeys_nil, obeys_append}
use Rattle.world.specs.OneChange.{Quiet, SameMeaning}
use Rattle.world.proofs.OneChange.{quiet_nil, quiet_more}
use Rattle.tables.proofs.Walks.{one_space_meaning, laws_of}
use Rattle.tables.specs.Roles.{Setting, Role, free, aside, book, left, Live, Built, Occupied, Zero}
use Rattle.tables.specs.Way.{Comes}
use Rattle.tables.specs.Meaning.{meaning}
use Rattle.tables.proofs.Unseen.{unseen_word, unseen_alike, alike_comes}
use Rattle.tables.proofs.Edits.{unseen}
use Rattle.tables.specs.Discipline.{Aside, walker_of, ObeysOf}
use Rattle.tables.proofs.Discipline.{unseen_obeys}
use Rattle.tables.specs.Clearing.{events_of}

-- A list of writes, as events of `world` -----------------------------------------------------------------------------------------

pub events_append : (xs ys : List Write) → events_of (xs ++ ys) ≡ events_of xs ++ events_of ys
unfolding events_of
events_append [] ys = refl
events_append (x ∷ xs) ys = ap (λ zs. world.write (at x.page x.index) x.word ∷ zs) (events_append xs ys)

pub events_after : (m : ℕ → ℕ) (xs : List Write) → world.after m (events_of xs) ≡ after m xs
unfolding events_of world.after world.happen after
events_after m [] = refl
events_after m (x ∷ xs) = events_after (set m (at x.page x.index) x.word) xs

-- the same meaning, in the terms of `world`
pub same_meaning : (σ : Setting) (m m' : ℕ → ℕ) → ((va : ℕ) → meaning σ m' va ≡ meaning σ m va) → SameMeaning (walker_of σ) m m'
same_meaning σ m m' h va = one_space_meaning σ.window σ.cr3 m' va ∙ h va ∙ sym (one_space_meaning σ.window σ.cr3 m va)

-- Where no walk comes --------------------------------------------------------------------------------------------------------------

-- a page that may be written freely: no walk comes to it, and it is not set aside
abbrev pub Spare : (ℕ → Role) → ℕ → Type 0
Spare role p = (left (role p) ≡ 0) × (role p ≢ aside)

pub free_spare : (role : ℕ → Role) (p : ℕ) → role p ≡ free → Spare role p
free_spare role p h = (ap left h, λ e. let z : ◌≡◌ {A = ℕ} 0 1 = cc in omega arith)

pub book_spare : (role : ℕ → Role) (p : ℕ) → role p ≡ book → Spare role p
book_spare role p h = (ap left h, λ e. let z : ◌≡◌ {A = ℕ} 0 1 = cc in omega arith)

-- What a list of writes leaves: all that is said of tables, and every word of a table.
pub record LeavesTables (σ : Setting) (m : ℕ → ℕ) (role : ℕ → Role) (xs : List Write) : Type 0 where
  pub built : Built σ (after m xs) role
  pub same : (va : ℕ) → meaning σ (after m xs) va ≡ meaning σ m va
  pub quiet : Quiet (walker_of σ) m (events_of xs)
  pub obeys : ObeysOf σ role m (events_of xs) role
  pub moments : world.All m (events_of xs) (λ m'. Built σ m' role)
  pub words : (q l i : ℕ) → Live role q l → i < 512 → after m xs (at q i) ≡ m (at q i)
  pub comes : (va n t : ℕ) → Comes σ m va n t → Comes σ (after m xs) va n t

-- one write more, in front
untouched_more : {σ : Setting} {m : ℕ → ℕ} {role : ℕ → Role} (p i v : ℕ) (xs : List Write) → Built σ m role → i < 512 → Spare role p
    → LeavesTables σ (set m (at p i) v) role xs → LeavesTables σ m role (write p i v ∷ xs)
unfolding events_of after world.after world.happen world.All
untouched_more {σ} {m} {role} p i v xs b u h rest = record {
  built = rest.built;
  same = λ va. rest.same va ∙ (unseen b (at p i) v idle).same va;
  quiet = quiet_more (walker_of σ) (laws_of σ) (world.write (at p i) v) (events_of xs) m (same_meaning σ m (set m (at p i) v) (unseen b (at p i) v idle).same) rest.quiet;
  obeys = obeys_append (walker_of σ) (laws_of σ) (world.write (at p i) v ∷ []) (events_of xs) (Aside role) (Aside role) (Aside role) m
      (unseen_obeys b (at p i) v idle (λ e. h.1 (ap role (sym page) ∙ e))) rest.obeys;
  moments = (b, rest.moments);
  words = λ q l j n w. rest.words q l j n w ∙ unseen_word m role (at p i) v idle q l j n w;
  comes = λ va n t c. rest.comes va n t (alike_comes b (set m (at p i) v) (unseen_alike m role (at p i) v idle) c);
}
  where
    page : at p i / 512 ≡ p
    page = page_of p i u

    idle : left (role (at p i / 512)) ≡ 0
    idle = ap (λ x. left (role x)) page ∙ h.0

-- A LIST OF WRITES INTO SPARE PAGES leaves them.
pub spare_untouched : {σ : Setting} {role : ℕ → Role} (xs : List Write) {m : ℕ → ℕ} → Built σ m role → Every (Spare role) xs → LeavesTables σ m role xs
unfolding events_of after world.All
spare_untouched {σ} {role} [] {m} b none = record {
  built = b;
  same = λ va. refl;
  quiet = quiet_nil (walker_of σ) (laws_of σ) m;
  obeys = obeys_nil (walker_of σ) (laws_of σ) (Aside role) m;
  moments = b;
  words = λ q l i n u. refl;
  comes = λ va n t c. c;
}
spare_untouched {σ} {role} (x ∷ xs) {m} b (more o h) =
    untouched_more x.page x.index x.word xs b o.in_index o.in_page
    (spare_untouched xs (unseen b (at x.page x.index) x.word (ap (λ p. left (role p)) (page_of x.page x.index o.in_index) ∙ o.in_page.0)).built h)

-- a table that is not empty is not empty then
pub untouched_holds : {σ : Setting} {m : ℕ → ℕ} {role : ℕ → Role} {xs : List Write} → LeavesTables σ m role xs → (p l : ℕ) → Live role p l → Occupied m l p → Occupied (after m xs) l p
untouched_holds k p l n o = (o.0, o.1, λ e. o.2 (ap (says l) (sym (k.words p l o.0 n o.1)) ∙ e))

-- Clearing a page ------------------------------------------------------------------------------------------------------------------

-- no walk sees it
pub clear_spare : (role : ℕ → Role) (p : ℕ) → role p ≡ free → Every (Spare role) (zeros p 512)
clear_spare role p h = every_zeros p 512 (free_spare role p h) (omega arith)

-- A CLEARED PAGE is all 0.
pub cleared : (m : ℕ → ℕ) (p : ℕ) → Zero (after m (zeros p 512)) p
cleared m p j u = after_zeros m p 512 j u (omega arith)
