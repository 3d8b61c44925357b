-- Half-done walks in tables that we built: a place of a walk on its way is a table that the walk comes to, with all rights; and the other way
-- round.
use Prim.Native.Nat.{ℕ, suc}
use mathlib.Core.Bool.{Bool, true, false, cond}
use mathlib.Core.Path.{◌≡◌, refl, sym, ap, ◌∙◌, subst}
use native.Mathlib.Omega.{arith}
use Rattle.entry.specs.Entry.{table_of, both, everything}
use Rattle.entry.specs.declared.Rights.{Rights}
use Rattle.entry.specs.declared.Entry.{Entry}
use Rattle.entry.specs.declared.Entry.TheVariants.{Nothing, Page, Table}
use Rattle.walk.specs.Walk.{canonical, index_of, entered, step_of, start}
use Rattle.walk.specs.Reads.{ComesBy, by_start, by_step}
use Rattle.walk.specs.declared.Found.TheVariants as found
use Rattle.walk.specs.declared.Place.{Place}
use Rattle.walk.specs.declared.Place.TheVariants.{Going, Ended}
use Rattle.world.specs.Walker.{On, here}
use Rattle.world.proofs.Ways.{on_step}
use Rattle.tables.specs.Walks.{Position, step_at}
use Rattle.tables.proofs.Ties.{on_way}
use Rattle.tables.specs.Roles.{Setting, Role, entry_at, Built}
use Rattle.tables.specs.Way.{Comes, begin, onto}
use Rattle.tables.proofs.Way.{comes_left, onto_role}
use Rattle.tables.proofs.Meaning.{live_home, everything_both}
use Rattle.tables.proofs.Reach.{way_comes}
use Rattle.tables.specs.Discipline.{walker_of}
use Rattle.tables.proofs.Walks.{laws_of}

module _ {σ : Setting} {m : ℕ → ℕ} {role : ℕ → Role} (b : Built σ m role) where
  -- on a way all rights are granted
  way_everything : {va n : ℕ} {p : Place} (t : ℕ) (r : Rights) → ComesBy (λ x. Unit {0}) σ.window m σ.cr3 va n p → p ≡ Going t r → r ≡ everything
  unfolding start step_of entered
  way_everything {va} t r by_start e = go (canonical va) e
    where
      go : (x : Bool) → cond x (Going (table_of σ.cr3) everything) (Ended found.NoAddress) ≡ Going t r → r ≡ everything
      go true f = cc
      go false f = let z : ◌≡◌ {A = ℕ} 0 1 = cc in absurd (omega arith)
  way_everything {va} t r (by_step {n = n} {p = q} w k) e = by q e (λ s g f. (way_comes (λ x. Unit {0}) s g w f, way_everything s g w f))
    where
      through : (s : ℕ) (g : Rights) → Comes σ m va (suc n) s → g ≡ everything → (x : Bool) (y : Entry) → entry_at m n s (index_of n va) ≡ y
          → cond x (entered n va g y) (Ended found.Outside) ≡ Going t r → r ≡ everything
      through s g c d false y f i = let z : ◌≡◌ {A = ℕ} 0 1 = cc in absurd (omega arith)
      through s g c d true Nothing f i = let z : ◌≡◌ {A = ℕ} 0 1 = cc in absurd (omega arith)
      through s g c d true (Page a j) f i = let z : ◌≡◌ {A = ℕ} 0 1 = cc in absurd (omega arith)
      through s g c d true (Table a j) f i =
          let is : both g j ≡ r = cc in
          sym is ∙ ap (λ x. both x j) d ∙ everything_both j ∙ (onto_role b c f).1

      by : (q : Place) → step_of σ.window m n va q ≡ Going t r → ((s : ℕ) (g : Rights) → q ≡ Going s g → Comes σ m va (suc n) s × (g ≡ everything)) → r ≡ everything
      by (Ended f) i ih = let z : ◌≡◌ {A = ℕ} 0 1 = cc in absurd (omega arith)
      by (Going s g) i ih = let o = ih s g refl in through s g o.0 o.1 (σ.window s) (entry_at m n s (index_of n va)) refl i

  -- A PLACE ON THE WAY is a table that the walk comes to, with all rights.
  pub on_everything : (va n t : ℕ) (r : Rights) → On (walker_of σ) m va (record { levels = n; place = Going t r }) ((walker_of σ).start va) → r ≡ everything
  on_everything va n t r o = way_everything t r (on_way σ.window (λ va. σ.cr3) (λ va. va) m va _ o) refl

  -- A TABLE THAT THE WALK COMES TO is a place on its way.
  pub comes_on : {va n t : ℕ} → Comes σ m va n t → On (walker_of σ) m va (record { levels = n; place = Going t everything }) ((walker_of σ).start va)
  unfolding start step_at step_of entered
  comes_on {va} {n} {t} (begin e f u) =
      subst (λ (q : Position). On (walker_of σ) m va q ((walker_of σ).start va)) (rw (u, e, f)) here
  comes_on {va} {n} {t} (onto s g c e) =
      subst (λ (q : Position). On (walker_of σ) m va q ((walker_of σ).start va)) step (on_step (walker_of σ) (laws_of σ) m va _ _ (comes_on c))
    where
      step : step_at σ.window m va (suc n) (Going s everything) ≡ record { levels = n; place = Going t everything }
      step = rw ((live_home b (comes_left b c)).held, e, (onto_role b c e).1, everything_both everything)

pub on_comes : (σ : Setting) (m : ℕ → ℕ) (va n t : ℕ) (r : Rights) → On (walker_of σ) m va (record { levels = n; place = Going t r }) ((walker_of σ).start va) → Comes σ m va n t
on_comes σ m va n t r o = way_comes (λ x. Unit {0}) t r (on_way σ.window (λ va. σ.cr3) (λ va. va) m va _ o) refl
