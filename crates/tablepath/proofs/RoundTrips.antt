-- EXACTLY AS ASKED, in the bytes: what look-up answers after each operation, by what the operation means.
use Prim.Native.Nat.{ℕ}
use mathlib.Core.List.{List}
use mathlib.Core.Path.{◌≡◌}
use Rattle.std.proofs.Common.{Ok}
use Rattle.word.specs.Writes.{carried}
use Rattle.entry.specs.declared.Rights.{Rights}
use Rattle.walk.specs.declared.Found.TheVariants.{Page, Nothing}
use Rattle.tables.specs.Roles.{Role}
use Rattle.pool.specs.declared.Space.{Space}
use Rattle.plan.specs.declared.maps.Asked.{Asked}
use Rattle.tablepath.specs.Answers.{map_answer, unmap_answer, unmap_writes, protect_answer, protect_writes, told_writes}
use Rattle.tablepath.specs.declared.Gone.{Gone}
use Rattle.tablepath.specs.declared.Altered.{Altered}
use Rattle.tablepath.specs.Looks.{in_window, look_up, In, Swapped, WholeBytes, with_page}
use Rattle.tablepath.proofs.Means.{map_means, unmap_means, protect_means, told_means}

module _ (s : List ℕ) (sp : Space) (role : ℕ → Role) (w : WholeBytes s sp role) where
  module _ (q : Asked) (k : ℕ) (done : in_window s sp.origin map_answer sp q ≡ Ok k) where
    -- LOOK-UP AFTER MAP: every address of the range gets that page, every other what it had.
    pub look_up_after_map : (va : ℕ) → In q.base q.size va → look_up (with_page s sp q) sp va ≡ Page q.base q.size q.frame q.rights
    look_up_after_map = (((map_means s sp q).says role w).made k done).turned.inside

    pub look_up_beside_map : (va : ℕ) → (In q.base q.size va → ⊥) → look_up (with_page s sp q) sp va ≡ look_up s sp va
    look_up_beside_map = (((map_means s sp q).says role w).made k done).turned.beside

  -- LOOK-UP AFTER UNMAP: the frame and the size that it answers are those of the page that was there; every address of the page gets nothing.
  pub look_up_after_unmap : (base : ℕ) (g : Gone) → in_window s sp.origin unmap_answer sp base ≡ Ok g
      → Swapped s (carried s sp.origin (in_window s sp.origin unmap_writes sp base)) sp base g.size g.frame Nothing
  look_up_after_unmap base g e =
      let x = ((unmap_means s sp base).says role w).gone g e in
      record { had = x.had; before = x.before; inside = x.turned.inside; beside = x.turned.beside }

  -- LOOK-UP AFTER PROTECT: the same page with the new rights.
  pub look_up_after_protect : (base : ℕ) (r : Rights) (g : Altered) → in_window s sp.origin protect_answer sp base r ≡ Ok g
      → Swapped s (carried s sp.origin (in_window s sp.origin protect_writes sp base r)) sp base g.size g.frame (Page base g.size g.frame r)
  look_up_after_protect base r g e =
      let x = ((protect_means s sp base r).says role w).same g e in
      record { had = x.had; before = x.before; inside = x.turned.inside; beside = x.turned.beside }

  -- LOOK-UP AFTER TOLD: what it was, whatever is answered.
  pub look_up_after_told : (t va : ℕ) → look_up (carried s sp.origin (in_window s sp.origin told_writes sp t)) sp va ≡ look_up s sp va
  look_up_after_told t = ((told_means s sp t).says role w).same
