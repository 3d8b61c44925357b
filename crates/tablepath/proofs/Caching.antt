-- Finished translations of page tables: a walk that has found a page reads nothing more, stays where it is, and gives that page.
use Prim.Native.Nat.{ℕ, zero, suc, ◌*◌}
use mathlib.Core.Bool.{Bool}
use mathlib.Core.Path.{◌≡◌, refl, sym, ap, ◌∙◌, subst}
use Rattle.walk.specs.Walk.{step_of}
use Rattle.walk.specs.declared.Found.{Found}
use Rattle.walk.specs.declared.Place.{Place}
use Rattle.walk.specs.declared.Place.TheVariants.{Going, Ended}
use Rattle.world.specs.Walker.{finish, Reads}
use Rattle.tables.specs.Walks.{Position, step_at}
use Rattle.tables.proofs.Walks.{ended_gives}
use Rattle.tables.proofs.Ties.{ended_reads}
use Rattle.world.specs.Reports.{Finishes}
use Rattle.tables.specs.Discipline.{walker_of}
use Rattle.pool.specs.Booked.{setting_of}
use Rattle.pool.specs.declared.Space.{Space}
use Rattle.tablepath.specs.Nights.{IsPage, IsFinished}

module _ (h : ℕ → Bool) (sp : Space) where
  ended_step : (m : ℕ → ℕ) (va n : ℕ) (f : Found) → (step_at h m va n (Ended f)).place ≡ Ended f
  unfolding step_at step_of
  ended_step m va zero f = refl
  ended_step m va (suc n) f = refl

  ended_page : (p : Position) → IsFinished p.place → (f : Found) × (p ≡ record { levels = p.levels; place = Ended f }) × IsPage f
  unfolding IsFinished
  ended_page p k = go p.place refl k
    where
      go : (q : Place) → p.place ≡ q → IsFinished q → (f : Found) × (p ≡ record { levels = p.levels; place = Ended f }) × IsPage f
      go (Going t r) e k = absurd k
      go (Ended f) e k = (f, ap (λ q. record { levels = p.levels; place = q }) e, k)

  pub finishes : (half : Position → Type 0) → Finishes (walker_of (setting_of h sp)) (record { half = half; finished = λ p. IsFinished p.place; page = IsPage })
  unfolding IsFinished
  finishes half = record {
    rests = λ p k m va x r.
        let e = ended_page p k in
        ended_reads h (λ va. 4096 * sp.root) (λ va. va) m va p.levels e.0 x (subst (λ (q : Position). Reads (walker_of (setting_of h sp)) m va q x) e.1 r);
    stays = λ p k m va. let e = ended_page p k in subst IsFinished (sym (ap (λ (q : Position). (step_at h m va q.levels q.place).place) e.1 ∙ ended_step m va p.levels e.0)) e.2;
    gives = λ p k va o g.
        let e = ended_page p k in
        subst IsPage (sym (ended_gives h (λ va. 4096 * sp.root) (λ va. va) va p.levels e.0 (λ x. 0)) ∙ subst (λ (q : Position). finish (walker_of (setting_of h sp)) (λ x. 0) va q ≡ o) e.1 (g (λ x. 0))) e.2;
  }
