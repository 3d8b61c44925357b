-- A page that was found: in a space that is whole it is what starts there, and every address of its range means it.
use Prim.Native.Nat.{ℕ, suc, ◌%◌, ◌<◌}
use mathlib.Core.Bool.{Bool}
use mathlib.Core.Path.{◌≡◌, sym, ap, ◌∙◌, subst}
use Rattle.entry.specs.Entry.{size_of, says}
use Rattle.entry.specs.declared.Rights.{Rights}
use Rattle.entry.specs.declared.Entry.TheVariants as entry
use Rattle.walk.specs.Walk.{index_of, base_of}
use Rattle.walk.specs.declared.Found.TheVariants as found
use Rattle.tables.specs.Roles.{Setting, Role, left, entry_at}
use Rattle.tables.specs.Way.{Comes}
use Rattle.tables.proofs.Way.{comes_left}
use Rattle.tables.specs.Meaning.{meaning}
use Rattle.tables.proofs.Meaning.{mean_page}
use Rattle.tables.proofs.Overlap.{aligned_base}
use Rattle.pool.specs.Booked.{setting_of}
use Rattle.pool.specs.declared.Space.{Space}
use Rattle.plan.specs.declared.finding.PageEntry.{PageEntry}
use Rattle.effect.specs.Whole.{Whole}
use Rattle.plan.proofs.Found.{FoundAt}
use Rattle.effect.proofs.Trace.{Traced}
use Rattle.effect.proofs.Wholes.{way_traced}

-- where the page found is, and what it is
pub record Located (σ : Setting) (m : ℕ → ℕ) (role : ℕ → Role) (va : ℕ) (s : PageEntry) : Type 0 where
  pub low : s.way.level < 4
  pub traced : Traced σ m va 4 s.way
  pub comes : Comes σ m va (suc s.way.level) s.way.a
  pub live : left (role s.way.a) ≡ suc s.way.level
  pub rights : Rights
  pub entry : entry_at m s.way.level s.way.a (index_of s.way.level va) ≡ entry.Page s.frame rights
  pub aligned : va % size_of s.way.level ≡ 0
  pub base : base_of s.way.level va ≡ va
  pub size_is : s.size ≡ size_of s.way.level
  pub means : meaning σ m va ≡ found.Page va s.size s.frame rights

pub located : {h : ℕ → Bool} {sp : Space} {m : ℕ → ℕ} {role : ℕ → Role} {va : ℕ} {s : PageEntry} → Whole h sp m role → FoundAt h m sp va s
    → Located (setting_of h sp) m role va s
located {h} {sp} {m} {role} {va} {s} w f = record {
  low = f.low;
  traced = t;
  comes = t.comes;
  live = comes_left w.sound.built t.comes;
  rights = f.rights;
  entry = says_it;
  aligned = f.starts;
  base = base;
  size_is = f.size;
  means = mean_page w.sound.built t.comes says_it
      ∙ ap (λ x. found.Page x (size_of s.way.level) s.frame f.rights) base
      ∙ ap (λ x. found.Page va x s.frame f.rights) (sym f.size);
}
  where
    t : Traced (setting_of h sp) m va 4 s.way
    t = subst (Traced (setting_of h sp) m va 4) f.way (way_traced w va f.address)

    says_it : entry_at m s.way.level s.way.a (index_of s.way.level va) ≡ entry.Page s.frame f.rights
    says_it = ap (says s.way.level) (sym t.word) ∙ f.entry

    base : base_of s.way.level va ≡ va
    base = aligned_base s.way.level va f.starts
