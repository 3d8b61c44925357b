-- WHERE AN OPERATION WRITES, OF ANY BYTES: to pages of the pool, which lie in the window, and nowhere else.
use Prim.Native.Nat.{ℕ}
use mathlib.Core.Bool.{Bool}
use mathlib.Core.Path.{◌≡◌, refl, subst}
use native.Mathlib.Omega.{arith}
use Rattle.std.proofs.Common.{Result, Ok, Err}
use Rattle.plan.specs.declared.Reason.{Reason}
use Rattle.word.specs.Writes.{Every}
use Rattle.word.proofs.Writes.{every_one}
use Rattle.entry.specs.Words.{with_rights}
use Rattle.entry.specs.declared.Rights.{Rights}
use Rattle.walk.specs.Walk.{index_of}
use Rattle.walk.proofs.Digits.{index_lt}
use Rattle.pool.specs.Book.{book_of, ticket_in, opened_of}
use Rattle.pool.specs.Changes.{release_writes}
use Rattle.pool.specs.declared.Space.{Space}
use Rattle.pool.specs.declared.Book.{Book}
use Rattle.pool.proofs.Opening.{Fitting, open_shows, names_shows}
use Rattle.pool.proofs.Proper.{release_proper}
use Rattle.plan.specs.declared.finding.PageEntry.{PageEntry}
use Rattle.plan.specs.declared.protects.Change.{Change}
use Rattle.plan.specs.Find.{find_of}
use Rattle.plan.specs.Protect as protect
use Rattle.plan.proofs.Found.{FoundAt, found_at}
use Rattle.plan.proofs.Strictly.{protect_strict}
use Rattle.effect.specs.OfPool.{OfPool}
use Rattle.effect.proofs.MapInPool.{book_in_pool}
use Rattle.effect.proofs.ProtectDone.{with_rights_lt}
use Rattle.effect.proofs.WayInPool.{entry_in_pool}
use Rattle.effect.proofs.Wholes.{in_of_pool}

-- Protect --------------------------------------------------------------------------------------------------------------------------

-- what a decision shows
pub record ProtectWent (h : ℕ → Bool) (sp : Space) (c : Change) : Type 0 where
  pub fits : Fitting h sp.first sp.pages
  pub proper : Every (OfPool sp) (protect.writes_of c)

module _ (h : ℕ → Bool) (m : ℕ → ℕ) (sp : Space) (va : ℕ) (g : Rights) (c : Change) where
  change_went : (s : PageEntry) → FoundAt h m sp va s → ProtectWent h sp (protect.change_of va s g (ticket_in (book_of m sp)))
  unfolding protect.change_of protect.writes_of
  change_went s f = record {
    fits = (names_shows h m sp f.names).fits;
    proper =
        let t = (entry_in_pool f).inside 0 (omega (arith, f.low)) in
        every_one s.way.a (index_of s.way.level va) (with_rights s.way.word g) (in_of_pool t) (index_lt s.way.level va) (with_rights_lt s.way.word g);
  }

  pub protect_went : protect.decide_of h m sp va g ≡ Ok c → ProtectWent h sp c
  unfolding protect.changing_of
  protect_went e = go (find_of h m sp va) refl (protect_strict h m sp va g c e).1
    where
      go : (x : Result PageEntry Reason) → find_of h m sp va ≡ x → protect.changing_of m sp va g x ≡ Ok c → ProtectWent h sp c
      go (Err y) f k = let z : ◌≡◌ {A = ℕ} 0 1 = cc in absurd (omega arith)
      go (Ok s) f k = let same : protect.change_of va s g (ticket_in (book_of m sp)) ≡ c = cc in subst (ProtectWent h sp) same (change_went s (found_at h m sp va s f))

  -- PROTECT WRITES TO THE POOL
  pub protect_in_pool : protect.decide_of h m sp va g ≡ Ok c → Every (OfPool sp) (protect.writes_of c)
  protect_in_pool e = (protect_went e).proper

-- TOLD WRITES TO THE POOL
pub told_in_pool : (h : ℕ → Bool) (m : ℕ → ℕ) (sp : Space) (b : Book) (k : ℕ) → opened_of h m sp ≡ Ok b → Every (OfPool sp) (release_writes sp b k)
told_in_pool h m sp b k e = book_in_pool sp (open_shows h m sp b e).names.fits _ (release_proper sp b k)
