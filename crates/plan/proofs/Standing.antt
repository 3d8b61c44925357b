-- What it shows that a space stands.
use Rattle.std.proofs.Common.{◌≡◌, ℕ, Bool, true, false, refl, arith, Result, Ok, Err}
use Rattle.pool.specs.declared.Reason.{Reason}
use Rattle.pool.specs.Book.{in_pool, room_of, rooted_in}
use Rattle.pool.specs.Stands.{stands_of}
use Rattle.pool.specs.declared.Space.{Space}
use Rattle.pool.proofs.Opening.{Fitting, fitting}

pub record Stands (h : ℕ → Bool) (sp : Space) : Type 0 where
  pub room : room_of h sp.first sp.pages ≡ Ok tt
  pub fits : Fitting h sp.first sp.pages
  pub root : in_pool sp sp.root ≡ true

pub stands : (h : ℕ → Bool) (sp : Space) → stands_of h sp ≡ Ok tt → Stands h sp
unfolding stands_of rooted_in
stands h sp e = go (room_of h sp.first sp.pages) (in_pool sp sp.root) refl refl e
  where
    go : (x : Result (Unit {0}) Reason) (b : Bool) → room_of h sp.first sp.pages ≡ x → in_pool sp sp.root ≡ b → rooted_in sp x ≡ Ok tt → Stands h sp
    go (Ok tt) true ex eb k = record { room = ex; fits = fitting h sp.first sp.pages ex; root = eb }
    go (Ok tt) false ex eb k = let z : ◌≡◌ {A = ℕ} 0 1 = cc eb in absurd (omega arith)
    go (Err r) b ex eb k = let z : ◌≡◌ {A = ℕ} 0 1 = cc in absurd (omega arith)
