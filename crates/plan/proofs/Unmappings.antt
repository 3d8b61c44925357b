-- What unmap hands on shows what was decided.
use Rattle.std.proofs.Common.{◌≡◌, ℕ, sym, ap, ◌∙◌, arith, Result, Ok, Err}
use Rattle.pool.specs.Book.{book_of, ticket_after}
use Rattle.pool.specs.declared.Space.{Space}
use Rattle.plan.specs.declared.Reason.{Reason}
use Rattle.plan.specs.declared.unmaps.Removal.{Removal}
use Rattle.plan.specs.Unmap.{unmapping_of}

pub unmapping_refused : (m : ℕ → ℕ) (sp : Space) (d : Result Removal Reason) (y : Reason) → unmapping_of m sp d ≡ Err y → d ≡ Err y
unfolding unmapping_of
unmapping_refused m sp (Ok r) y e = let z : ◌≡◌ {A = ℕ} 0 1 = cc in absurd (omega arith)
unmapping_refused m sp (Err x) y e = cc

pub unmapping_done : (m : ℕ → ℕ) (sp : Space) (d : Result Removal Reason) (r : Removal) (t : ℕ) → unmapping_of m sp d ≡ Ok (r, t)
    → (d ≡ Ok r) × (t ≡ ticket_after (book_of m sp) r.empties)
unfolding unmapping_of
unmapping_done m sp (Ok x) r t e = let j : ◌≡◌ {A = Removal × ℕ} (x, ticket_after (book_of m sp) x.empties) (r, t) = cc in let a : x ≡ r = ap (λ p. p.0) j in (ap Ok a, sym (ap (λ p. p.1) j) ∙ rw a)
unmapping_done m sp (Err x) r t e = let z : ◌≡◌ {A = ℕ} 0 1 = cc in absurd (omega arith)
