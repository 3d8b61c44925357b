-- The ends of a `?` behind `ok_or` and `ok`, as equations of what was asked.
use Rattle.std.proofs.Common.{◌≡◌, ℕ, sym, refl, ◌∙◌, arith, Option, Result, Some, None, Ok, Err, ok_or}
use Rattle.std.specs.Result.{result_ok}

module _ {A E : Type 0} (o : Option A) (e : E) where
  pub or_ok : (r : Result A E) (x : A) → r ≡ ok_or o e → r ≡ Ok x → o ≡ Some x
  or_ok r x f g = go o (rw f at g)
    where
      go : (p : Option A) → ok_or p e ≡ Ok x → p ≡ Some x
      go (Some y) k = let j : y ≡ x = cc in rw j
      go None k = let z : ◌≡◌ {A = ℕ} 0 1 = cc in absurd (omega arith)

  pub or_err : (r : Result A E) (y : E) → r ≡ ok_or o e → r ≡ Err y → (o ≡ None) × (y ≡ e)
  or_err r y f g = go o (rw f at g)
    where
      go : (p : Option A) → ok_or p e ≡ Err y → (p ≡ None) × (y ≡ e)
      go (Some x) k = let z : ◌≡◌ {A = ℕ} 0 1 = cc in absurd (omega arith)
      go None k = let j : e ≡ y = cc in (refl, sym j)

pub ok_was : {A E : Type 0} (r : Result A E) (o : Option A) (x : A) → o ≡ result_ok r → o ≡ Some x → r ≡ Ok x
ok_was {A = A} (Ok y) o x f g = let k : Some y ≡ Some x = sym f ∙ g in let j : y ≡ x = cc in rw j
ok_was {A = A} (Err e) o x f g = let k : ◌≡◌ {A = Option A} None (Some x) = sym f ∙ g in let z : ◌≡◌ {A = ℕ} 0 1 = cc in absurd (omega arith)

pub no_ok : {A E : Type 0} (r : Result A E) (o : Option A) → o ≡ result_ok r → o ≡ None → (e : E) × (r ≡ Err e)
no_ok {A = A} (Ok y) o f g = let k : ◌≡◌ {A = Option A} (Some y) None = sym f ∙ g in let z : ◌≡◌ {A = ℕ} 0 1 = cc in absurd (omega arith)
no_ok (Err e) o f g = (e, refl)
