use mathlib.Core.Path.{refl, sym, ap, ◌∙◌}
use borrow.Author.Tests.{lt-ltb, le-ltb}
use Rattle.std.proofs.lemmas.Result.{err_from_is_err_and}
use Rattle.abi.specs.Answers.{protected_to_c}
use Rattle.abi.specs.Calls.{rights_site, strict_site, protect_answer}
use Rattle.abi.specs.Inner.{numbered}
use Rattle.abi.proofs.up_to.protect_up_to.Goals as goal

pub returns-then-rights-ge8 : goal.returns-then-rights-ge8
unfolding protect_answer rights_site
returns-then-rights-ge8 c = let e = le-ltb _ _ c.if-rights-ge8.true in record { answer = rw e; order = rw e (refl, refl) }

pub returns-then-write_execute : goal.returns-then-write_execute
unfolding protect_answer rights_site strict_site
returns-then-write_execute c = let l = lt-ltb _ _ c.if-rights-ge8.false in let x = sym c.write_execute.ensures ∙ c.if-write_execute.true in record { answer = rw (c.into.ensures, l, sym c.rights-granted.ensures, x); order = rw (l, sym c.rights-granted.ensures, x) (refl, refl) }

pub returns-in_err-space : goal.returns-in_err-space
unfolding protect_answer rights_site strict_site
returns-in_err-space c = let l = lt-ltb _ _ c.if-rights-ge8.false in let x = sym c.write_execute.ensures ∙ c.if-write_execute.false in let e = c.space.ensures ∙ ap numbered c.in_err-space.was in let p = err_from_is_err_and c.from_residual.result c.from_residual.ensures.1 in record { answer = rw (p.1, p.2, l, sym c.rights-granted.ensures, x, e); order = rw (l, sym c.rights-granted.ensures, x, e) (refl, refl) }

pub returns-in_err-protect_up_to : goal.returns-in_err-protect_up_to
unfolding protect_answer protected_to_c rights_site strict_site
returns-in_err-protect_up_to c = let l = lt-ltb _ _ c.if-rights-ge8.false in let x = sym c.write_execute.ensures ∙ c.if-write_execute.false in let e = c.space.ensures ∙ ap numbered c.in_ok-space.was in let p = err_from_is_err_and c.from_residual-in_err-protect_up_to.result c.from_residual-in_err-protect_up_to.ensures.1 in record { answer = rw (p.1, p.2, l, sym c.rights-granted.ensures, x, e, sym c.protect_up_to.ensures.answer ∙ c.in_err-protect_up_to.was); order = rw (l, sym c.rights-granted.ensures, x, e) c.protect_up_to.ensures.order }

pub returns : goal.returns
unfolding protect_answer rights_site strict_site
returns c = let l = lt-ltb _ _ c.if-rights-ge8.false in let x = sym c.write_execute.ensures ∙ c.if-write_execute.false in let e = c.space.ensures ∙ ap numbered c.in_ok-space.was in record { answer = rw (l, sym c.rights-granted.ensures, x, e, sym c.protect_up_to.ensures.answer ∙ c.in_ok-protect_up_to.was); order = rw (l, sym c.rights-granted.ensures, x, e) c.protect_up_to.ensures.order }
