use Rattle.std.proofs.Common.{sym, ◌∙◌}
use Rattle.std.proofs.lemmas.Result.{err_from_is_err_and}
use Rattle.word.proofs.Budget.{wrote_none}
use Rattle.plan.specs.Protect.{did_of}
use Rattle.plan.proofs.protects.protect.Goals as goal

pub returns-in_err-c : goal.returns-in_err-c
unfolding did_of
returns-in_err-c c = let p = err_from_is_err_and c.from_residual.result c.from_residual.ensures.1 in let e = sym c.decide_protect.ensures ∙ c.in_err-c.was in record { answer = rw (p.1, p.2, e); order = rw e (wrote_none _ _ _) }

pub returns : goal.returns
unfolding did_of
returns c = let e = sym c.decide_protect.ensures ∙ c.in_ok-c.was in record { answer = sym e; order = rw e c.carry_protect.ensures }
