use mathlib.Core.Path.{sym, ap, ◌∙◌}
use Rattle.std.proofs.lemmas.Result.{err_from_is_err_and}
use Rattle.abi.specs.Calls.{told_answer}
use Rattle.abi.specs.Inner.{numbered}
use Rattle.abi.proofs.Reported.{report_refused}
use Rattle.abi.proofs.up_to.told_up_to.Goals as goal

pub returns-in_err-space-clause-answer : goal.returns-in_err-space-clause-answer
unfolding told_answer
returns-in_err-space-clause-answer c = let p = err_from_is_err_and c.from_residual.result c.from_residual.ensures.1 in rw (p.1, p.2, c.space.ensures ∙ ap numbered c.in_err-space.was)

pub returns-in_err-told_up_to-clause-answer : goal.returns-in_err-told_up_to-clause-answer
unfolding told_answer
returns-in_err-told_up_to-clause-answer c = let p = err_from_is_err_and c.from_residual-in_err-told_up_to.result c.from_residual-in_err-told_up_to.ensures.1 in rw (p.1, p.2, c.space.ensures ∙ ap numbered c.in_ok-space.was, sym c.told_up_to.ensures.answer ∙ c.in_err-told_up_to.was) (report_refused _)

pub returns-clause-answer : goal.returns-clause-answer
unfolding told_answer
returns-clause-answer c = rw (c.space.ensures ∙ ap numbered c.in_ok-space.was, sym c.told_up_to.ensures.answer ∙ c.in_ok-told_up_to.was)
