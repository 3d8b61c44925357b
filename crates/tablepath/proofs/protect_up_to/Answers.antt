use Rattle.std.proofs.Common.{sym, ◌∙◌}
use Rattle.std.proofs.lemmas.Result.{err_from_is_err_and}
use Rattle.tablepath.specs.Answers.{protect_answer, protect_writes, protect_said, altered_of}
use Rattle.tablepath.proofs.protect_up_to.Goals as goal

pub returns-in_err-c : goal.returns-in_err-c
unfolding protect_answer protect_writes protect_said
returns-in_err-c c = let p = err_from_is_err_and c.from_residual.result c.from_residual.ensures.1 in record { answer = rw (p.1, p.2, sym c.protect.ensures.answer ∙ c.in_err-c.was); order = c.protect.ensures.order }

pub returns : goal.returns
unfolding protect_answer protect_writes protect_said altered_of
returns c = record { answer = rw (sym c.protect.ensures.answer ∙ c.in_ok-c.was); order = c.protect.ensures.order }
