use mathlib.Core.Path.{sym, ap, ◌∙◌}
use Rattle.std.proofs.lemmas.Result.{err_from_is_err_and}
use Rattle.abi.specs.Answers.{counted_to_c}
use Rattle.abi.specs.Calls.{state_answer}
use Rattle.abi.specs.Inner.{numbered}
use Rattle.abi.specs.ReasonNumbers.{reason_of}
use Rattle.abi.proofs.up_to.state.Goals as goal

pub returns-in_err-space : goal.returns-in_err-space
unfolding state_answer
returns-in_err-space c = let p = err_from_is_err_and c.from_residual.result c.from_residual.ensures.1 in rw (p.1, p.2, c.space.ensures ∙ ap numbered c.in_err-space.was)

pub returns-in_err-state : goal.returns-in_err-state
unfolding state_answer counted_to_c reason_of
returns-in_err-state c = let p = err_from_is_err_and c.from_residual-in_err-state.result c.from_residual-in_err-state.ensures.1 in rw (p.1, p.2, c.space.ensures ∙ ap numbered c.in_ok-space.was, sym c.state.ensures.answer ∙ c.in_err-state.was)

pub returns : goal.returns
unfolding state_answer
returns c = rw (c.space.ensures ∙ ap numbered c.in_ok-space.was, sym c.state.ensures.answer ∙ c.in_ok-state.was)
