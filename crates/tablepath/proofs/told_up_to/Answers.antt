use Rattle.std.proofs.Common.{sym, ◌∙◌}
use Rattle.std.proofs.lemmas.Result.{err_from_is_err_and}
use Rattle.word.proofs.Budget.{wrote_none}
use Rattle.tablepath.specs.Answers.{told_answer, told_writes, told_said, told_did, due_said, due_did}
use Rattle.tablepath.proofs.told_up_to.Goals as goal

pub returns-in_err-b : goal.returns-in_err-b
unfolding told_answer told_writes told_said told_did
returns-in_err-b c = let p = err_from_is_err_and c.from_residual.result c.from_residual.ensures.1 in let e = sym c.open.ensures ∙ c.in_err-b.was in record { answer = rw (p.1, p.2, e); order = rw e (wrote_none _ _ _) }

pub returns-in_err-k : goal.returns-in_err-k
unfolding told_answer told_writes told_said told_did due_said due_did
returns-in_err-k c = let p = err_from_is_err_and c.from_residual-in_err-k.result c.from_residual-in_err-k.ensures.1 in let e = sym c.open.ensures ∙ c.in_ok-b.was in let f = sym c.due_by.ensures ∙ c.in_err-k.was in record { answer = rw (p.1, p.2, e, f); order = rw (e, f) (wrote_none _ _ _) }

pub returns : goal.returns
unfolding told_answer told_writes told_said told_did due_said due_did
returns c = let e = sym c.open.ensures ∙ c.in_ok-b.was in let f = sym c.due_by.ensures ∙ c.in_ok-k.was in record { answer = rw (e, f); order = rw (e, f) c.release.ensures }
