use Rattle.std.proofs.Common.{sym, ◌∙◌}
use Rattle.std.proofs.lemmas.Result.{err_from_is_err_and}
use Rattle.plan.proofs.Unmappings.{unmapping_refused, unmapping_done}
use Rattle.tablepath.specs.Answers.{unmap_answer, unmap_writes, unmap_said, gone_of}
use Rattle.tablepath.proofs.unmap_up_to.Goals as goal

pub returns-in_err-p : goal.returns-in_err-p
unfolding unmap_answer unmap_writes unmap_said
returns-in_err-p c = let p = err_from_is_err_and c.from_residual.result c.from_residual.ensures.1 in record { answer = rw (p.1, p.2, unmapping_refused _ _ _ _ (sym c.unmap.ensures.answer ∙ c.in_err-p.was)); order = c.unmap.ensures.order }

pub returns : goal.returns
unfolding unmap_answer unmap_writes unmap_said gone_of
returns c = let k = unmapping_done _ _ _ _ _ (sym c.unmap.ensures.answer ∙ c.in_ok-p.was) in record { answer = rw (k.0, k.1); order = c.unmap.ensures.order }
