use Rattle.std.proofs.Common.{sym, ◌∙◌}
use Rattle.std.proofs.lemmas.Result.{err_from_is_err_and}
use Rattle.plan.specs.Map.{allowed_of, strict_of}
use Rattle.plan.proofs.maps.allowed.Goals as goal

pub returns-then-write_execute : goal.returns-then-write_execute
unfolding allowed_of strict_of
returns-then-write_execute c = rw (sym c.shaped.ensures ∙ c.in_ok-n.was, sym c.write_execute.ensures ∙ c.if-write_execute.true)

pub returns-in_err-n : goal.returns-in_err-n
unfolding allowed_of strict_of
returns-in_err-n c = let p = err_from_is_err_and c.from_residual.result c.from_residual.ensures.1 in rw (p.1, p.2, sym c.shaped.ensures ∙ c.in_err-n.was)

pub returns : goal.returns
unfolding allowed_of strict_of
returns c = rw (sym c.shaped.ensures ∙ c.in_ok-n.was, sym c.write_execute.ensures ∙ c.if-write_execute.false)
