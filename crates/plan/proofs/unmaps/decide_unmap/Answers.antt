use Rattle.std.proofs.Common.{sym, ◌∙◌}
use Rattle.std.proofs.lemmas.Result.{err_from_is_err_and}
use Rattle.plan.proofs.Found.{found_at}
use Rattle.plan.specs.Unmap.{decide_of, removing_of}
use Rattle.plan.proofs.unmaps.decide_unmap.Goals as goal

pub returns-in_err-p : goal.returns-in_err-p
unfolding decide_of removing_of
returns-in_err-p c = let p = err_from_is_err_and c.from_residual.result c.from_residual.ensures.1 in rw (p.1, p.2, sym c.find.ensures ∙ c.in_err-p.was)

pub returns : goal.returns
unfolding decide_of removing_of
returns c = let e = sym c.find.ensures ∙ c.in_ok-p.was in rw (e, c.remove.ensures, c.emptied-n.ensures (found_at _ _ _ _ _ e).index)
