use Rattle.std.proofs.Common.{sym, ◌∙◌, eq-eqb, ne_eqb}
use Rattle.std.proofs.lemmas.Result.{err_from_is_err_and}
use Rattle.plan.specs.Unmap.{remove_of, open_of}
use Rattle.plan.proofs.unmaps.remove.Goals as goal

pub returns-then-n-eq0 : goal.returns-then-n-eq0
unfolding remove_of
returns-then-n-eq0 c = simp (eq-eqb _ _ c.if-n-eq0.true)

pub returns-in_err-b : goal.returns-in_err-b
unfolding remove_of open_of
returns-in_err-b c = let p = err_from_is_err_and c.from_residual.result c.from_residual.ensures.1 in simp (p.1, p.2, ne_eqb _ _ c.if-n-eq0.false, sym c.open.ensures ∙ c.in_err-b.was)

pub returns : goal.returns
unfolding remove_of open_of
returns c = simp (ne_eqb _ _ c.if-n-eq0.false, sym c.open.ensures ∙ c.in_ok-b.was, c.booked.ensures)
