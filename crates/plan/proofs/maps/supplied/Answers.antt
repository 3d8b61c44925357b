use Rattle.std.proofs.Common.{sym, ◌∙◌, le-ltb, lt-ltb, eq-eqb, ne_eqb}
use Rattle.std.proofs.lemmas.Result.{err_from_is_err_and}
use Rattle.plan.specs.Map.{supply_of, stock_of}
use Rattle.plan.proofs.maps.supplied.Goals as goal

pub returns-then-need-eq0 : goal.returns-then-need-eq0
unfolding supply_of
returns-then-need-eq0 c = simp (eq-eqb _ _ c.if-need-eq0.true, c.none.ensures)

pub returns-then-b-need : goal.returns-then-b-need
unfolding supply_of stock_of
returns-then-b-need c = simp (ne_eqb _ _ c.if-need-eq0.false, sym c.open.ensures ∙ c.in_ok-b.was, lt-ltb _ _ c.if-b-need.true)

pub returns-in_err-b : goal.returns-in_err-b
unfolding supply_of stock_of
returns-in_err-b c = let p = err_from_is_err_and c.from_residual.result c.from_residual.ensures.1 in simp (p.1, p.2, ne_eqb _ _ c.if-need-eq0.false, sym c.open.ensures ∙ c.in_err-b.was)

pub returns : goal.returns
unfolding supply_of stock_of
returns c = simp (ne_eqb _ _ c.if-need-eq0.false, sym c.open.ensures ∙ c.in_ok-b.was, le-ltb _ _ c.if-b-need.false, c.take_fresh.ensures)
