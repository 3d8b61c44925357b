use Rattle.std.proofs.Common.{sym, ap, ◌∙◌, arith}
use Rattle.std.proofs.lemmas.Result.{err_from_is_err_and}
use Rattle.plan.specs.Map.{spared_of}
use Rattle.plan.proofs.Placings.{place_lacking, spared_lacking}
use Rattle.plan.proofs.Arrivals.{vacant_here, vacant_built}
use Rattle.plan.proofs.maps.Page.vacant.Goals as goal

pub returns-then-w-self : goal.returns-then-w-self
returns-then-w-self c = λ w e. vacant_here _ _ _ _ _ _ _ w e c.args.self.made c.if-w-self.true

pub returns-in_err-supplied : goal.returns-in_err-supplied
returns-in_err-supplied c = λ w e. let p = err_from_is_err_and c.from_residual.result c.from_residual.ensures.1 in vacant_built _ _ 0 _ _ _ _ w e _ (rw (p.1, p.2) (place_lacking _ _ _ _ 0 _ _ (spared_lacking _ _ _ (sym c.supplied.ensures ∙ c.in_err-supplied.was))))

pub returns-in_err-fresh : goal.returns-in_err-fresh
returns-in_err-fresh c = λ w e. let p = err_from_is_err_and c.from_residual-in_err-fresh.result c.from_residual-in_err-fresh.ensures.1 in vacant_built _ _ 0 _ _ _ _ w e _ (rw (p.1, p.2) (place_lacking _ _ _ _ 0 _ _ (ap (spared_of c.args.t.way) (sym c.supplied.ensures ∙ c.in_ok-supplied.was) ∙ (sym c.spared.ensures ∙ c.in_err-fresh.was))))

pub returns : goal.returns
returns c = λ w e. let s = ap (spared_of c.args.t.way) (sym c.supplied.ensures ∙ c.in_ok-supplied.was) ∙ (sym c.spared.ensures ∙ c.in_ok-fresh.was) in vacant_built _ _ 0 _ _ _ _ w e _ (rw (← s) at (c.placed.ensures (omega (arith, c.if-w-self.false))))
