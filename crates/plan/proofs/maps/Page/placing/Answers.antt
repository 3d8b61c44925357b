use Rattle.std.proofs.Common.{sym, ◌∙◌}
use Rattle.std.proofs.lemmas.Result.{err_from_is_err_and}
use Rattle.pool.proofs.Opening.{names_shows, names_stands}
use Rattle.plan.specs.Map.{standing_of, fitting_of, placing_of}
use Rattle.plan.proofs.maps.Page.placing.Goals as goal

pub returns-then-meets : goal.returns-then-meets
unfolding standing_of fitting_of placing_of
returns-then-meets c = λ u. let e = sym c.names.ensures ∙ c.in_ok-names.was in simp (e, sym (c.meets.ensures u (names_shows _ _ _ e).fits.small) ∙ c.if-meets.true)

pub invariant_of-descend : goal.invariant_of-descend
invariant_of-descend c = record { stands = names_stands _ _ _ (sym c.names.ensures ∙ c.in_ok-names.was) }

pub returns-in_err-names : goal.returns-in_err-names
unfolding standing_of fitting_of placing_of
returns-in_err-names c = λ u. let p = err_from_is_err_and c.from_residual.result c.from_residual.ensures.1 in simp (p.1, p.2, sym c.names.ensures ∙ c.in_err-names.was)

pub returns : goal.returns
unfolding standing_of fitting_of
returns c = λ u. let e = sym c.names.ensures ∙ c.in_ok-names.was in simp (e, sym (c.meets.ensures u (names_shows _ _ _ e).fits.small) ∙ c.if-meets.false) (c.stopped.ensures _ c.descend-t.ensures)
