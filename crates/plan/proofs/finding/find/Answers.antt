use Rattle.std.proofs.Common.{sym, ◌∙◌}
use Rattle.std.proofs.lemmas.Result.{err_from_is_err_and}
use Rattle.pool.proofs.Opening.{names_stands}
use Rattle.plan.proofs.Ways.{way_paged}
use Rattle.plan.specs.Find.{find_of, sought_of}
use Rattle.plan.proofs.finding.find.Goals as goal

pub invariant_of-descend : goal.invariant_of-descend
invariant_of-descend c = record { stands = names_stands _ _ _ (sym c.names.ensures ∙ c.in_ok-names.was) }

pub returns-then-canonical : goal.returns-then-canonical
unfolding find_of sought_of
returns-then-canonical c = simp (sym c.names.ensures ∙ c.in_ok-names.was, sym c.canonical.ensures ∙ c.if-canonical.true, c.stopped.ensures _ (way_paged _ _ _ _ _) c.descend.ensures)

pub returns-in_err-names : goal.returns-in_err-names
unfolding find_of sought_of
returns-in_err-names c = let p = err_from_is_err_and c.from_residual.result c.from_residual.ensures.1 in simp (p.1, p.2, sym c.names.ensures ∙ c.in_err-names.was)

pub returns : goal.returns
unfolding find_of sought_of
returns c = simp (sym c.names.ensures ∙ c.in_ok-names.was, sym c.canonical.ensures ∙ c.if-canonical.false)
