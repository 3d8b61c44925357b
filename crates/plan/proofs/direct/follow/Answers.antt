use Rattle.std.proofs.Common.{sym, ap, ◌∙◌}
use Rattle.std.proofs.lemmas.Result.{err_from_is_err_and}
use Rattle.plan.specs.AtOnce.{lead_by}
use Rattle.plan.proofs.Exits.{or_ok, or_err}
use Rattle.plan.proofs.Reading.{lead_word, lead_outside}
use Rattle.plan.proofs.direct.follow.Goals as goal

pub returns-in_err-w : goal.returns-in_err-w
returns-in_err-w c = let p = err_from_is_err_and c.from_residual.result c.from_residual.ensures.1 in let q = or_err _ _ _ _ c.ok_or.ensures.value c.in_err-w.was in rw (p.1, p.2, q.1) (sym (lead_outside _ _ c.args.at.stands _ _ _ (rw (c.index.ensures.0 c.requires) at (sym c.entry.ensures ∙ q.0))))

pub returns-in-Nothing : goal.returns-in-Nothing
unfolding lead_by
returns-in-Nothing c = sym (lead_word _ _ c.args.at.stands _ _ _ _ (rw (c.index.ensures.0 c.requires) at (sym c.entry.ensures ∙ or_ok _ _ _ _ c.ok_or.ensures.value c.in_ok-w.was)) ∙ ap lead_by (sym c.decode.ensures ∙ c.in-Nothing.is))

pub returns-in-Page : goal.returns-in-Page
unfolding lead_by
returns-in-Page c = sym (lead_word _ _ c.args.at.stands _ _ _ _ (rw (c.index.ensures.0 c.requires) at (sym c.entry.ensures ∙ or_ok _ _ _ _ c.ok_or.ensures.value c.in_ok-w.was)) ∙ ap lead_by (sym c.decode.ensures ∙ c.in-Page.is))

pub returns-in-Table : goal.returns-in-Table
unfolding lead_by
returns-in-Table c = sym (lead_word _ _ c.args.at.stands _ _ _ _ (rw (c.index.ensures.0 c.requires) at (sym c.entry.ensures ∙ or_ok _ _ _ _ c.ok_or.ensures.value c.in_ok-w.was)) ∙ ap lead_by (sym c.decode.ensures ∙ c.in-Table.is))
