use Rattle.std.proofs.Common.{sym, ◌∙◌}
use Rattle.std.proofs.lemmas.Result.{err_from_is_err_and}
use Rattle.plan.proofs.Exits.{or_ok, or_err}
use Rattle.plan.proofs.Placings.{shaped_made}
use Rattle.plan.proofs.Shapes.{shaped, allowed_shape}
use Rattle.plan.specs.Map.{decide_of, shaped_of, placing_of}
use Rattle.plan.proofs.maps.decide_map.Goals as goal

pub invariant_of-page : goal.invariant_of-page
invariant_of-page c = record { made = sym c.page_word.ensures ∙ or_ok _ _ _ _ c.ok_or.ensures.value c.in_ok-word.was }

pub returns-in_err-target : goal.returns-in_err-target
unfolding decide_of shaped_of placing_of
returns-in_err-target c = let p = err_from_is_err_and c.from_residual.result c.from_residual.ensures.1 in rw (p.1, p.2, sym c.allowed.ensures ∙ c.in_err-target.was)

pub returns-in_err-word : goal.returns-in_err-word
returns-in_err-word c = absurd (shaped_made _ _ _ _ _ (shaped _ _ _ _ (allowed_shape _ _ (sym c.allowed.ensures ∙ c.in_ok-target.was))) (sym c.page_word.ensures ∙ (or_err _ _ _ _ c.ok_or.ensures.value c.in_err-word.was).0))

pub returns : goal.returns
unfolding decide_of shaped_of
returns c = let e = sym c.allowed.ensures ∙ c.in_ok-target.was in rw e (c.placing.ensures (shaped _ _ _ _ (allowed_shape _ _ e)).frame_fits)
