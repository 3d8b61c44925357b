use Rattle.std.proofs.Common.{sym, ap, ◌∙◌, Ok}
use Rattle.std.proofs.lemmas.Result.{err_from_is_err_and}
use Rattle.plan.proofs.Low.{map_low, held_low}
use Rattle.word.proofs.Budget.{wrote_none, wrote_as}
use Rattle.plan.specs.Map.{did_of, making_of}
use Rattle.plan.proofs.Placings.{placing_refused, placing_built, placing_here, here_did, here_made}
use Rattle.plan.proofs.building.map.Goals as goal

pub carry_map-requires : goal.carry_map-requires
carry_map-requires c = map_low _ _ _ (held_low _ _) _ _ (placing_built _ _ (sym c.decide_map.ensures ∙ (c.in_ok-c.was ∙ ap Ok c.in-Built.is)))

pub returns-in_err-c : goal.returns-in_err-c
unfolding did_of making_of
returns-in_err-c c = let p = err_from_is_err_and c.from_residual.result c.from_residual.ensures.1 in let e = placing_refused _ _ (sym c.decide_map.ensures ∙ c.in_err-c.was) in record { answer = rw (p.1, p.2, e); order = rw e (wrote_none _ _ _) }

pub returns-in-Here : goal.returns-in-Here
returns-in-Here c = let k = placing_here _ _ (sym c.decide_map.ensures ∙ (c.in_ok-c.was ∙ ap Ok c.in-Here.is)) in record { answer = here_made _ _ k; order = wrote_as _ _ _ _ _ _ _ (here_did _ _ _ k) c.carry_here.ensures }

pub returns-in-Built : goal.returns-in-Built
unfolding did_of making_of
returns-in-Built c = let e = placing_built _ _ (sym c.decide_map.ensures ∙ (c.in_ok-c.was ∙ ap Ok c.in-Built.is)) in record { answer = rw e; order = rw e c.carry_map.ensures }
