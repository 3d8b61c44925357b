use mathlib.Core.Path.{refl, sym, ap, ◌∙◌}
use Rattle.std.proofs.lemmas.Result.{err_from_is_err_and}
use Rattle.abi.specs.Answers.{mapped_to_c}
use Rattle.abi.specs.Calls.{misplaced_by, misplaced_of, map_answer}
use Rattle.abi.specs.Inner.{numbered}
use Rattle.abi.proofs.Asked.{refused_asked, answer_asked, order_asked}
use Rattle.abi.proofs.maps.whole.Goals as goal

pub returns-in_err-map_up_to-in-Ok : goal.returns-in_err-map_up_to-in-Ok
unfolding mapped_to_c
returns-in_err-map_up_to-in-Ok c = let e = c.space.ensures ∙ ap numbered c.in-Ok.is in let p = err_from_is_err_and c.from_residual.result c.from_residual.ensures.1 in record { answer = rw (p.1, p.2, sym c.rights.ensures, answer_asked _ _ _ _ _ _ _ e, sym c.map_up_to.ensures.answer ∙ c.in_err-map_up_to-in-Ok.was); order = rw (sym c.rights.ensures) (order_asked _ _ _ _ _ _ _ e _ _ _ c.map_up_to.ensures.order) }

pub returns-in_ok-map_up_to-in-Ok : goal.returns-in_ok-map_up_to-in-Ok
returns-in_ok-map_up_to-in-Ok c = let e = c.space.ensures ∙ ap numbered c.in-Ok.is in record { answer = rw (sym c.rights.ensures, answer_asked _ _ _ _ _ _ _ e, sym c.map_up_to.ensures.answer ∙ c.in_ok-map_up_to-in-Ok.was); order = rw (sym c.rights.ensures) (order_asked _ _ _ _ _ _ _ e _ _ _ c.map_up_to.ensures.order) }

pub returns-in_err-allowed-in-Err : goal.returns-in_err-allowed-in-Err
unfolding map_answer misplaced_of misplaced_by
returns-in_err-allowed-in-Err c = let e = refused_asked (record { base = c.args.base; frame = c.args.frame; size = c.args.size; rights = c.rights.result }) _ _ _ _ _ (c.space.ensures ∙ ap numbered c.in-Err.is) in let a = sym c.allowed.ensures ∙ c.in_err-allowed-in-Err.was in let p = err_from_is_err_and c.from_residual-in_err-allowed-in-Err.result c.from_residual-in_err-allowed-in-Err.ensures.1 in record { answer = rw (p.1, p.2, sym c.rights.ensures, e, a); order = rw (sym c.rights.ensures, e) (refl, refl) }

pub returns-in_ok-allowed-in-Err : goal.returns-in_ok-allowed-in-Err
unfolding map_answer misplaced_of misplaced_by
returns-in_ok-allowed-in-Err c = let e = refused_asked (record { base = c.args.base; frame = c.args.frame; size = c.args.size; rights = c.rights.result }) _ _ _ _ _ (c.space.ensures ∙ ap numbered c.in-Err.is) in let a = sym c.allowed.ensures ∙ c.in_ok-allowed-in-Err.was in record { answer = rw (sym c.rights.ensures, e, a); order = rw (sym c.rights.ensures, e) (refl, refl) }
