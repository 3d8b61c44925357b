use Rattle.std.proofs.Common.{sym, ◌∙◌}
use Rattle.std.proofs.lemmas.Result.{err_from_is_err_and}
use Rattle.pool.proofs.Opening.{now_is}
use Rattle.word.proofs.Budget.{wrote_none}
use Rattle.plan.specs.Unmap.{did_of, unmapping_of}
use Rattle.plan.proofs.Low.{unmap_fits, unmap_room}
use Rattle.plan.proofs.unmaps.unmap.Goals as goal

pub carry_unmap-requires : goal.carry_unmap-requires
carry_unmap-requires c = let f = unmap_fits _ _ _ _ _ (sym c.decide_unmap.ensures ∙ c.in_ok-p.was) in (f.low, f.index)

pub returns-in_err-p : goal.returns-in_err-p
unfolding did_of unmapping_of
returns-in_err-p c = let p = err_from_is_err_and c.from_residual.result c.from_residual.ensures.1 in let e = sym c.decide_unmap.ensures ∙ c.in_err-p.was in record { answer = rw (p.1, p.2, e); order = rw e (wrote_none _ _ _) }

pub returns : goal.returns
unfolding did_of unmapping_of
returns c = let e = sym c.decide_unmap.ensures ∙ c.in_ok-p.was in record { answer = rw (e, c.ticket_after-ticket.ensures, c.book_now.ensures ∙ now_is _ _ (unmap_room _ _ _ _ _ e)); order = rw e c.carry_unmap.ensures }
