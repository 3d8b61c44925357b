use Rattle.std.proofs.Common.{sym, ◌∙◌}
use Rattle.std.proofs.lemmas.Result.{err_from_is_err_and}
use Rattle.plan.specs.Protect.{decide_of, changing_of}
use Rattle.plan.proofs.Found.{found_at}
use Rattle.pool.proofs.Opening.{names_room, now_is}
use Rattle.plan.proofs.protects.decide_protect.Goals as goal

pub returns-then-write_execute : goal.returns-then-write_execute
unfolding decide_of
returns-then-write_execute c = rw (sym c.write_execute.ensures ∙ c.if-write_execute.true)

pub returns-in_err-p : goal.returns-in_err-p
unfolding decide_of changing_of
returns-in_err-p c = let p = err_from_is_err_and c.from_residual.result c.from_residual.ensures.1 in rw (p.1, p.2, sym c.write_execute.ensures ∙ c.if-write_execute.false, sym c.find.ensures ∙ c.in_err-p.was)

pub returns : goal.returns
unfolding decide_of changing_of
returns c = let e = sym c.find.ensures ∙ c.in_ok-p.was in let k = found_at _ _ _ _ _ e in rw (sym c.write_execute.ensures ∙ c.if-write_execute.false, e, c.changed.ensures k.index, c.ticket-ticket.ensures, c.book_now.ensures ∙ now_is _ _ (names_room _ _ _ k.names))
