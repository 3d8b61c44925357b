use Rattle.std.proofs.Common.{sym, ◌∙◌, arith}
use Rattle.pool.proofs.Opening.{names_stands}
use Rattle.word.proofs.Budget.{wrote_none}
use Rattle.plan.proofs.Exits.{ok_was}
use Rattle.plan.proofs.Directly.{found_at_once}
use Rattle.plan.proofs.direct.at_once.Goals as goal

pub returns-then-n-gt2 : goal.returns-then-n-gt2
returns-then-n-gt2 c = wrote_none _ _ _

pub returns-then-q-size : goal.returns-then-q-size
returns-then-q-size c = wrote_none _ _ _

pub fits-requires : goal.fits-requires
fits-requires c = (c.if-n-gt2.false, c.size-size.ensures.0 (omega (arith, c.if-n-gt2.false)))

pub returns-in_err-ok : goal.returns-in_err-ok
returns-in_err-ok c = rw c.from_residual.ensures (wrote_none _ _ _)

pub returns-then-write_execute : goal.returns-then-write_execute
returns-then-write_execute c = wrote_none _ _ _

pub returns-in_err-x : goal.returns-in_err-x
returns-in_err-x c = rw c.from_residual-in_err-x.ensures (wrote_none _ _ _)

pub returns-in_err-ok-2 : goal.returns-in_err-ok-2
returns-in_err-ok-2 c = rw c.from_residual-in_err-ok-2.ensures (wrote_none _ _ _)

pub returns-then-meets : goal.returns-then-meets
returns-then-meets c = wrote_none _ _ _

pub placed-requires : goal.placed-requires
placed-requires c = (c.if-n-gt2.false, names_stands _ _ _ (sym c.names.ensures ∙ ok_was _ _ _ c.ok-2.ensures.value c.in_ok-ok-2.was))

pub returns : goal.returns
returns c = found_at_once _ _ _ c.placed.new.mem _ c.args.q _ _ (sym c.page_word.ensures ∙ c.in_ok-x.was) _ _ _ c.if-n-gt2.false c.if-q-size.false (c.size-size.ensures.0 (omega (arith, c.if-n-gt2.false))) (sym c.fits.ensures ∙ ok_was _ _ _ c.ok.ensures.value c.in_ok-ok.was) (sym c.write_execute.ensures ∙ c.if-write_execute.false) (sym c.names.ensures ∙ ok_was _ _ _ c.ok-2.ensures.value c.in_ok-ok-2.was) c.meets.ensures c.if-meets.false c.placed.result c.placed.ensures
