use Rattle.plan.proofs.Ways.{went_on, went_to, went_last}
use Rattle.std.proofs.Common.{◌∙◌}
use Rattle.plan.proofs.descent.down.Goals as goal

pub returns-in_err-t : goal.returns-in_err-t
returns-in_err-t c = c.from_residual.ensures ∙ went_to _ _ _ _ _ _ _ _ _ c.in_err-t.ensures

pub returns-in_err-t-2 : goal.returns-in_err-t-2
returns-in_err-t-2 c =
    rw (c.from_residual-in_err-t-2.ensures, went_on _ _ _ _ _ _ _ _ _ _ c.in_ok-t.ensures) (went_to _ _ _ _ _ _ _ _ _ c.in_err-t-2.ensures)

pub returns-in_err-t-3 : goal.returns-in_err-t-3
returns-in_err-t-3 c =
    rw (c.from_residual-in_err-t-3.ensures, went_on _ _ _ _ _ _ _ _ _ _ c.in_ok-t.ensures, went_on _ _ _ _ _ _ _ _ _ _ c.in_ok-t-2.ensures)
    (went_to _ _ _ _ _ _ _ _ _ c.in_err-t-3.ensures)

pub returns : goal.returns
returns c =
    rw (went_on _ _ _ _ _ _ _ _ _ _ c.in_ok-t.ensures, went_on _ _ _ _ _ _ _ _ _ _ c.in_ok-t-2.ensures, went_on _ _ _ _ _ _ _ _ _ _ c.in_ok-t-3.ensures, went_last _ _ _ _ _ _ _)
    c.arrive-4.ensures
