use Rattle.std.proofs.Common.{refl}
use Rattle.word.proofs.Budget.{wrote_none}
use Rattle.plan.proofs.Exits.{ok_was}
use Rattle.plan.proofs.Directly.{settled}
use Rattle.plan.proofs.direct.placed.Goals as goal

pub returns-in_err-t : goal.returns-in_err-t
returns-in_err-t c = rw c.from_residual.ensures (wrote_none _ _ _)

pub returns : goal.returns
returns c = rw c.settle.ensures.value (settled _ _ _ _ _ _ _ _ _ (rw (ok_was _ _ _ c.ok.ensures.value c.in_ok-t.was) at (c.last.ensures c.requires.0)) _ refl c.settle.ensures.wrote)
