use Rattle.std.proofs.Common.{sym, ◌∙◌, arith}
use Rattle.walk.proofs.Steps.{step_read, step_outside}
use Rattle.walk.proofs.arrive.Goals as goal

pub returns-in-Some : goal.returns-in-Some
returns-in-Some c = rw (c.enter.ensures, c.decode.ensures) (sym (step_read _ _ _ _ _ _ _ (c.index.ensures.0 (omega arith)) _ (sym c.read.ensures ∙ c.in-Some.is)))

pub returns-in-None : goal.returns-in-None
returns-in-None c = sym (step_outside _ _ _ _ _ _ _ (c.index.ensures.0 (omega arith)) (sym c.read.ensures ∙ c.in-None.is))
