use Rattle.plan.specs.Protect.{writes_of}
use Rattle.plan.proofs.protects.carry_protect.Goals as goal

pub returns : goal.returns
unfolding writes_of
returns c = c.write.ensures
