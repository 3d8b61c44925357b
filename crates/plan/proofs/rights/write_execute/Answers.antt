use Rattle.plan.specs.Rights.{write_execute}
use Rattle.std.proofs.Common.{refl}
use Rattle.plan.proofs.rights.write_execute.Goals as goal

pub returns : goal.returns
unfolding write_execute
returns c = refl
