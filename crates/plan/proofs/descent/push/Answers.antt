use Rattle.plan.specs.Descend.{push_of}
use Rattle.std.proofs.Common.{refl}
use Rattle.plan.proofs.descent.push.Goals as goal

pub returns : goal.returns
unfolding push_of
returns c = refl
