use Rattle.entry.specs.Entry.{both}
use Rattle.std.proofs.Common.{refl}
use Rattle.entry.proofs.both.Goals as goal

pub returns : goal.returns
unfolding both
returns c = refl
