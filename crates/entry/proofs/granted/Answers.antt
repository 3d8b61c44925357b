use Rattle.entry.specs.Entry.{rights_of, bit}
use Rattle.std.proofs.Common.{refl}
use Rattle.entry.proofs.granted.Goals as goal

pub returns : goal.returns
unfolding rights_of bit
returns c = refl
