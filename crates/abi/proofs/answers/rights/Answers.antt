use Rattle.abi.specs.Answers.{rights_in}
use mathlib.Core.Path.{refl}
use Rattle.abi.proofs.answers.rights.Goals as goal

pub returns : goal.returns
unfolding rights_in
returns c = refl
