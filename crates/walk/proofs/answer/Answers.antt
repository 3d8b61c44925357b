use Rattle.walk.specs.Walk.{found_of}
use Rattle.walk.proofs.answer.Goals as goal

pub returns-in-Going : goal.returns-in-Going
unfolding found_of
returns-in-Going c = rw c.in-Going.is

pub returns-in-Ended : goal.returns-in-Ended
unfolding found_of
returns-in-Ended c = rw c.in-Ended.is
