use Rattle.std.proofs.Common.{refl, arith}
use Rattle.walk.specs.Walk.{step_of}
use Rattle.walk.proofs.step.Goals as goal

pub returns-then-n-gt3 : goal.returns-then-n-gt3
returns-then-n-gt3 c = (λ u. absurd (omega arith), λ u. refl)

pub returns-in-Going : goal.returns-in-Going
unfolding step_of
returns-in-Going c = (λ u. rw (c.arrive.ensures, c.in-Going.is), λ u. absurd (omega arith))

pub returns-in-Ended : goal.returns-in-Ended
unfolding step_of
returns-in-Ended c = (λ u. rw c.in-Ended.is, λ u. absurd (omega arith))
