use Rattle.plan.specs.Find.{starts_of}
use Rattle.plan.proofs.finding.starts.Goals as goal

pub returns : goal.returns
unfolding starts_of
returns c = λ u. rw (c.size.ensures.0 u)
