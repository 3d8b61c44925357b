use Rattle.walk.specs.Walk.{index_of}
use Rattle.walk.proofs.index.Goals as goal

pub nonzero_div-result : goal.nonzero_div-result
nonzero_div-result c = c.size.ensures.1

pub returns : goal.returns
unfolding index_of
returns c = (λ u. rw (c.size.ensures.0 u), λ u. rw (c.size.ensures.2 u))
