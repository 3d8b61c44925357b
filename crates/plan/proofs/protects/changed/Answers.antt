use Rattle.plan.specs.Protect.{change_of}
use Rattle.plan.proofs.protects.changed.Goals as goal

pub returns : goal.returns
unfolding change_of
returns c = λ u. rw (u, c.with_rights.ensures)
