use Rattle.walk.specs.Walk.{entered}
use Rattle.std.proofs.Common.{arith}
use Rattle.walk.proofs.enter.Goals as goal

pub returns-in-Nothing : goal.returns-in-Nothing
unfolding entered
returns-in-Nothing c = rw c.in-Nothing.is

pub returns-in-Page : goal.returns-in-Page
unfolding entered
returns-in-Page c = rw (c.in-Page.is, c.base.ensures, c.size.ensures.0 (omega arith), c.both.ensures)

pub returns-in-Table : goal.returns-in-Table
unfolding entered
returns-in-Table c = rw (c.in-Table.is, c.both-in-Table.ensures)
