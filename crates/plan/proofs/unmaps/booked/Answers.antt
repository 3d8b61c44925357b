use Rattle.plan.specs.Unmap.{booked_of}
use Rattle.std.proofs.Common.{sym, ◌∙◌}
use Rattle.plan.proofs.unmaps.booked.Goals as goal

pub returns-then-takes : goal.returns-then-takes
unfolding booked_of
returns-then-takes c = rw (sym c.takes.ensures ∙ c.if-takes.true)

pub returns : goal.returns
unfolding booked_of
returns c = rw (sym c.takes.ensures ∙ c.if-takes.false)
