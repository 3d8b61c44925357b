use Rattle.pool.specs.Book.{ticket_after}
use Rattle.std.proofs.Common.{sym}
use Rattle.pool.proofs.ticket_after.Goals as goal

pub returns : goal.returns
unfolding ticket_after
returns c = rw (sym c.ticket.ensures) c.wrapping_add_u64.ensures.value
