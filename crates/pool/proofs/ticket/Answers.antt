use Rattle.pool.specs.Book.{ticket_in}
use Rattle.pool.proofs.ticket.Goals as goal

pub returns : goal.returns
unfolding ticket_in
returns c = c.wrapping_add_u64.ensures.value
