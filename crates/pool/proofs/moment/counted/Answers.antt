use Rattle.pool.specs.State.{counted_of}
use Rattle.pool.proofs.moment.counted.Goals as goal

pub returns : goal.returns
unfolding counted_of
returns c = rw (c.book_pages.ensures, c.ticket.ensures)
