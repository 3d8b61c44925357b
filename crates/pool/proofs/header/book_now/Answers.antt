use Rattle.pool.specs.Layout.{head_at, free_at, aside_at, tickets_at}
use Rattle.pool.specs.State.{book_now}
use Rattle.pool.proofs.header.book_now.Goals as goal

pub returns : goal.returns
unfolding book_now head_at free_at aside_at tickets_at
returns c = rw (c.get.ensures.for_any_bytes, c.get-2.ensures.for_any_bytes, c.get-3.ensures.for_any_bytes, c.get-4.ensures.for_any_bytes)
