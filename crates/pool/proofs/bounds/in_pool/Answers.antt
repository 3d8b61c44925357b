use Rattle.std.proofs.Common.{arith}
use Rattle.pool.specs.Layout.{book_pages}
use Rattle.pool.proofs.bounds.in_pool.Goals as goal

pub overflow_add-book_of : goal.overflow_add-book_of
unfolding book_pages
overflow_add-book_of c = omega (arith, c.book_of.ensures)

pub in_pool_by_one-requires : goal.in_pool_by_one-requires
in_pool_by_one-requires c = record { low = omega (arith, c.if-space.false, c.if-space-book_of.false, c.book_of.ensures); small = c.if-space-gt4294967296.false; enough = omega (arith, c.if-space-book_of.false, c.book_of.ensures) }
