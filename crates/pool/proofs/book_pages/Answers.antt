use Rattle.std.proofs.Common.{arith}
use Rattle.pool.specs.Layout.{book_pages}
use Rattle.pool.proofs.book_pages.Goals as goal

pub returns : goal.returns
unfolding book_pages
returns c = omega arith
