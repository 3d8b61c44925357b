use Rattle.std.proofs.Common.{refl}
use Rattle.pool.specs.Layout.{book_pages}
use Rattle.pool.proofs.bounds.book_of.Goals as goal

pub returns : goal.returns
unfolding book_pages
returns c = refl
