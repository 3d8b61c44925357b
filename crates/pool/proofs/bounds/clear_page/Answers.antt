use Rattle.std.proofs.Common.{le-leb}
use borrow.Author.Tests.{lt-leb}
use Rattle.word.proofs.Budget.{wrote_none}
use Rattle.pool.specs.Stands.{clear_writes}
use Rattle.pool.proofs.bounds.clear_page.Goals as goal

pub returns-then-sp-gt4294967296 : goal.returns-then-sp-gt4294967296
unfolding clear_writes
returns-then-sp-gt4294967296 c = simp (lt-leb _ _ c.if-sp-gt4294967296.true) (wrote_none _ _ _)

pub returns : goal.returns
unfolding clear_writes
returns c = simp (le-leb _ _ c.if-sp-gt4294967296.false) (rw c.behind_book.ensures at c.clear.ensures)
