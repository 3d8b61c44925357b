use Rattle.std.proofs.Common.{le-leb}
use borrow.Author.Tests.{lt-leb}
use Rattle.word.proofs.Budget.{wrote_none}
use Rattle.pool.specs.Stands.{entry_writes}
use Rattle.pool.proofs.bounds.set_entry.Goals as goal

pub returns-then-sp-gt4294967296 : goal.returns-then-sp-gt4294967296
unfolding entry_writes
returns-then-sp-gt4294967296 c = simp (lt-leb _ _ c.if-sp-gt4294967296.true) (wrote_none _ _ _)

pub returns : goal.returns
unfolding entry_writes
returns c = simp (le-leb _ _ c.if-sp-gt4294967296.false) (rw c.behind_book.ensures at c.write.ensures)
