use Rattle.std.proofs.Common.{le-leb}
use borrow.Author.Tests.{lt-leb}
use Rattle.pool.specs.Stands.{read_entry_of}
use Rattle.pool.proofs.bounds.entry.Goals as goal

pub returns-then-space-gt4294967296 : goal.returns-then-space-gt4294967296
unfolding read_entry_of
returns-then-space-gt4294967296 c = simp (lt-leb _ _ c.if-space-gt4294967296.true)

pub returns : goal.returns
unfolding read_entry_of
returns c = simp (le-leb _ _ c.if-space-gt4294967296.false, rw c.behind_book.ensures at c.read.ensures)
