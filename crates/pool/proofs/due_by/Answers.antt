use Rattle.std.proofs.Common.{le-leb}
use borrow.Author.Tests.{lt-leb}
use Rattle.pool.specs.Book.{due_of}
use Rattle.pool.proofs.due_by.Goals as goal

pub returns-then-ticket-book : goal.returns-then-ticket-book
unfolding due_of
returns-then-ticket-book c = simp (le-leb _ _ c.if-ticket-book.true)

pub returns-then-book-k : goal.returns-then-book-k
unfolding due_of
returns-then-book-k c = simp (lt-leb _ _ c.if-ticket-book.false, lt-leb _ _ c.if-book-k.true)

pub returns-then-ticket-gt-LAST : goal.returns-then-ticket-gt-LAST
unfolding due_of
returns-then-ticket-gt-LAST c = simp (lt-leb _ _ c.if-ticket-book.false, le-leb _ _ c.if-book-k.false, lt-leb _ _ c.if-ticket-gt-LAST.true)

pub returns : goal.returns
unfolding due_of
returns c = simp (lt-leb _ _ c.if-ticket-book.false, le-leb _ _ c.if-book-k.false, le-leb _ _ c.if-ticket-gt-LAST.false)
