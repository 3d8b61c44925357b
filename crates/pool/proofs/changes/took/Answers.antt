use Rattle.pool.specs.Layout.{head_at, free_at}
use Rattle.std.proofs.Common.{sym, ◌∙◌, le-leb}
use borrow.Author.Tests.{lt-leb}
use Rattle.word.proofs.Budget.{wrote_none, wrote_then}
use Rattle.pool.specs.Changes.{took_writes}
use Rattle.pool.proofs.changes.took.Goals as goal

pub returns-then-book-k : goal.returns-then-book-k
unfolding took_writes
returns-then-book-k c = simp (lt-leb _ _ c.if-book-k.true) (wrote_none _ _ _)

pub returns-then-adds_up : goal.returns-then-adds_up
unfolding took_writes head_at free_at
returns-then-adds_up c =
    simp (
      le-leb _ _ c.if-book-k.false,
      sym c.adds_up.ensures
          ∙ c.if-adds_up.true,
    ) (rw
    (← c.slot.ensures) (wrote_then _ _ _ _ _ _ _ _ _
    c.put.ensures c.put-then-adds_up.ensures))

pub returns-else-adds_up : goal.returns-else-adds_up
unfolding took_writes
returns-else-adds_up c = simp (le-leb _ _ c.if-book-k.false, sym c.adds_up.ensures ∙ c.if-adds_up.false) (wrote_none _ _ _)
