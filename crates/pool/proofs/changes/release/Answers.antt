use Rattle.pool.specs.Layout.{free_at, aside_at, tickets_at}
use Rattle.std.proofs.Common.{sym, ◌∙◌, arith, le-leb}
use borrow.Author.Tests.{lt-leb}
use Rattle.word.proofs.Budget.{wrote_none, wrote_then}
use Rattle.pool.specs.Changes.{release_writes}
use Rattle.pool.proofs.Counting.{adds_up_is}
use Rattle.pool.proofs.changes.release.Goals as goal

pub returns-then-book-k : goal.returns-then-book-k
unfolding release_writes
returns-then-book-k c = simp (lt-leb _ _ c.if-book-k.true) (wrote_none _ _ _)

pub overflow_add-book : goal.overflow_add-book
overflow_add-book c = let s = adds_up_is _ _ (sym c.adds_up.ensures ∙ c.if-adds_up.true) in omega (arith, s.small, s.room, c.if-book-k.false)

pub overflow_add-book-then-adds_up : goal.overflow_add-book-then-adds_up
overflow_add-book-then-adds_up c =
    let e = sym c.adds_up.ensures ∙ c.if-adds_up.true in
    let s = adds_up_is _ _ e in
    let l = c.if-book-k.false in
    omega (arith, s.small, s.room, s.early, l)

pub returns-then-adds_up : goal.returns-then-adds_up
unfolding release_writes free_at aside_at tickets_at
returns-then-adds_up c =
    let a = le-leb _ _ c.if-book-k.false in
    let e = sym c.adds_up.ensures ∙ c.if-adds_up.true in
    simp (a, e)
    (wrote_then _ _ _ _ _ _ _ _ _ c.put.ensures
    (wrote_then _ _ _ _ _ _ _ _ _ c.put-then-adds_up.ensures c.put-then-adds_up-2.ensures))

pub returns-else-adds_up : goal.returns-else-adds_up
unfolding release_writes
returns-else-adds_up c = simp (le-leb _ _ c.if-book-k.false, sym c.adds_up.ensures ∙ c.if-adds_up.false) (wrote_none _ _ _)
