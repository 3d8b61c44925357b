use Rattle.std.proofs.Common.{le-leb}
use borrow.Author.Tests.{lt-leb}
use Rattle.word.proofs.Budget.{wrote_none, wrote_then}
use Rattle.plan.specs.Unmap.{cut_book, cut_writes}
use Rattle.plan.proofs.unmaps.cut.Goals as goal

pub returns-then-n-k : goal.returns-then-n-k
unfolding cut_book cut_writes
returns-then-n-k c = record { value = simp (le-leb _ _ c.if-n-k.true); wrote = simp (le-leb _ _ c.if-n-k.true) (wrote_none _ _ _) }

pub returns : goal.returns
unfolding cut_book cut_writes
returns c = record { value = simp (lt-leb _ _ c.if-n-k.false) c.set_aside.ensures.value; wrote = simp (lt-leb _ _ c.if-n-k.false) (rw (← c.index.ensures.0 (c.requires c.if-n-k.false)) (wrote_then _ _ _ _ _ _ _ _ _ c.write.ensures c.set_aside.ensures.wrote)) }
