use Rattle.entry.specs.Entry.{large_of, padded}
use Rattle.std.proofs.Common.{arith, eq-eqb, ne_eqb, le-leb}
use borrow.Author.Tests.{lt-leb}
use Rattle.entry.proofs.Levels.{size_units}
use Rattle.entry.proofs.large.Goals as goal

pub returns-then-n-gt2 : goal.returns-then-n-gt2
unfolding large_of
returns-then-n-gt2 c = simp (lt-leb _ _ c.if-n-gt2.true)

pub nonzero_rem-w : goal.nonzero_rem-w
nonzero_rem-w c = rw (c.size.ensures.0 (omega arith)) (size_units _ (omega arith) (omega arith))

pub returns-then-w-size-eq0 : goal.returns-then-w-size-eq0
unfolding large_of padded
returns-then-w-size-eq0 c = simp (le-leb _ _ c.if-n-gt2.false, ← (c.size.ensures.0 (omega arith)), eq-eqb _ _ c.if-w-size-eq0.true, c.frame.ensures, c.granted.ensures)

pub returns : goal.returns
unfolding large_of padded
returns c = simp (le-leb _ _ c.if-n-gt2.false, ← (c.size.ensures.0 (omega arith)), ne_eqb _ _ c.if-w-size-eq0.false)
