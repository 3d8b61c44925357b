use Rattle.std.proofs.Common.{eq-eqb, ne_eqb, le-leb}
use borrow.Author.Tests.{lt-leb}
use Rattle.plan.specs.Map.{way_has}
use Rattle.plan.proofs.spare.way_has.Goals as goal

pub returns-then-p-w : goal.returns-then-p-w
unfolding way_has
returns-then-p-w c = simp (eq-eqb _ _ c.if-p-w.true)

pub returns-then-w-ge3 : goal.returns-then-w-ge3
unfolding way_has
returns-then-w-ge3 c = simp (ne_eqb _ _ c.if-p-w.false, le-leb _ _ c.if-w-ge3.true)

pub returns-then-p-w-2 : goal.returns-then-p-w-2
unfolding way_has
returns-then-p-w-2 c = simp (ne_eqb _ _ c.if-p-w.false, lt-leb _ _ c.if-w-ge3.false, eq-eqb _ _ c.if-p-w-2.true)

pub returns-then-w-ge2 : goal.returns-then-w-ge2
unfolding way_has
returns-then-w-ge2 c = simp (ne_eqb _ _ c.if-p-w.false, lt-leb _ _ c.if-w-ge3.false, ne_eqb _ _ c.if-p-w-2.false, le-leb _ _ c.if-w-ge2.true)

pub returns-then-p-w-3 : goal.returns-then-p-w-3
unfolding way_has
returns-then-p-w-3 c = simp (ne_eqb _ _ c.if-p-w.false, lt-leb _ _ c.if-w-ge3.false, ne_eqb _ _ c.if-p-w-2.false, lt-leb _ _ c.if-w-ge2.false, eq-eqb _ _ c.if-p-w-3.true)

pub returns-then-w-ge1 : goal.returns-then-w-ge1
unfolding way_has
returns-then-w-ge1 c = simp (ne_eqb _ _ c.if-p-w.false, lt-leb _ _ c.if-w-ge3.false, ne_eqb _ _ c.if-p-w-2.false, lt-leb _ _ c.if-w-ge2.false, ne_eqb _ _ c.if-p-w-3.false, le-leb _ _ c.if-w-ge1.true)

pub returns : goal.returns
unfolding way_has
returns c = rw (ne_eqb _ _ c.if-p-w.false, lt-leb _ _ c.if-w-ge3.false, ne_eqb _ _ c.if-p-w-2.false, lt-leb _ _ c.if-w-ge2.false, ne_eqb _ _ c.if-p-w-3.false, lt-leb _ _ c.if-w-ge1.false)
