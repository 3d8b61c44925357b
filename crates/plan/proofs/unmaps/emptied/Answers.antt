use Rattle.plan.specs.Unmap.{emptied_of}
use Rattle.std.proofs.Common.{sym, ◌∙◌, arith, le-leb}
use borrow.Author.Tests.{lt-leb}
use Rattle.plan.proofs.unmaps.emptied.Goals as goal

pub returns-then-w-ge3 : goal.returns-then-w-ge3
unfolding emptied_of
returns-then-w-ge3 c = λ e. simp (le-leb _ _ c.if-w-ge3.true)

pub returns-then-besides : goal.returns-then-besides
unfolding emptied_of
returns-then-besides c = λ e. simp (lt-leb _ _ c.if-w-ge3.false, rw e at (sym c.besides.ensures ∙ c.if-besides.true))

pub returns-then-w-ge2 : goal.returns-then-w-ge2
unfolding emptied_of
returns-then-w-ge2 c = λ e. simp (lt-leb _ _ c.if-w-ge3.false, rw e at (sym c.besides.ensures ∙ c.if-besides.false), le-leb _ _ c.if-w-ge2.true)

pub returns-then-besides-2 : goal.returns-then-besides-2
unfolding emptied_of
returns-then-besides-2 c = λ e. simp (lt-leb _ _ c.if-w-ge3.false, rw e at (sym c.besides.ensures ∙ c.if-besides.false), lt-leb _ _ c.if-w-ge2.false, rw (c.index.ensures.0 (omega arith)) at (sym c.besides-2.ensures ∙ c.if-besides-2.true))

pub returns-then-w-ge1 : goal.returns-then-w-ge1
unfolding emptied_of
returns-then-w-ge1 c = λ e. simp (lt-leb _ _ c.if-w-ge3.false, rw e at (sym c.besides.ensures ∙ c.if-besides.false), lt-leb _ _ c.if-w-ge2.false, rw (c.index.ensures.0 (omega arith)) at (sym c.besides-2.ensures ∙ c.if-besides-2.false), le-leb _ _ c.if-w-ge1.true)

pub returns-then-besides-3 : goal.returns-then-besides-3
unfolding emptied_of
returns-then-besides-3 c = λ e. simp (lt-leb _ _ c.if-w-ge3.false, rw e at (sym c.besides.ensures ∙ c.if-besides.false), lt-leb _ _ c.if-w-ge2.false, rw (c.index.ensures.0 (omega arith)) at (sym c.besides-2.ensures ∙ c.if-besides-2.false), lt-leb _ _ c.if-w-ge1.false, rw (c.index-2.ensures.0 (omega arith)) at (sym c.besides-3.ensures ∙ c.if-besides-3.true))

pub returns : goal.returns
unfolding emptied_of
returns c = λ e. simp (lt-leb _ _ c.if-w-ge3.false, rw e at (sym c.besides.ensures ∙ c.if-besides.false), lt-leb _ _ c.if-w-ge2.false, rw (c.index.ensures.0 (omega arith)) at (sym c.besides-2.ensures ∙ c.if-besides-2.false), lt-leb _ _ c.if-w-ge1.false, rw (c.index-2.ensures.0 (omega arith)) at (sym c.besides-3.ensures ∙ c.if-besides-3.false))
