use Rattle.std.proofs.Common.{sym, ◌∙◌, eq-eqb, ne_eqb, le-leb}
use borrow.Author.Tests.{lt-leb}
use Rattle.plan.specs.Map.{apart_of}
use Rattle.plan.proofs.spare.apart.Goals as goal

pub returns-then-f-le0 : goal.returns-then-f-le0
unfolding apart_of
returns-then-f-le0 c = simp (le-leb _ _ c.if-f-le0.true)

pub returns-then-way_has : goal.returns-then-way_has
unfolding apart_of
returns-then-way_has c = simp (lt-leb _ _ c.if-f-le0.false, sym c.way_has.ensures ∙ c.if-way_has.true)

pub returns-then-f-le1 : goal.returns-then-f-le1
unfolding apart_of
returns-then-f-le1 c = simp (lt-leb _ _ c.if-f-le0.false, sym c.way_has.ensures ∙ c.if-way_has.false, le-leb _ _ c.if-f-le1.true)

pub returns-then-f : goal.returns-then-f
unfolding apart_of
returns-then-f c = simp (lt-leb _ _ c.if-f-le0.false, sym c.way_has.ensures ∙ c.if-way_has.false, lt-leb _ _ c.if-f-le1.false, eq-eqb _ _ c.if-f.true)

pub returns-then-way_has-2 : goal.returns-then-way_has-2
unfolding apart_of
returns-then-way_has-2 c = simp (lt-leb _ _ c.if-f-le0.false, sym c.way_has.ensures ∙ c.if-way_has.false, lt-leb _ _ c.if-f-le1.false, ne_eqb _ _ c.if-f.false, sym c.way_has-2.ensures ∙ c.if-way_has-2.true)

pub returns-then-f-le2 : goal.returns-then-f-le2
unfolding apart_of
returns-then-f-le2 c = simp (lt-leb _ _ c.if-f-le0.false, sym c.way_has.ensures ∙ c.if-way_has.false, lt-leb _ _ c.if-f-le1.false, ne_eqb _ _ c.if-f.false, sym c.way_has-2.ensures ∙ c.if-way_has-2.false, le-leb _ _ c.if-f-le2.true)

pub returns-then-f-2 : goal.returns-then-f-2
unfolding apart_of
returns-then-f-2 c = simp (lt-leb _ _ c.if-f-le0.false, sym c.way_has.ensures ∙ c.if-way_has.false, lt-leb _ _ c.if-f-le1.false, ne_eqb _ _ c.if-f.false, sym c.way_has-2.ensures ∙ c.if-way_has-2.false, lt-leb _ _ c.if-f-le2.false, eq-eqb _ _ c.if-f-2.true)

pub returns-then-f-3 : goal.returns-then-f-3
unfolding apart_of
returns-then-f-3 c = simp (lt-leb _ _ c.if-f-le0.false, sym c.way_has.ensures ∙ c.if-way_has.false, lt-leb _ _ c.if-f-le1.false, ne_eqb _ _ c.if-f.false, sym c.way_has-2.ensures ∙ c.if-way_has-2.false, lt-leb _ _ c.if-f-le2.false, ne_eqb _ _ c.if-f-2.false, eq-eqb _ _ c.if-f-3.true)

pub returns-then-way_has-3 : goal.returns-then-way_has-3
unfolding apart_of
returns-then-way_has-3 c = simp (lt-leb _ _ c.if-f-le0.false, sym c.way_has.ensures ∙ c.if-way_has.false, lt-leb _ _ c.if-f-le1.false, ne_eqb _ _ c.if-f.false, sym c.way_has-2.ensures ∙ c.if-way_has-2.false, lt-leb _ _ c.if-f-le2.false, ne_eqb _ _ c.if-f-2.false, ne_eqb _ _ c.if-f-3.false, sym c.way_has-3.ensures ∙ c.if-way_has-3.true)

pub returns : goal.returns
unfolding apart_of
returns c = simp (lt-leb _ _ c.if-f-le0.false, sym c.way_has.ensures ∙ c.if-way_has.false, lt-leb _ _ c.if-f-le1.false, ne_eqb _ _ c.if-f.false, sym c.way_has-2.ensures ∙ c.if-way_has-2.false, lt-leb _ _ c.if-f-le2.false, ne_eqb _ _ c.if-f-2.false, ne_eqb _ _ c.if-f-3.false, sym c.way_has-3.ensures ∙ c.if-way_has-3.false)
