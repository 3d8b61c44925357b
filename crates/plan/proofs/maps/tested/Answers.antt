use Rattle.plan.specs.Map.{fits_of}
use Rattle.std.proofs.Common.{sym, ◌∙◌, eq-eqb, ne_eqb, le-leb}
use borrow.Author.Tests.{lt-leb}
use Rattle.plan.proofs.maps.tested.Goals as goal

pub returns-then-base-size-ne0 : goal.returns-then-base-size-ne0
unfolding fits_of
returns-then-base-size-ne0 c = simp (ne_eqb _ _ c.if-base-size-ne0.true)

pub returns-then-frame-size-ne0 : goal.returns-then-frame-size-ne0
unfolding fits_of
returns-then-frame-size-ne0 c = simp (eq-eqb _ _ c.if-base-size-ne0.false, ne_eqb _ _ c.if-frame-size-ne0.true)

pub returns-then-size-frame : goal.returns-then-size-frame
unfolding fits_of
returns-then-size-frame c = simp (eq-eqb _ _ c.if-base-size-ne0.false, eq-eqb _ _ c.if-frame-size-ne0.false, sym c.canonical.ensures ∙ c.if-canonical.true, lt-leb _ _ c.if-size-frame.true)

pub returns-then-canonical : goal.returns-then-canonical
unfolding fits_of
returns-then-canonical c = simp (eq-eqb _ _ c.if-base-size-ne0.false, eq-eqb _ _ c.if-frame-size-ne0.false, sym c.canonical.ensures ∙ c.if-canonical.true, le-leb _ _ c.if-size-frame.false)

pub returns : goal.returns
unfolding fits_of
returns c = simp (eq-eqb _ _ c.if-base-size-ne0.false, eq-eqb _ _ c.if-frame-size-ne0.false, sym c.canonical.ensures ∙ c.if-canonical.false)
