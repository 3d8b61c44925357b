use Rattle.std.proofs.Common.{refl, arith, eq-eqb, ne_eqb}
use Rattle.entry.specs.Entry.{size_of}
use Rattle.plan.specs.Map.{shape_of}
use Rattle.plan.proofs.maps.shaped.Goals as goal

pub fits-requires : goal.fits-requires
unfolding size_of
fits-requires c = (omega arith, refl)

pub returns-then-size-eq4096 : goal.returns-then-size-eq4096
unfolding shape_of
returns-then-size-eq4096 c = simp (eq-eqb _ _ c.if-size-eq4096.true, c.fits.ensures)

pub fits-requires-then-size-eq2097152 : goal.fits-requires-then-size-eq2097152
unfolding size_of
fits-requires-then-size-eq2097152 c = (omega arith, refl)

pub returns-then-size-eq2097152 : goal.returns-then-size-eq2097152
unfolding shape_of
returns-then-size-eq2097152 c = simp (ne_eqb _ _ c.if-size-eq4096.false, eq-eqb _ _ c.if-size-eq2097152.true, c.fits-then-size-eq2097152.ensures)

pub fits-requires-then-size-eq1073741824 : goal.fits-requires-then-size-eq1073741824
unfolding size_of
fits-requires-then-size-eq1073741824 c = (omega arith, refl)

pub returns-then-size-eq1073741824 : goal.returns-then-size-eq1073741824
unfolding shape_of
returns-then-size-eq1073741824 c = simp (ne_eqb _ _ c.if-size-eq4096.false, ne_eqb _ _ c.if-size-eq2097152.false, eq-eqb _ _ c.if-size-eq1073741824.true, c.fits-then-size-eq1073741824.ensures)

pub returns : goal.returns
unfolding shape_of
returns c = simp (ne_eqb _ _ c.if-size-eq4096.false, ne_eqb _ _ c.if-size-eq2097152.false, ne_eqb _ _ c.if-size-eq1073741824.false)
