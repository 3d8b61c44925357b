use Rattle.std.proofs.Common.{arith, eq-eqb, le-leb}
use Rattle.plan.specs.Map.{fits_of}
use Rattle.plan.proofs.Shapes.{size_small, on_aligned, on_address, frame_ends}
use Rattle.plan.proofs.maps.fits.Goals as goal

pub nonzero_rem-frame : goal.nonzero_rem-frame
nonzero_rem-frame c = omega (arith, (size_small _ _ c.requires.0 c.requires.1).0)

pub nonzero_rem-on : goal.nonzero_rem-on
nonzero_rem-on c = omega (arith, (size_small _ _ c.requires.0 c.requires.1).0)

pub returns-then-on : goal.returns-then-on
unfolding fits_of
returns-then-on c =
    let small = c.requires in
    let on = c.wrapping_add_u64-on.ensures.value in
    let address = c.ranges.base.fits in
    let aligned = c.if-frame-size-eq0.true in
    simp (eq-eqb _ _ (on_aligned _ _ _ _ small.0 small.1 address on c.if-on-size-eq0.true), eq-eqb _ _ aligned, on_address _ _ address on c.if-on.true, le-leb _ _ (frame_ends _ _ _ small.0 small.1 aligned c.if-frame-lt-FRAME_END.true))

pub tested-requires : goal.tested-requires
tested-requires c = size_small _ _ c.requires.0 c.requires.1
