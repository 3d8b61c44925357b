use Rattle.plan.specs.Map.{meets_of}
use Rattle.std.proofs.Common.{◌+◌, ◌*◌, ◌≤◌, arith, le-ltb, lt-ltb}
use Rattle.plan.proofs.maps.meets.Goals as goal

pub returns-then-space-gt-PAGE_COUNT : goal.returns-then-space-gt-PAGE_COUNT
unfolding meets_of
returns-then-space-gt-PAGE_COUNT c = λ u v. let a : c.args.frame + c.args.size ≤ c.args.space.first * 4096 = omega arith in simp (le-ltb _ _ a)

pub returns-then-space-gt4294967296 : goal.returns-then-space-gt4294967296
returns-then-space-gt4294967296 c = λ u v. absurd (omega arith)

pub returns-then-frame-ge9223372036854775808 : goal.returns-then-frame-ge9223372036854775808
returns-then-frame-ge9223372036854775808 c = λ u v. absurd (omega arith)

pub returns-then-size-ge9223372036854775808 : goal.returns-then-size-ge9223372036854775808
returns-then-size-ge9223372036854775808 c = λ u v. absurd (omega arith)

pub returns-then-frame-size : goal.returns-then-frame-size
unfolding meets_of
returns-then-frame-size c = λ u v. simp (le-ltb _ _ c.if-frame-size.true)

pub returns : goal.returns
unfolding meets_of
returns c = λ u v. simp (lt-ltb _ _ c.if-frame-size.false)
