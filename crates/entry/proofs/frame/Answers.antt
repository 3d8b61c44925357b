use Rattle.entry.specs.Entry.{frame_of}
use Rattle.std.proofs.Common.{arith}
use Rattle.entry.proofs.Levels.{size_pos, size_parts, frame_lt}
use Rattle.entry.proofs.frame.Goals as goal

pub nonzero_div-result : goal.nonzero_div-result
nonzero_div-result c = rw (c.size-s.ensures.0 (omega arith)) (size_pos _ (omega arith))

pub nonzero_div-result-2 : goal.nonzero_div-result-2
nonzero_div-result-2 c = rw (c.size-s.ensures.0 (omega arith)) (size_pos _ (omega arith))

pub nonzero_rem-result : goal.nonzero_rem-result
nonzero_rem-result c = rw (c.size-s.ensures.0 (omega arith)) (size_parts _ (omega arith))

pub overflow_mul-result : goal.overflow_mul-result
unfolding frame_of
overflow_mul-result c = rw (c.size-s.ensures.0 (omega arith)) (omega (arith, frame_lt c.args.w c.args.n (omega arith)))

pub returns : goal.returns
unfolding frame_of
returns c = rw (c.size-s.ensures.0 (omega arith))
