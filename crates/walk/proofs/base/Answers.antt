use Rattle.std.proofs.Common.{div-mul-le_self, arith}
use Rattle.walk.specs.Walk.{base_of}
use Rattle.walk.proofs.base.Goals as goal

pub nonzero_div-result : goal.nonzero_div-result
nonzero_div-result c = c.size-s.ensures.1

pub overflow_mul-result : goal.overflow_mul-result
overflow_mul-result c = omega (arith, div-mul-le_self c.args.va c.size-s.result)

pub returns : goal.returns
unfolding base_of
returns c = rw (c.size-s.ensures.0 (omega arith))
