use Rattle.std.proofs.Common.{arith}
use Rattle.word.proofs.Memory.{offset, memory_in, held, held_lies}
use Rattle.word.proofs.scan.word.Goals as goal

pub overflow_mul-p : goal.overflow_mul-p
overflow_mul-p c = omega (arith, (offset _ _ _ _ c.requires.0 c.requires.1).product)

pub overflow_sub-p : goal.overflow_sub-p
overflow_sub-p c = (offset _ _ _ _ c.requires.0 c.requires.1).above

pub overflow_add-p : goal.overflow_add-p
overflow_add-p c = omega (arith, (offset _ _ _ _ c.requires.0 c.requires.1).fits)

pub load-requires : goal.load-requires
load-requires c = (offset _ _ _ _ c.requires.0 c.requires.1).fits

pub returns : goal.returns
returns c = simp (c.load.ensures, (offset _ _ _ _ c.requires.0 c.requires.1).same, memory_in _ _ _ (held_lies _ _ _ _ (held _ _ _ c.requires.0) c.requires.1))
