use Rattle.std.proofs.Common.{◌≡◌, arith}
use Rattle.word.proofs.Budget.{wrote_no_zero, wrote_zero, length_wrote}
use Rattle.word.proofs.clear.Goals as goal

pub loop-i-init : goal.loop-i-init
loop-i-init c = (omega arith, wrote_no_zero _ _ _ _)

pub loop-i-preserved : goal.loop-i-preserved
loop-i-preserved c = (omega arith, wrote_zero _ _ _ _ _ _ _ _ _ c.loop-i.invariant.1 c.write.ensures)

pub shape_of-mem : goal.shape_of-mem
shape_of-mem c = length_wrote _ _ _ _ _ _ c.loop-i.invariant.1

pub returns : goal.returns
returns c = let e : c.loop-i.i ≡ 512 = omega arith in rw e at c.loop-i.invariant.1
