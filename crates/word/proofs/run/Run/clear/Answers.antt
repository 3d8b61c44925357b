use Rattle.std.proofs.Common.{◌≡◌, arith}
use Rattle.word.specs.Runs.{among_zeros}
use Rattle.word.proofs.Budget.{length_wrote}
use Rattle.word.proofs.Cleared.{no_zero_among, zero_among}
use Rattle.word.proofs.run.Run.clear.Goals as goal

pub loop-i-init : goal.loop-i-init
loop-i-init c = (omega arith, no_zero_among _ _ _ _ _ _ _)

pub loop-i-preserved : goal.loop-i-preserved
loop-i-preserved c =
    (omega arith, zero_among _ _ _ _ _ _ _ _ _ _ _ _ (omega arith) c.loop-i.invariant.1 c.write.ensures)

pub shape_of-mem : goal.shape_of-mem
shape_of-mem c = length_wrote _ _ _ _ _ _ c.loop-i.invariant.1

pub returns : goal.returns
unfolding among_zeros
returns c = let e : c.loop-i.i ≡ 512 = omega arith in rw e at c.loop-i.invariant.1
