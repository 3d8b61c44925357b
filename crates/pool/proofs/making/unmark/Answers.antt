use Rattle.std.proofs.Common.{◌≡◌, arith}
use Rattle.word.proofs.Budget.{length_wrote}
use Rattle.pool.proofs.Rows.{wrote_no_mark, wrote_mark}
use Rattle.pool.proofs.making.unmark.Goals as goal

pub loop-j-init : goal.loop-j-init
loop-j-init c = (omega arith, wrote_no_mark _ _ _ _)

pub loop-j-preserved : goal.loop-j-preserved
loop-j-preserved c = (omega arith, wrote_mark _ _ _ _ _ _ _ _ _ c.loop-j.invariant.1 c.write.ensures)

pub shape_of-mem : goal.shape_of-mem
shape_of-mem c = length_wrote _ _ _ _ _ _ c.loop-j.invariant.1

pub returns : goal.returns
returns c = let e : c.loop-j.j ≡ c.args.n = omega arith in rw e at c.loop-j.invariant.1
