use Rattle.std.proofs.Common.{◌≡◌, ◌+◌, arith}
use Rattle.word.proofs.Budget.{length_wrote}
use Rattle.pool.specs.Layout.{slot_at}
use Rattle.pool.proofs.Rows.{wrote_no_word, wrote_word}
use Rattle.pool.proofs.making.fill.Goals as goal

pub loop-j-init : goal.loop-j-init
loop-j-init c = (omega arith, wrote_no_word _ _ _ _ _)

pub loop-j-preserved : goal.loop-j-preserved
unfolding slot_at
loop-j-preserved c = (omega arith, wrote_word _ _ (λ j. c.args.from + j) _ _ _ _ _ _ _ c.loop-j.invariant.1 c.put.ensures)

pub shape_of-mem : goal.shape_of-mem
shape_of-mem c = length_wrote _ _ _ _ _ _ c.loop-j.invariant.1

pub returns : goal.returns
returns c = let e : c.loop-j.j ≡ c.args.n = omega arith in rw e at c.loop-j.invariant.1
