use Rattle.std.proofs.Common.{arith}
use Rattle.word.proofs.Budget.{length_wrote}
use Rattle.plan.proofs.Carrying.{cuts_wrote, cuts_none}
use Rattle.plan.proofs.unmaps.carry_unmap.Goals as goal

pub returns-then-n-eq0 : goal.returns-then-n-eq0
returns-then-n-eq0 c = cuts_none _ _ c.args.r _ _ _ _ _ c.if-n-eq0.true c.requires.1 c.write.ensures

pub overflow_add-l-3 : goal.overflow_add-l-3
overflow_add-l-3 c = omega (arith, c.requires.0)

pub cut-requires : goal.cut-requires
cut-requires c = λ u. omega (arith, c.requires.0)

pub shape_of-mem : goal.shape_of-mem
shape_of-mem c = length_wrote _ _ _ _ _ _ (cuts_wrote _ _ c.args.r _ _ _ _ _ _ _ _ _ _ _ _ _ c.requires.1 c.write.ensures c.cut-b1.ensures.value c.cut-b2.ensures.value c.cut-b1.ensures.wrote c.cut-b2.ensures.wrote c.cut.ensures.wrote)

pub returns : goal.returns
returns c = cuts_wrote _ _ c.args.r _ _ _ _ _ _ _ _ _ _ _ _ _ c.requires.1 c.write.ensures c.cut-b1.ensures.value c.cut-b2.ensures.value c.cut-b1.ensures.wrote c.cut-b2.ensures.wrote c.cut.ensures.wrote
