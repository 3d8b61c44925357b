use Rattle.std.proofs.Common.{le-ltb, lt-ltb}
use Rattle.word.proofs.Budget.{wrote_none, wrote_then}
use Rattle.plan.specs.Map.{writes_of}
use Rattle.plan.proofs.building.carry_map.Goals as goal

pub returns-then-f-gt0 : goal.returns-then-f-gt0
unfolding writes_of
returns-then-f-gt0 c = simp (lt-ltb _ _ c.if-f-gt0.true) (wrote_then _ _ _ _ _ _ _ _ _ c.build.ensures c.took.ensures)

pub returns-else-f-gt0 : goal.returns-else-f-gt0
unfolding writes_of
returns-else-f-gt0 c = simp (le-ltb _ _ c.if-f-gt0.false) (wrote_then _ _ _ _ _ _ _ _ _ c.build.ensures (wrote_none _ _ _))
