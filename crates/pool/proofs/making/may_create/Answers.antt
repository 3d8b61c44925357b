use Rattle.std.proofs.Common.{eq-eqb, ne_eqb}
use Rattle.pool.specs.Create.{may_create}
use Rattle.pool.proofs.making.may_create.Goals as goal

pub returns-then-origin-ne0 : goal.returns-then-origin-ne0
unfolding may_create
returns-then-origin-ne0 c = simp (ne_eqb _ _ c.if-origin-ne0.true)

pub returns-then-mem-ne0 : goal.returns-then-mem-ne0
unfolding may_create
returns-then-mem-ne0 c = simp (eq-eqb _ _ c.if-origin-ne0.false, ne_eqb _ _ c.if-mem-ne0.true)

pub returns : goal.returns
unfolding may_create
returns c = simp (eq-eqb _ _ c.if-origin-ne0.false, eq-eqb _ _ c.if-mem-ne0.false, c.room.ensures)
