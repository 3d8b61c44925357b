use Rattle.std.proofs.Common.{sym, ◌∙◌}
use Rattle.walk.specs.Walk.{start}
use Rattle.walk.proofs.begin.Goals as goal

pub returns-then-canonical : goal.returns-then-canonical
unfolding start
returns-then-canonical c = simp (sym c.canonical.ensures ∙ c.if-canonical.true, c.table.ensures)

pub returns : goal.returns
unfolding start
returns c = simp (sym c.canonical.ensures ∙ c.if-canonical.false)
