use Rattle.std.proofs.Common.{sym, ◌∙◌}
use Rattle.plan.specs.Map.{spared_of}
use Rattle.plan.proofs.spare.spared.Goals as goal

pub returns-then-apart : goal.returns-then-apart
unfolding spared_of
returns-then-apart c = rw (sym c.apart.ensures ∙ c.if-apart.true)

pub returns : goal.returns
unfolding spared_of
returns c = rw (sym c.apart.ensures ∙ c.if-apart.false)
