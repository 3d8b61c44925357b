use Rattle.std.proofs.Common.{sym, ◌∙◌}
use Rattle.word.proofs.Budget.{wrote_one, wrote_stopped}
use Rattle.word.proofs.write.Goals as goal

pub returns-then-spend : goal.returns-then-spend
returns-then-spend c = wrote_one _ _ _ _ _ _ _ _ (sym c.spend.ensures.value ∙ c.if-spend.true) c.spend.ensures.left_after c.put.ensures

pub returns-else-spend : goal.returns-else-spend
returns-else-spend c = wrote_stopped _ _ _ _ _ _ _ (sym c.spend.ensures.value ∙ c.if-spend.false) c.spend.ensures.left_after
