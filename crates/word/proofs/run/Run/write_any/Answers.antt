use Rattle.word.proofs.Budget.{wrote_as}
use Rattle.word.proofs.Runs.{one_among}
use Rattle.std.proofs.Common.{sym, ◌∙◌}
use Rattle.word.proofs.run.Run.write_any.Goals as goal

pub returns-then-has : goal.returns-then-has
returns-then-has c = wrote_as _ _ _ _ _ _ _ (one_among _ _ _ _ _ _ _ _ (sym c.has.ensures ∙ c.if-has.true)) c.write.ensures
