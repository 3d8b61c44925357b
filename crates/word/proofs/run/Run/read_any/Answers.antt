use Rattle.word.proofs.Runs.{among_read}
use Rattle.std.proofs.Common.{sym, ◌∙◌}
use Rattle.word.proofs.run.Run.read_any.Goals as goal

pub returns-in-Some : goal.returns-in-Some
returns-in-Some c = among_read _ _ _ _ _ _ _ _ (sym c.read.ensures ∙ c.in-Some.is)
