use Rattle.std.proofs.Common.{◌∙◌}
use Rattle.tablepath.specs.Answers.{map_answer, map_writes}
use Rattle.tablepath.proofs.Said.{made_said}
use Rattle.tablepath.proofs.map_up_to.Goals as goal

pub returns : goal.returns
unfolding map_answer map_writes
returns c = record { answer = c.map.ensures.answer ∙ made_said _; order = c.map.ensures.order }
