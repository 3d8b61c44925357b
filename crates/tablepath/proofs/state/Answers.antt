use Rattle.tablepath.proofs.Means.{state_means}
use Rattle.tablepath.proofs.state.Goals as goal

pub returns : goal.returns
returns c = let answer = c.state.ensures.answer in record { answer = answer; meaning = rw answer (state_means _ _) }
