use Rattle.tablepath.proofs.Means.{look_up_means}
use Rattle.tablepath.proofs.look_up.Goals as goal

pub returns : goal.returns
returns c = let answer = c.look_up.ensures in record { answer = answer; meaning = rw answer (look_up_means _ _ _ _) }
