use Rattle.word.proofs.Budget.{wrote_all}
use Rattle.tablepath.proofs.Means.{map_means}
use Rattle.tablepath.proofs.map.Goals as goal

pub returns : goal.returns
returns c =
    let answer = c.map_up_to.ensures.answer in
    let bytes = wrote_all _ _ _ _ _ c.map_up_to.ensures.order in record { answer = answer; bytes = bytes; meaning = rw (answer, bytes) (map_means _ _ _) }
