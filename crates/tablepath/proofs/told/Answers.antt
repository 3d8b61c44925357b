use Rattle.word.proofs.Budget.{wrote_all}
use Rattle.tablepath.proofs.Means.{told_means}
use Rattle.tablepath.proofs.told.Goals as goal

pub returns : goal.returns
returns c =
    let answer = c.told_up_to.ensures.answer in
    let bytes = wrote_all _ _ _ _ _ c.told_up_to.ensures.order in record { answer = answer; bytes = bytes; meaning = rw (answer, bytes) (told_means _ _ _) }
