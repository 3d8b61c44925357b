use Rattle.word.proofs.Budget.{wrote_all}
use Rattle.tablepath.proofs.Means.{unmap_means}
use Rattle.tablepath.proofs.unmap.Goals as goal

pub returns : goal.returns
returns c =
    let answer = c.unmap_up_to.ensures.answer in
    let bytes = wrote_all _ _ _ _ _ c.unmap_up_to.ensures.order in record { answer = answer; bytes = bytes; meaning = rw (answer, bytes) (unmap_means _ _ _) }
