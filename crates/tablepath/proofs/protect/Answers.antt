use Rattle.word.proofs.Budget.{wrote_all}
use Rattle.tablepath.proofs.Means.{protect_means}
use Rattle.tablepath.proofs.protect.Goals as goal

pub returns : goal.returns
returns c =
    let answer = c.protect_up_to.ensures.answer in
    let bytes = wrote_all _ _ _ _ _ c.protect_up_to.ensures.order in record { answer = answer; bytes = bytes; meaning = rw (answer, bytes) (protect_means _ _ _ _) }
