use Rattle.word.proofs.Budget.{wrote_all}
use Rattle.tablepath.proofs.SaysCreate.{create_says}
use Rattle.tablepath.proofs.create.Goals as goal

pub returns : goal.returns
returns c =
    let answer = c.create_up_to.ensures.answer in
    let bytes = wrote_all _ _ _ _ _ c.create_up_to.ensures.order in record { answer = answer; bytes = bytes; meaning = rw (answer, bytes) (create_says _ _ _ _) }
