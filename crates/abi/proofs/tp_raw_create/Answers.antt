use mathlib.Core.Path.{◌∙◌}
use Rattle.word.proofs.Budget.{wrote_all}
use Rattle.abi.proofs.tp_raw_create.Goals as goal

pub returns : goal.returns
returns c = record { answer = c.into.ensures c.create_up_to.ensures.low ∙ c.create_up_to.ensures.answer; bytes = wrote_all _ _ _ _ _ c.create_up_to.ensures.order }
