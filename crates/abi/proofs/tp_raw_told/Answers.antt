use mathlib.Core.Path.{◌∙◌}
use Rattle.abi.proofs.Shortcut.{in_order_all}
use Rattle.abi.proofs.tp_raw_told.Goals as goal

pub returns : goal.returns
returns c = record { answer = c.into.ensures ∙ c.told_up_to.ensures.answer; bytes = in_order_all _ _ _ _ _ c.told_up_to.ensures.order }
