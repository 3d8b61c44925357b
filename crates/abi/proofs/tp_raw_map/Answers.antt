use mathlib.Core.Path.{◌∙◌}
use Rattle.abi.proofs.Shortcut.{in_order_all}
use Rattle.abi.proofs.tp_raw_map.Goals as goal

pub returns : goal.returns
returns c = record { answer = c.into.ensures ∙ c.map_up_to.ensures.answer; bytes = in_order_all _ _ _ _ _ c.map_up_to.ensures.order }
