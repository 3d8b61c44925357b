use mathlib.Core.Path.{◌∙◌}
use Rattle.abi.proofs.tp_raw_state.Goals as goal

pub returns : goal.returns
returns c = record { answer = c.into.ensures ∙ c.state.ensures }
