use Rattle.std.proofs.Common.{lt-ltb}
use Rattle.entry.specs.Words.{table_word}
use Rattle.plan.specs.Map.{link_of}
use Rattle.plan.proofs.building.link.Goals as goal

pub returns : goal.returns
unfolding link_of table_word
returns c = simp (lt-ltb _ _ c.requires)
