use Rattle.entry.proofs.Levels.{from_flag, from_small}
use Rattle.entry.specs.Entry.{bit}
use Rattle.abi.proofs.entries.accessed.Goals as goal

pub returns : goal.returns
unfolding bit
returns c = (from_flag _ _ c.from.ensures, from_small _ _ c.from.ensures)
