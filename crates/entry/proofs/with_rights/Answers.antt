use Rattle.entry.specs.Words.{with_rights}
use Rattle.entry.proofs.Levels.{from_flag}
use Rattle.entry.proofs.with_rights.Goals as goal

pub returns : goal.returns
unfolding with_rights
returns c = rw (from_flag _ _ c.from.ensures, from_flag _ _ c.from-2.ensures, from_flag _ _ c.from-3.ensures)
