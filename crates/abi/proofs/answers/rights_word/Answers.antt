use Rattle.entry.proofs.Levels.{from_flag}
use Rattle.abi.specs.Answers.{rights_word}
use Rattle.abi.proofs.answers.rights_word.Goals as goal

pub returns : goal.returns
unfolding rights_word
returns c = rw (from_flag _ _ c.from.ensures, from_flag _ _ c.from-2.ensures, from_flag _ _ c.from-3.ensures)
