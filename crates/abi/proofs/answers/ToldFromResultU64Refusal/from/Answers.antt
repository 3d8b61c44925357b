use Rattle.abi.specs.Answers.{told_to_c}
use Rattle.abi.proofs.answers.ToldFromResultU64Refusal.from.Goals as goal

pub returns-in-Err : goal.returns-in-Err
returns-in-Err c = rw (c.in-Err.is, c.number.ensures)

pub returns-in-Ok : goal.returns-in-Ok
unfolding told_to_c
returns-in-Ok c = rw c.in-Ok.is
