use Rattle.abi.specs.Answers.{mapped_to_c}
use Rattle.abi.proofs.answers.MappedFromResultU64Refusal.from.Goals as goal

pub returns-in-Err : goal.returns-in-Err
unfolding mapped_to_c
returns-in-Err c = rw (c.in-Err.is, c.number.ensures)

pub returns-in-Ok : goal.returns-in-Ok
unfolding mapped_to_c
returns-in-Ok c = rw c.in-Ok.is
