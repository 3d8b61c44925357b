use Rattle.abi.specs.Answers.{unmapped_to_c}
use Rattle.abi.proofs.answers.UnmappedFromResultGoneRefusal.from.Goals as goal

pub returns-in-Err : goal.returns-in-Err
unfolding unmapped_to_c
returns-in-Err c = rw (c.in-Err.is, c.number.ensures, c.default.ensures.1.0, c.default.ensures.1.1.0, c.default.ensures.1.1.1.0, c.default.ensures.1.1.1.1)

pub returns-in-Ok : goal.returns-in-Ok
unfolding unmapped_to_c
returns-in-Ok c = rw c.in-Ok.is
