use Rattle.abi.specs.Answers.{counted_to_c, uncounted}
use Rattle.abi.proofs.answers.CountsFromResultPoolCountsRefusal.from.Goals as goal

pub returns-in-Err : goal.returns-in-Err
unfolding counted_to_c uncounted
returns-in-Err c = rw (c.in-Err.is, c.number.ensures, c.default.ensures.1.0, c.default.ensures.1.1.0, c.default.ensures.1.1.1.0, c.default.ensures.1.1.1.1.0, c.default.ensures.1.1.1.1.1)

pub returns-in-Ok : goal.returns-in-Ok
unfolding counted_to_c
returns-in-Ok c = rw c.in-Ok.is
