use Rattle.std.proofs.Common.{arith}
use Rattle.abi.specs.Answers.{created_to_c}
use Rattle.abi.proofs.answers.CreatedFromResultU64Refusal.from.Goals as goal

pub returns-then-p-ge-PAGE_COUNT : goal.returns-then-p-ge-PAGE_COUNT
unfolding created_to_c
returns-then-p-ge-PAGE_COUNT c = λ low. absurd (omega (arith, (rw c.in-Ok.is at low), c.if-p-ge-PAGE_COUNT.true))

pub returns-in-Err : goal.returns-in-Err
unfolding created_to_c
returns-in-Err c = λ low. rw (c.in-Err.is, c.number.ensures)

pub returns-else-p-ge-PAGE_COUNT : goal.returns-else-p-ge-PAGE_COUNT
unfolding created_to_c
returns-else-p-ge-PAGE_COUNT c = λ low. rw c.in-Ok.is
