use Rattle.plan.specs.Map.{nth_of}
use Rattle.std.proofs.Common.{le-leb}
use borrow.Author.Tests.{lt-leb}
use Rattle.plan.proofs.maps.nth.Goals as goal

pub returns-then-need-j : goal.returns-then-need-j
unfolding nth_of
returns-then-need-j c = simp (le-leb _ _ c.if-need-j.true)

pub returns : goal.returns
unfolding nth_of
returns c = simp (lt-leb _ _ c.if-need-j.false, c.free_page.ensures)
