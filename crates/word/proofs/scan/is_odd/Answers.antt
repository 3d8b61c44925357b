use Rattle.std.proofs.Common.{sym, refl}
use Rattle.word.proofs.Odds.{odd_zero, odd_test}
use Rattle.word.proofs.scan.is_odd.Goals as goal

pub returns-then-w-eq0 : goal.returns-then-w-eq0
returns-then-w-eq0 c = sym (odd_zero _ c.if-w-eq0.true)

pub returns : goal.returns
returns c = sym (odd_test _ _ refl)
