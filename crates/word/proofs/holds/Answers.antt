use Rattle.std.proofs.Common.{sym, arith}
use Rattle.word.proofs.Holding.{high_origin, short}
use Rattle.word.proofs.holds.Goals as goal

pub returns-then-origin-ge9223372036854775808 : goal.returns-then-origin-ge9223372036854775808
returns-then-origin-ge9223372036854775808 c = sym (high_origin _ _ _ c.if-origin-ge9223372036854775808.true)

pub returns-then-len-lt4096 : goal.returns-then-len-lt4096
returns-then-len-lt4096 c = sym (short _ _ _ c.if-len-lt4096.true)

pub returns : goal.returns
returns c = c.holds_within.ensures _ c.if-origin-ge9223372036854775808.false (omega arith) (omega (arith, c.well_formed.0.1))
