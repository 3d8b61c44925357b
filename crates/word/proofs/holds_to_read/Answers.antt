use Rattle.std.proofs.Common.{sym, arith}
use Rattle.word.proofs.Holding.{high_origin, short}
use Rattle.word.proofs.holds_to_read.Goals as goal

pub returns-then-room-ge9223372036854775808 : goal.returns-then-room-ge9223372036854775808
returns-then-room-ge9223372036854775808 c = sym (short _ _ _ (omega (arith, c.wrapping_sub_u64-room.ensures.value, c.if-room-ge9223372036854775808.true, c.well_formed.0.1)))

pub returns-then-origin-ge9223372036854775808 : goal.returns-then-origin-ge9223372036854775808
returns-then-origin-ge9223372036854775808 c = sym (high_origin _ _ _ c.if-origin-ge9223372036854775808.true)

pub returns : goal.returns
returns c = c.holds_within.ensures _ c.if-origin-ge9223372036854775808.false (omega (arith, c.wrapping_sub_u64-room.ensures.value, c.if-room-ge9223372036854775808.false, c.well_formed.0.1)) (omega (arith, c.well_formed.0.1))
