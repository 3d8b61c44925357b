use Rattle.entry.specs.Entry.{says, present_of}
use Rattle.std.proofs.Common.{arith}
use Rattle.entry.proofs.Levels.{bit_off, bit_on, present_above}
use Rattle.entry.proofs.decode.Goals as goal

pub returns-then-n-gt2 : goal.returns-then-n-gt2
returns-then-n-gt2 c = c.at_root.ensures _ c.if-n-gt2.true

pub returns-then-w-eq0 : goal.returns-then-w-eq0
unfolding says
returns-then-w-eq0 c = simp (bit_off 0 c.args.w (omega arith))

pub returns-then-n-eq0 : goal.returns-then-n-eq0
unfolding says present_of
returns-then-n-eq0 c = simp (bit_on 0 c.args.w (omega arith), c.if-n-eq0.true, c.frame.ensures, c.granted.ensures)

pub returns-then-w-eq0-2 : goal.returns-then-w-eq0-2
unfolding says
returns-then-w-eq0-2 c = simp (bit_on 0 c.args.w (omega arith), present_above c.args.n c.args.w c.if-n-eq0.false, bit_off 7 c.args.w c.if-w-eq0-2.true, c.table.ensures, c.granted-then-w-eq0-2.ensures)

pub returns : goal.returns
unfolding says
returns c = simp (bit_on 0 c.args.w (omega arith), present_above c.args.n c.args.w c.if-n-eq0.false, bit_on 7 c.args.w c.if-w-eq0-2.false, c.large.ensures)
