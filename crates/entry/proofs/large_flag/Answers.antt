use Rattle.entry.specs.Words.{large_flag}
use Rattle.std.proofs.Common.{sym, arith}
use Rattle.entry.proofs.Levels.{large_flag_lem}
use Rattle.entry.proofs.large_flag.Goals as goal

pub returns-then-n-eq0 : goal.returns-then-n-eq0
unfolding large_flag
returns-then-n-eq0 c = (rw c.if-n-eq0.true, omega arith)

pub returns : goal.returns
returns c = (sym (large_flag_lem _ c.if-n-eq0.false), omega arith)
