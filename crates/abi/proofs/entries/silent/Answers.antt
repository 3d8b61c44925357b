use native.Mathlib.Omega.{arith}
use Rattle.entry.proofs.Levels.{bit_off, bit_on}
use Rattle.abi.specs.Entries.{silent_of}
use Rattle.abi.proofs.entries.silent.Goals as goal

pub returns-then-w-eq0 : goal.returns-then-w-eq0
unfolding silent_of
returns-then-w-eq0 c = simp (bit_off 0 c.args.w (omega arith), c.bare.ensures)

pub returns : goal.returns
unfolding silent_of
returns c = simp (bit_on 0 c.args.w (omega arith), c.bare-2.ensures)
