use Rattle.std.proofs.Common.{◌≤◌}
use Rattle.word.specs.Writes.{Wrote, zeros}
use Rattle.word.proofs.clear.Given as goal

abbrev pub invariant-loop-i : goal.invariant-loop-i
invariant-loop-i l = (l.i ≤ 512) × Wrote l.origin (zeros l.p l.i) l.initial.left l.left l.initial.mem l.mem
