use Rattle.std.proofs.Common.{◌≤◌}
use Rattle.word.specs.Writes.{Wrote}
use Rattle.pool.specs.Create.{fills}
use Rattle.pool.proofs.making.fill.Given as goal

abbrev pub invariant-loop-j : goal.invariant-loop-j
invariant-loop-j l = (l.j ≤ l.n) × Wrote l.space.origin (fills l.space l.from l.j) l.initial.left l.left l.initial.mem l.mem
