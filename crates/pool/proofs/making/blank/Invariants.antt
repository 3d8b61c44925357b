use Rattle.std.proofs.Common.{◌≤◌}
use Rattle.word.specs.Writes.{Wrote}
use Rattle.pool.specs.Create.{blanks}
use Rattle.pool.proofs.making.blank.Given as goal

abbrev pub invariant-loop-j : goal.invariant-loop-j
invariant-loop-j l = (l.j ≤ l.n) × Wrote l.space.origin (blanks l.space l.k l.j) l.initial.left l.left l.initial.mem l.mem
