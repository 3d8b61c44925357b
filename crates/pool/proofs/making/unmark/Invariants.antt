use Rattle.std.proofs.Common.{◌≤◌}
use Rattle.word.specs.Writes.{Wrote}
use Rattle.pool.specs.Create.{unmarks}
use Rattle.pool.proofs.making.unmark.Given as goal

abbrev pub invariant-loop-j : goal.invariant-loop-j
invariant-loop-j l = (l.j ≤ l.n) × Wrote l.origin (unmarks l.p l.j) l.initial.left l.left l.initial.mem l.mem
