use Rattle.std.proofs.Common.{◌≤◌, cond, []}
use Rattle.word.specs.Runs.{is_among}
use Rattle.word.specs.Writes.{Wrote, zeros}
use Rattle.word.proofs.run.Run.clear.Given as goal

abbrev pub invariant-loop-i : goal.invariant-loop-i
invariant-loop-i l =
    (l.i ≤ 512) × Wrote l.self.origin (cond (is_among l.initial.mem l.self.origin l.self.first l.self.kept l.self.pages l.p 0) (zeros l.p l.i) []) l.initial.left l.left l.initial.mem l.mem
