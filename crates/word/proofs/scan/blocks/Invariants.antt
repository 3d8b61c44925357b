use Rattle.std.proofs.Common.{◌≡◌, ◌-◌, ◌*◌}
use Rattle.word.specs.Memory.{memory}
use Rattle.word.specs.Scan.{odd_of}
use Rattle.word.proofs.scan.blocks.Given as goal

abbrev pub invariant-loop-k : goal.invariant-loop-k
invariant-loop-k g l = odd_of (memory l.mem l.origin) l.p (g.row.N * l.from) (g.row.N * (l.to - l.from)) ≡ odd_of (memory l.mem l.origin) l.p (g.row.N * l.k) (g.row.N * (l.to - l.k))
