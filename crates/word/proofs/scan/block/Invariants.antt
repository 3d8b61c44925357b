use Rattle.std.proofs.Common.{◌≡◌}
use Rattle.word.specs.Memory.{memory}
use Rattle.word.specs.Scan.{odd, odd_of}
use Rattle.word.proofs.scan.block.Given as goal

abbrev pub invariant-loop-j : goal.invariant-loop-j
invariant-loop-j g l = odd l.all ≡ odd_of (memory l.mem l.origin) l.p l.k l.j
