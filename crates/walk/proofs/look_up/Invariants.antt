use Rattle.std.proofs.Common.{◌≡◌, ◌≤◌}
use Rattle.word.specs.Memory.{memory, holds}
use Rattle.walk.specs.Walk.{run, start}
use Rattle.walk.proofs.look_up.Given as goal

abbrev pub invariant-loop-n : goal.invariant-loop-n
invariant-loop-n l = (l.n ≤ 4) × (run (holds l.mem l.origin) (memory l.mem l.origin) 4 l.va (start l.cr3 l.va) ≡ run (holds l.mem l.origin) (memory l.mem l.origin) l.n l.va l.p)

abbrev pub decreases-loop-n : goal.decreases-loop-n
decreases-loop-n l = l.n
