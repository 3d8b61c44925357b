use Rattle.std.proofs.Common.{sym, ◌∙◌, arith}
use Rattle.word.proofs.Budget.{wrote_same}
use Rattle.pool.proofs.Far.{written_far}
use Rattle.pool.proofs.changes.put.Goals as goal

pub returns-then-space-ge-PAGE_COUNT : goal.returns-then-space-ge-PAGE_COUNT
returns-then-space-ge-PAGE_COUNT c = wrote_same _ _ _ _ _ _ _ _ _ _ _ (sym (written_far _ _ _ _ _ (omega arith)) ∙ written_far _ _ _ _ _ (omega (arith, c.if-space-ge-PAGE_COUNT.true))) c.write.ensures
