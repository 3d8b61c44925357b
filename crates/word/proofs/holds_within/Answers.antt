use Rattle.std.proofs.Common.{sym, arith}
use Rattle.word.proofs.Holding.{far, wraps}
use Rattle.word.proofs.holds_within.Goals as goal

pub returns-then-p-ge-PAGE_COUNT : goal.returns-then-p-ge-PAGE_COUNT
returns-then-p-ge-PAGE_COUNT c = λ s a b d. sym (far s _ _ c.if-p-ge-PAGE_COUNT.true)

pub returns : goal.returns
returns c = λ s a b d. wraps s _ _ _ _ a c.if-p-ge-PAGE_COUNT.false d (omega arith) c.wrapping_sub_u64.ensures.value b
