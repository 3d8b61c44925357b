use Rattle.std.proofs.Common.{sym, ◌∙◌, arith}
use Rattle.pool.proofs.Counting.{slot_ahead, slot_around}
use Rattle.pool.proofs.slot.Goals as goal

pub returns-then-pages-head : goal.returns-then-pages-head
returns-then-pages-head c = sym (slot_around _ _ _ (omega arith) ∙ omega arith)

pub returns-then-k-pages : goal.returns-then-k-pages
returns-then-k-pages c = sym (slot_ahead _ _ _ c.if-k-pages.true)

pub returns : goal.returns
returns c = sym (slot_around _ _ _ c.if-k-pages.false)
