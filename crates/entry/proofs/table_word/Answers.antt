use Rattle.entry.specs.Words.{made_table, table_word}
use Rattle.std.proofs.Common.{le-ltb, lt-ltb}
use Rattle.entry.proofs.table_word.Goals as goal

pub returns-then-p-ge-PAGE_COUNT : goal.returns-then-p-ge-PAGE_COUNT
unfolding made_table table_word
returns-then-p-ge-PAGE_COUNT c = simp (le-ltb _ _ c.if-p-ge-PAGE_COUNT.true)

pub returns : goal.returns
unfolding made_table table_word
returns c = simp (lt-ltb _ _ c.if-p-ge-PAGE_COUNT.false)
