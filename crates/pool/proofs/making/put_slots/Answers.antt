use Rattle.word.proofs.Budget.{wrote_then}
use Rattle.pool.specs.Layout.{header_words, slot_at}
use Rattle.pool.specs.Create.{slots}
use Rattle.pool.proofs.making.put_slots.Goals as goal

pub returns : goal.returns
unfolding slots header_words slot_at
returns c = wrote_then _ _ _ _ _ _ _ _ _ c.fill.ensures c.blank.ensures
