use Rattle.word.proofs.Budget.{wrote_then}
use Rattle.pool.specs.Layout.{signature_at}
use Rattle.pool.specs.Create.{bared}
use Rattle.pool.proofs.making.bare.Goals as goal

pub returns : goal.returns
unfolding bared signature_at
returns c = wrote_then _ _ _ _ _ _ _ _ _ c.put.ensures c.unmark.ensures
