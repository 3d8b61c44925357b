use Rattle.pool.proofs.Opening.{get_is}
use Rattle.pool.proofs.header.get.Goals as goal

pub returns : goal.returns
returns c = let g = get_is _ c.args.space _ c.requires _ _ (rw c.run_of.ensures at c.read.ensures) c.unwrap_or.ensures in record { in_memory = g.in_memory; for_any_bytes = g.for_any_bytes }
