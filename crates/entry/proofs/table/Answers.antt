use Rattle.entry.specs.Entry.{table_of}
use Rattle.std.proofs.Common.{refl}
use Rattle.entry.proofs.table.Goals as goal

pub returns : goal.returns
unfolding table_of
returns c = refl
