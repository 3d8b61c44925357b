use Rattle.std.proofs.Common.{add-zero, zero-add, mul-one}
use Rattle.word.specs.Bytes.{word_at, bytes_at}
use Rattle.word.proofs.load.Goals as goal

pub returns : goal.returns
unfolding word_at bytes_at
returns c = simp (zero-add, add-zero, mul-one) c.from_le_bytes.ensures
