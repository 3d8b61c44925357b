use Rattle.std.proofs.Common.{add-zero, div-one, arith, length-set}
use Rattle.word.specs.Bytes.{put_bytes, put_word}
use Rattle.word.proofs.store.Goals as goal

pub bounds-mem-at-2 : goal.bounds-mem-at-2
bounds-mem-at-2 c = simp length-set (omega arith)

pub bounds-mem-at-3 : goal.bounds-mem-at-3
bounds-mem-at-3 c = simp length-set (omega arith)

pub bounds-mem-at-4 : goal.bounds-mem-at-4
bounds-mem-at-4 c = simp length-set (omega arith)

pub bounds-mem-at-5 : goal.bounds-mem-at-5
bounds-mem-at-5 c = simp length-set (omega arith)

pub bounds-mem-at-6 : goal.bounds-mem-at-6
bounds-mem-at-6 c = simp length-set (omega arith)

pub bounds-mem-at-7 : goal.bounds-mem-at-7
bounds-mem-at-7 c = simp length-set (omega arith)

pub bounds-mem-at-8 : goal.bounds-mem-at-8
bounds-mem-at-8 c = simp length-set (omega arith)

pub returns : goal.returns
unfolding put_word put_bytes
returns c = rw (add-zero, div-one, c.to_le_bytes-bytes.ensures)
