use Rattle.abi.specs.ReasonNumbers.{reason_of}
use Rattle.abi.proofs.numbers.reason.Goals as goal

pub returns-in-Size : goal.returns-in-Size
unfolding reason_of
returns-in-Size c = rw c.in-Size.is

pub returns-in-BaseUnaligned : goal.returns-in-BaseUnaligned
unfolding reason_of
returns-in-BaseUnaligned c = rw c.in-BaseUnaligned.is

pub returns-in-FrameUnaligned : goal.returns-in-FrameUnaligned
unfolding reason_of
returns-in-FrameUnaligned c = rw c.in-FrameUnaligned.is

pub returns-in-BaseRange : goal.returns-in-BaseRange
unfolding reason_of
returns-in-BaseRange c = rw c.in-BaseRange.is

pub returns-in-FrameRange : goal.returns-in-FrameRange
unfolding reason_of
returns-in-FrameRange c = rw c.in-FrameRange.is

pub returns-in-WriteExecute : goal.returns-in-WriteExecute
unfolding reason_of
returns-in-WriteExecute c = rw c.in-WriteExecute.is

pub returns-in-Pool : goal.returns-in-Pool
unfolding reason_of
returns-in-Pool c = rw (c.in-Pool.is, c.pool_reason.ensures)

pub returns-in-FrameInPool : goal.returns-in-FrameInPool
unfolding reason_of
returns-in-FrameInPool c = rw c.in-FrameInPool.is

pub returns-in-Overlap : goal.returns-in-Overlap
unfolding reason_of
returns-in-Overlap c = rw c.in-Overlap.is

pub returns-in-NoRoom : goal.returns-in-NoRoom
unfolding reason_of
returns-in-NoRoom c = rw c.in-NoRoom.is

pub returns-in-NothingStarts : goal.returns-in-NothingStarts
unfolding reason_of
returns-in-NothingStarts c = rw c.in-NothingStarts.is

pub returns-in-Stray : goal.returns-in-Stray
unfolding reason_of
returns-in-Stray c = rw c.in-Stray.is

pub returns-in-BadList : goal.returns-in-BadList
unfolding reason_of
returns-in-BadList c = rw c.in-BadList.is
