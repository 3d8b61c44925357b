use Rattle.abi.specs.ReasonNumbers.{pool_reason}
use Rattle.abi.proofs.numbers.pool_reason.Goals as goal

pub returns-in-OriginUnaligned : goal.returns-in-OriginUnaligned
unfolding pool_reason
returns-in-OriginUnaligned c = rw c.in-OriginUnaligned.is

pub returns-in-LengthUnaligned : goal.returns-in-LengthUnaligned
unfolding pool_reason
returns-in-LengthUnaligned c = rw c.in-LengthUnaligned.is

pub returns-in-PoolLarge : goal.returns-in-PoolLarge
unfolding pool_reason
returns-in-PoolLarge c = rw c.in-PoolLarge.is

pub returns-in-PoolSmall : goal.returns-in-PoolSmall
unfolding pool_reason
returns-in-PoolSmall c = rw c.in-PoolSmall.is

pub returns-in-PoolOutside : goal.returns-in-PoolOutside
unfolding pool_reason
returns-in-PoolOutside c = rw c.in-PoolOutside.is

pub returns-in-BadRoot : goal.returns-in-BadRoot
unfolding pool_reason
returns-in-BadRoot c = rw c.in-BadRoot.is

pub returns-in-NoBook : goal.returns-in-NoBook
unfolding pool_reason
returns-in-NoBook c = rw c.in-NoBook.is

pub returns-in-OtherBook : goal.returns-in-OtherBook
unfolding pool_reason
returns-in-OtherBook c = rw c.in-OtherBook.is

pub returns-in-BadBook : goal.returns-in-BadBook
unfolding pool_reason
returns-in-BadBook c = rw c.in-BadBook.is
