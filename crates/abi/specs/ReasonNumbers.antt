-- EVERY REASON WITH ITS NUMBER, as in include/tablepath.h: 0 is done. No other file of specs/ has one; include/reasons.txt has them all.
use Rattle.std.specs.Prelude.{ℕ, List, [], ◌∷◌}
use Rattle.pool.specs.declared.Reason as in_pool
use Rattle.pool.specs.declared.Reason.TheVariants as pool
use Rattle.plan.specs.declared.Reason.{Reason}
use Rattle.plan.specs.declared.Reason.TheVariants as plan

unfoldable pub pool_reason : in_pool.Reason → ℕ
pool_reason pool.OriginUnaligned = 12
pool_reason pool.LengthUnaligned = 13
pool_reason pool.PoolLarge = 16
pool_reason pool.PoolSmall = 17
pool_reason pool.PoolOutside = 18
pool_reason pool.BadRoot = 19
pool_reason pool.NoBook = 20
pool_reason pool.OtherBook = 21
pool_reason pool.BadBook = 22

unfoldable pub reason_of : Reason → ℕ
reason_of plan.Size = 1
reason_of plan.BaseUnaligned = 2
reason_of plan.FrameUnaligned = 3
reason_of plan.BaseRange = 4
reason_of plan.FrameRange = 5
reason_of (plan.Pool y) = pool_reason y
reason_of plan.FrameInPool = 6
reason_of plan.Overlap = 7
reason_of plan.NoRoom = 8
reason_of plan.NothingStarts = 9
reason_of plan.Stray = 10
reason_of plan.BadList = 11
reason_of plan.WriteExecute = 27

-- what the field `reason` says: done, an operation's own reason (the pool's among them), or one of six more, the last of which
-- the header says, and not the library
pub data Outcome : Type 0 where
  done : Outcome
  refused : Reason → Outcome
  pool_unaligned : Outcome
  root_unaligned : Outcome
  unknown : Outcome
  spent : Outcome
  rights : Outcome
  pointer : Outcome

abbrev pub number_of : Outcome → ℕ
number_of done = 0
number_of (refused y) = reason_of y
number_of pool_unaligned = 14
number_of root_unaligned = 15
number_of unknown = 23
number_of spent = 24
number_of rights = 25
number_of pointer = 26

-- THE HEADER'S enum tp_reason, from 0 on
unfoldable pub header : List Outcome
header =
    -- tools/reasons: header
    done ∷ refused plan.Size ∷ refused plan.BaseUnaligned ∷ refused plan.FrameUnaligned ∷ refused plan.BaseRange ∷ refused plan.FrameRange
    ∷ refused plan.FrameInPool ∷ refused plan.Overlap ∷ refused plan.NoRoom ∷ refused plan.NothingStarts ∷ refused plan.Stray
    ∷ refused plan.BadList ∷ refused (plan.Pool pool.OriginUnaligned) ∷ refused (plan.Pool pool.LengthUnaligned) ∷ pool_unaligned
    ∷ root_unaligned ∷ refused (plan.Pool pool.PoolLarge) ∷ refused (plan.Pool pool.PoolSmall) ∷ refused (plan.Pool pool.PoolOutside)
    ∷ refused (plan.Pool pool.BadRoot) ∷ refused (plan.Pool pool.NoBook) ∷ refused (plan.Pool pool.OtherBook)
    ∷ refused (plan.Pool pool.BadBook) ∷ unknown ∷ spent ∷ rights ∷ pointer ∷ refused plan.WriteExecute
    -- tools/reasons: end
    ∷ []
