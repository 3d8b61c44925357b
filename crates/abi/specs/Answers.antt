-- The answers as the numbers that C gets: each field is a function of what tablepath answers, and 0 where that is refused.
use Rattle.std.specs.Prelude.{ℕ, ◌+◌, ◌*◌, ◌/◌, ◌%◌, eqb, Result, Ok, Err}
use Rattle.tablepath.specs.declared.NotReleased.TheVariants as notreleased
use Rattle.pool.specs.declared.Reason.{Reason as PoolReason}
use Rattle.plan.specs.declared.Reason.{Reason}
use Rattle.tablepath.specs.declared.Gone.{Gone}
use Rattle.tablepath.specs.declared.Altered.{Altered}
use Rattle.tablepath.specs.declared.NotReleased.{NotReleased}
use Rattle.pool.specs.declared.moment.Counts.{Counts as PoolCounts}
use Rattle.entry.specs.Words.{flag}
use Rattle.entry.specs.declared.Rights.{Rights}
use Rattle.walk.specs.declared.Found.{Found}
use Rattle.walk.specs.declared.Found.TheVariants.{Page, Nothing, Outside, NoAddress}
use Rattle.abi.specs.ReasonNumbers.{reason_of, pool_reason, number_of, unknown, spent}
use Rattle.abi.specs.declared.answers.Created.{Created}
use Rattle.abi.specs.declared.answers.Mapped.{Mapped}
use Rattle.abi.specs.declared.answers.Unmapped.{Unmapped}
use Rattle.abi.specs.declared.answers.Protected.{Protected}
use Rattle.abi.specs.declared.answers.Told.{Told}
use Rattle.abi.specs.declared.answers.Counts.{Counts}
use Rattle.abi.specs.declared.answers.LookedUp.{LookedUp}

-- Rights: bit 0 writable, bit 1 user, bit 2 not executable -----------------------------------------------------------------------

unfoldable pub rights_word : Rights → ℕ
rights_word r = flag r.writable + 2 * flag r.user + 4 * flag r.noexec

-- by the three lowest bits
unfoldable pub rights_in : ℕ → Rights
rights_in w = record { writable = eqb (w % 2) 1; user = eqb (w / 2 % 2) 1; noexec = eqb (w / 4 % 2) 1 }

-- Answers -----------------------------------------------------------------------------------------------------------------------

-- the root's physical address
unfoldable pub created_to_c : Result ℕ PoolReason → Created
created_to_c (Ok p) = record { reason = 0; root = 4096 * p }
created_to_c (Err y) = record { reason = pool_reason y; root = 0 }

unfoldable pub mapped_to_c : Result ℕ Reason → Mapped
mapped_to_c (Ok n) = record { reason = 0; tables = n }
mapped_to_c (Err y) = record { reason = reason_of y; tables = 0 }

unfoldable pub unmapped_to_c : Result Gone Reason → Unmapped
unmapped_to_c (Ok g) = record { reason = 0; frame = g.frame; size = g.size; aside = g.aside; ticket = g.ticket }
unmapped_to_c (Err y) = record { reason = reason_of y; frame = 0; size = 0; aside = 0; ticket = 0 }

unfoldable pub protected_to_c : Result Altered Reason → Protected
protected_to_c (Ok s) = record { reason = 0; frame = s.frame; size = s.size; ticket = s.ticket }
protected_to_c (Err y) = record { reason = reason_of y; frame = 0; size = 0; ticket = 0 }

unfoldable pub told_to_c : Result ℕ NotReleased → Told
told_to_c (Ok k) = record { reason = 0; released = k }
told_to_c (Err notreleased.Unknown) = record { reason = number_of unknown; released = 0 }
told_to_c (Err notreleased.Spent) = record { reason = number_of spent; released = 0 }
told_to_c (Err (notreleased.Pool y)) = record { reason = pool_reason y; released = 0 }

unfoldable pub uncounted : ℕ → Counts
uncounted y = record { reason = y; pages = 0; free = 0; aside = 0; tables = 0; ticket = 0 }

unfoldable pub counted_to_c : Result PoolCounts PoolReason → Counts
counted_to_c (Ok c) = record { reason = 0; pages = c.pages; free = c.free; aside = c.aside; tables = c.tables; ticket = c.ticket }
counted_to_c (Err y) = uncounted (pool_reason y)

unfoldable pub looked_up_to_c : Found → LookedUp
looked_up_to_c (Page b s f r) = record { kind = 1; base = b; size = s; frame = f; rights = rights_word r }
looked_up_to_c Nothing = record { kind = 0; base = 0; size = 0; frame = 0; rights = 0 }
looked_up_to_c Outside = record { kind = 2; base = 0; size = 0; frame = 0; rights = 0 }
looked_up_to_c NoAddress = record { kind = 5; base = 0; size = 0; frame = 0; rights = 0 }
