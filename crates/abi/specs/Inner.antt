-- WHAT THE CRATE'S OWN FUNCTIONS ANSWER, where refusals still have names, and what C gets of it: the number of the outcome, and 0 in every
-- other field where something is refused.
use Rattle.std.specs.Prelude.{ℕ, ◌<◌, Result, Ok, Err, IfOk}
use Rattle.word.specs.Memory.{page_count}
use Rattle.pool.specs.declared.Space.{Space}
use Rattle.pool.specs.declared.moment.Counts.{Counts as PoolCounts}
use Rattle.plan.specs.declared.Reason.TheVariants.{Pool}
use Rattle.tablepath.specs.declared.Gone.{Gone}
use Rattle.tablepath.specs.declared.Altered.{Altered}
use Rattle.tablepath.specs.declared.NotReleased.{NotReleased}
use Rattle.tablepath.specs.declared.NotReleased.TheVariants as notreleased
use Rattle.abi.specs.ReasonNumbers as out
use Rattle.abi.specs.ReasonNumbers.{Outcome, number_of}
use Rattle.abi.specs.Answers.{created_to_c, mapped_to_c, unmapped_to_c, protected_to_c, told_to_c, counted_to_c, uncounted}
use Rattle.abi.specs.Calls.{site_of}
use Rattle.abi.specs.declared.refusal.Refusal.{Refusal}
use Rattle.abi.specs.declared.refusal.Refusal.TheVariants.{Operation, PoolUnaligned, RootUnaligned, Rights, Unknown, Spent}
use Rattle.abi.specs.declared.sites.Numbers.{Numbers}
use Rattle.abi.specs.declared.answers.Created.{Created}
use Rattle.abi.specs.declared.answers.Mapped.{Mapped}
use Rattle.abi.specs.declared.answers.Unmapped.{Unmapped}
use Rattle.abi.specs.declared.answers.Protected.{Protected}
use Rattle.abi.specs.declared.answers.Told.{Told}
use Rattle.abi.specs.declared.answers.Counts.{Counts}

-- Refusals ------------------------------------------------------------------------------------------------------------------------

abbrev pub outcome_of : Refusal → Outcome
outcome_of (Operation r) = out.refused r
outcome_of PoolUnaligned = out.pool_unaligned
outcome_of RootUnaligned = out.root_unaligned
outcome_of Rights = out.rights
outcome_of Unknown = out.unknown
outcome_of Spent = out.spent

abbrev pub number : Refusal → ℕ
number y = number_of (outcome_of y)

-- why a report is refused
abbrev pub of_report : NotReleased → Refusal
of_report (notreleased.Pool y) = Operation (Pool y)
of_report notreleased.Unknown = Unknown
of_report notreleased.Spent = Spent

-- Spaces --------------------------------------------------------------------------------------------------------------------------

abbrev pub site_at : Numbers → Result Space ℕ
site_at n = site_of n.origin n.pool n.pages n.root

-- a space, or the number of why there is none
abbrev pub numbered : Result Space Refusal → Result Space ℕ
numbered (Ok sp) = Ok sp
numbered (Err y) = Err (number y)

-- Answers -------------------------------------------------------------------------------------------------------------------------

-- a root in a page whose number has 40 bits
abbrev pub LowRoot : Result ℕ Refusal → Type 0
LowRoot c = IfOk c (λ p. p < page_count)

abbrev pub created : Result ℕ Refusal → Created
created (Ok p) = created_to_c (Ok p)
created (Err y) = record { reason = number y; root = 0 }

abbrev pub mapped : Result ℕ Refusal → Mapped
mapped (Ok n) = mapped_to_c (Ok n)
mapped (Err y) = record { reason = number y; tables = 0 }

abbrev pub unmapped : Result Gone Refusal → Unmapped
unmapped (Ok g) = unmapped_to_c (Ok g)
unmapped (Err y) = record { reason = number y; frame = 0; size = 0; aside = 0; ticket = 0 }

abbrev pub protected : Result Altered Refusal → Protected
protected (Ok s) = protected_to_c (Ok s)
protected (Err y) = record { reason = number y; frame = 0; size = 0; ticket = 0 }

abbrev pub told : Result ℕ Refusal → Told
told (Ok k) = told_to_c (Ok k)
told (Err y) = record { reason = number y; released = 0 }

abbrev pub counted : Result PoolCounts Refusal → Counts
counted (Ok c) = counted_to_c (Ok c)
counted (Err y) = uncounted (number y)
