-- Why a report is refused has the same number, by either name.
use mathlib.Core.Path.{◌≡◌, refl}
use Rattle.std.proofs.Common.{Err}
use Rattle.tablepath.specs.declared.NotReleased.{NotReleased}
use Rattle.tablepath.specs.declared.NotReleased.TheVariants.{Unknown, Spent, Pool}
use Rattle.abi.specs.ReasonNumbers.{reason_of}
use Rattle.abi.specs.Answers.{told_to_c}
use Rattle.abi.specs.Inner.{of_report, told}

pub report_refused : (y : NotReleased) → told (Err (of_report y)) ≡ told_to_c (Err y)
unfolding told_to_c reason_of
report_refused (Pool y) = refl
report_refused Unknown = refl
report_refused Spent = refl
