-- The machine's own marks, accessed (bit 5) and dirty (bit 6), say nothing to a walk: words that differ in these alone say the same.
use Rattle.std.proofs.Common.{◌≡◌, ℕ, arith}
use Rattle.entry.specs.Entry.{says}
use Rattle.entry.specs.Marks.{Marked}
use Rattle.entry.proofs.Fields.{alike_says}

pub marks_say_nothing : (n v w : ℕ) → Marked v w → says n v ≡ says n w
marks_say_nothing n v w h = alike_says n v w (record { present = omega (arith, h.low); rights = omega (arith, h.low); high = h.high })
