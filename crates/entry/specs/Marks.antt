-- The machine's own marks: it may set accessed (bit 5) and, in a page's entry, dirty (bit 6) at any time.
use Rattle.std.specs.Prelude.{◌≡◌, ℕ, ◌/◌, ◌%◌}

-- v and w differ in bits 5 and 6 at most
pub record Marked (v w : ℕ) : Type 0 where
  pub low : v % 32 ≡ w % 32
  pub high : v / 128 ≡ w / 128
