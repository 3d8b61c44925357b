-- Addresses of one aligned range: that of an entry of a level.
use Rattle.std.specs.Prelude.{ℕ, ◌/◌, ◌≡◌}
use Rattle.entry.specs.Entry.{size_of}

-- the two addresses agree in all that the levels from n up tell
abbrev pub Near : ℕ → ℕ → ℕ → Type 0
Near n va vb = va / size_of n ≡ vb / size_of n
