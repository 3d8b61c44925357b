-- The memory type's bit of a large page.
use Rattle.std.specs.Prelude.{◌≡◌, ℕ, false, ◌≢◌}
use Rattle.entry.specs.Entry.{bit, says}
use Rattle.entry.specs.declared.Rights.{Rights}
use Rattle.entry.specs.declared.Entry.TheVariants.{Page}

-- where the word says a page at level n, above the last table, bit 12 is 0
abbrev pub PatClear : ℕ → ℕ → Type 0
PatClear n w = (f : ℕ) (g : Rights) → says n w ≡ Page f g → n ≢ 0 → bit 12 w ≡ false
