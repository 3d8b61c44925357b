-- What an address means: from the root, and from any place on its way.
use Rattle.std.specs.Prelude.{ℕ}
use Rattle.entry.specs.declared.Rights.{Rights}
use Rattle.walk.specs.Walk.{run, found_of, walk}
use Rattle.walk.specs.declared.Found.{Found}
use Rattle.walk.specs.declared.Place.TheVariants.{Going}
use Rattle.tables.specs.Roles.{Setting}

-- WHAT AN ADDRESS MEANS
abbrev pub meaning : Setting → (ℕ → ℕ) → ℕ → Found
meaning σ m va = walk σ.window m σ.cr3 va

-- what a walk finds from page t on, with n levels left and these rights so far
abbrev pub onward : Setting → (ℕ → ℕ) → ℕ → ℕ → ℕ → Rights → Found
onward σ m va n t r = found_of (run σ.window m n va (Going t r))
