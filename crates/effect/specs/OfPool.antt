-- The pages that an operation may write to.
use Rattle.std.specs.Prelude.{ℕ, ◌+◌, ◌<◌, ◌≤◌}
use Rattle.pool.specs.declared.Space.{Space}

-- page q is one of the pool's
abbrev pub OfPool : Space → ℕ → Type 0
OfPool sp q = (sp.first ≤ q) × (q < sp.first + sp.pages)
