-- The numbers of the pages that are set aside, across an operation.
use Rattle.std.specs.Prelude.{ℕ, ◌≤◌, ◌≡◌}
use Rattle.pool.specs.Book.{book_of}
use Rattle.pool.specs.Booked.{Numbered}
use Rattle.pool.specs.declared.Space.{Space}

-- every page that is set aside keeps its number, none is released, and there are no fewer
pub record KeepsNumbers (sp : Space) (m m' : ℕ → ℕ) : Type 0 where
  pub numbers : (p k : ℕ) → Numbered m sp p k → Numbered m' sp p k
  pub tickets : (book_of m' sp).tickets ≡ (book_of m sp).tickets
  pub more : (book_of m sp).aside ≤ (book_of m' sp).aside
