-- WHAT HOLDS BETWEEN OPERATIONS: the space makes sense, the tables are built and none but the root is empty, the book tells the truth, and
-- there is no other in the pool.
use Rattle.std.specs.Prelude.{ℕ, ◌+◌, ◌≤◌, Bool, ◌≡◌, Ok}
use Rattle.word.specs.Memory.{page_count}
use Rattle.tables.specs.Roles.{Role, Sound}
use Rattle.pool.specs.Booked.{setting_of, Booked, Alone}
use Rattle.pool.specs.Stands.{stands_of}
use Rattle.pool.specs.declared.Space.{Space}

pub record Whole (h : ℕ → Bool) (sp : Space) (m : ℕ → ℕ) (role : ℕ → Role) : Type 0 where
  pub stands : stands_of h sp ≡ Ok tt
  pub small : sp.first + sp.pages ≤ page_count
  pub sound : Sound (setting_of h sp) m role
  pub booked : Booked sp m role
  pub alone : Alone sp m
