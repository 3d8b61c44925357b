-- An entry that walks read.
use Rattle.std.specs.Prelude.{ℕ, ◌<◌}
use Rattle.tables.specs.Roles.{Role, Live}

-- entry i of page q is read by walks, at level l
pub record LiveEntry (role : ℕ → Role) (q l i : ℕ) : Type 0 where
  pub live : Live role q l
  pub fits : i < 512
