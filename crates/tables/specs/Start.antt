-- At first: an empty root, and no table. This is what `create` makes.
use Rattle.std.specs.Prelude.{ℕ, ◌≤◌, ◌<◌, ◌≢◌, ◌≡◌}
use Rattle.entry.specs.Entry.{table_of}
use Rattle.tables.specs.Roles.{Setting, Role, foreign, root, table, Home}

-- the pool's pages, and no others, have a role; the root's page is the root, and no other is; and no page is a table
pub record NewRoles (σ : Setting) (role : ℕ → Role) : Type 0 where
  pub home : (p : ℕ) → role p ≢ foreign → Home σ p
  pub whole : (p : ℕ) → σ.lo ≤ p → p < σ.hi → role p ≢ foreign
  pub starts : role (table_of σ.cr3) ≡ root
  pub alone : (p : ℕ) → role p ≡ root → p ≡ table_of σ.cr3
  pub bare : (p l q i : ℕ) → role p ≢ table l q i
