-- What one entry of a table maps in the source's tree (interp_of_entry of impl_u/l1.rs).
use Rattle.std.specs.Prelude.{ℕ, suc, ◌+◌, ◌*◌, ◌≡◌}
use Rattle.entry.specs.Entry.{size_of}
use Rattle.entry.specs.declared.Rights.{Rights}
use Rattle.entry.specs.declared.Entry.TheVariants.{Page, Table}
use Rattle.tables.specs.Roles.{entry_at}
use Rattle.verus.specs.Regions.{PTE, pte_of}
use Rattle.verus.specs.Trees.{InTree}

-- entry i of the table t, which is read at level l and begins at `start`, maps the base b to p: it is that page, or names a table that does
pub data InEntry (m : ℕ → ℕ) : ℕ → ℕ → ℕ → ℕ → ℕ → PTE → Type 0 where
  page_itself : {l t start i b : ℕ} {p : PTE} (f : ℕ) (g : Rights) → entry_at m l t i ≡ Page f g → b ≡ start + i * size_of l → p ≡ pte_of (size_of l) f g
      → InEntry m l t start i b p
  table_below : {l t start i b : ℕ} {p : PTE} (s : ℕ) (g : Rights) → entry_at m (suc l) t i ≡ Table s g → InTree m l s (start + i * size_of (suc l)) b p
      → InEntry m (suc l) t start i b p
