-- What the source asks of memory for a table to stay as it was (lemma_inv_at_changed_tok of impl_u/l2_impl.rs), and no_empty_directories of one
-- table.
use Rattle.std.specs.Prelude.{ℕ, zero, suc, ◌<◌, ◌≡◌}
use Rattle.entry.specs.declared.Rights.{Rights}
use Rattle.entry.specs.declared.Entry.TheVariants.{Table}
use Rattle.tables.specs.Roles.{entry_at, Occupied}
use Rattle.verus.specs.Trees.{UsedBy}
use Rattle.verus.specs.Order.{KeepsWords}

-- the pages that the table q uses, whose entries are read at level l, keep their words
abbrev pub KeepsUsed : (ℕ → ℕ) → (ℕ → ℕ) → ℕ → ℕ → Type 0
KeepsUsed m m' l q = (p : ℕ) → UsedBy m l q p → KeepsWords m m' p

-- no_empty_directories(layer, ptr): no table that an entry of q names is empty, and so below each
unfoldable pub NoneEmptyBelow : (ℕ → ℕ) → ℕ → ℕ → Type 0
NoneEmptyBelow m zero q = Unit {0}
NoneEmptyBelow m (suc l) q = (i t : ℕ) (g : Rights) → i < 512 → entry_at m (suc l) q i ≡ Table t g → Occupied m l t × NoneEmptyBelow m l t
