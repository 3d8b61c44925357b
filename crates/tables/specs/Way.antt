-- ONE WAY: what the walk of an address comes to.
use Rattle.std.specs.Prelude.{ℕ, suc, true, ◌≡◌}
use Rattle.entry.specs.Entry.{table_of}
use Rattle.entry.specs.declared.Rights.{Rights}
use Rattle.entry.specs.declared.Entry.TheVariants.{Table}
use Rattle.walk.specs.Walk.{canonical, index_of}
use Rattle.tables.specs.Roles.{Setting, entry_at}

-- the walk of va comes to the table in page p with n levels left
pub data Comes (σ : Setting) (m : ℕ → ℕ) (va : ℕ) : ℕ → ℕ → Type 0 where
  begin : {n p : ℕ} → n ≡ 4 → p ≡ table_of σ.cr3 → canonical va ≡ true → Comes σ m va n p
  onto : {n p : ℕ} (t : ℕ) (g : Rights) → Comes σ m va (suc n) t → entry_at m n t (index_of n va) ≡ Table p g → Comes σ m va n p
