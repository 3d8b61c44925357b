-- Some address of a range is mapped; and where a walk stops on its way to a level.
use Rattle.std.specs.Prelude.{ℕ, suc, ◌+◌, ◌≤◌, ◌<◌, ◌≡◌}
use Rattle.entry.specs.Entry.{size_of}
use Rattle.entry.specs.declared.Rights.{Rights}
use Rattle.entry.specs.declared.Entry.TheVariants.{Nothing, Page, Table}
use Rattle.walk.specs.Walk.{index_of}
use Rattle.walk.specs.declared.Found.TheVariants as found
use Rattle.tables.specs.Roles.{Setting, entry_at}
use Rattle.tables.specs.Way.{Comes}
use Rattle.tables.specs.Meaning.{meaning}

-- SOME ADDRESS OF [base, base + size) IS MAPPED.
pub record MappedIn (σ : Setting) (m : ℕ → ℕ) (base size : ℕ) : Type 0 where
  pub address : ℕ
  pub from : base ≤ address
  pub upto : address < base + size
  pub start : ℕ
  pub long : ℕ
  pub frame : ℕ
  pub rights : Rights
  pub means : meaning σ m address ≡ found.Page start long frame rights

-- some address of the range of an entry of level l that begins at va is mapped
abbrev pub Overlaps : Setting → (ℕ → ℕ) → ℕ → ℕ → Type 0
Overlaps σ m va l = MappedIn σ m va (size_of l)

-- What the walk of va finds on its way to level l: nothing at that level or above; a page at that level or above; or a table at that level.
pub data Stop (σ : Setting) (m : ℕ → ℕ) (va l : ℕ) : Type 0 where
  at_nothing_above : (k q : ℕ) → l ≤ k → Comes σ m va (suc k) q → entry_at m k q (index_of k va) ≡ Nothing → Stop σ m va l
  at_page_above : (k q f : ℕ) (g : Rights) → l ≤ k → Comes σ m va (suc k) q → entry_at m k q (index_of k va) ≡ Page f g → Stop σ m va l
  at_table_there : (q s : ℕ) (g : Rights) → Comes σ m va (suc l) q → entry_at m l q (index_of l va) ≡ Table s g → Stop σ m va l

-- a page or a table
abbrev pub AtSomething : {σ : Setting} {m : ℕ → ℕ} {va l : ℕ} → Stop σ m va l → Type 0
AtSomething (at_nothing_above k q u c e) = ⊥
AtSomething (at_page_above k q f g u c e) = Unit {0}
AtSomething (at_table_there q s g c e) = Unit {0}
