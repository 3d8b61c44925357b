-- THE INVARIANT of tables that we built: each page has one role, and the laws are local. Nothing of it is stored.
-- Levels count what lies below, as in `entry`: an entry of the root is read at level 3, an entry of a last table at level 0.
use Rattle.std.specs.Prelude.{ℕ, suc, ◌+◌, ◌*◌, ◌≤◌, ◌<◌, Bool, true, ◌⊎◌, ◌≢◌, ◌≡◌}
use Rattle.word.specs.Memory.{at}
use Rattle.entry.specs.Entry.{size_of, table_of, says, everything}
use Rattle.entry.specs.Clean.{Clean}
use Rattle.entry.specs.Pat.{PatClear}
use Rattle.entry.specs.declared.Rights.{Rights}
use Rattle.entry.specs.declared.Entry.{Entry}
use Rattle.entry.specs.declared.Entry.TheVariants.{Nothing, Page, Table}

-- Where the tables are: which pages lie in the window, the pool's pages (lo to hi - 1), and the root as in CR3.
pub record Setting : Type 0 where
  pub window : ℕ → Bool
  pub lo : ℕ
  pub hi : ℕ
  pub cr3 : ℕ

-- What a page is. foreign: not of the pool. table n q i: a table with n levels left from it on, so that its entries are read at level
-- n - 1; entry i of page q names it.
pub data Role : Type 0 where
  foreign : Role
  free : Role
  aside : Role
  book : Role
  root : Role
  table : ℕ → ℕ → ℕ → Role

-- the levels that are left at a page of this role: 0 where no walk comes
abbrev pub left : Role → ℕ
left foreign = 0
left free = 0
left aside = 0
left book = 0
left root = 4
left (table n q i) = n

-- what a table becomes when it is unlinked; a report makes it free, and nothing else does
abbrev pub unlinked : Role
unlinked = aside

-- a page of the pool that no walk comes to
abbrev pub Unwalked : Role → Type 0
Unwalked foreign = ⊥
Unwalked free = Unit {0}
Unwalked aside = Unit {0}
Unwalked book = Unit {0}
Unwalked root = ⊥
Unwalked (table n q i) = ⊥

-- page q is a table, and its entries are read at level l
abbrev pub Live : (ℕ → Role) → ℕ → ℕ → Type 0
Live role q l = left (role q) ≡ suc l

-- what entry i of page q says at level l
abbrev pub entry_at : (ℕ → ℕ) → ℕ → ℕ → ℕ → Entry
entry_at m l q i = says l (m (at q i))

-- page p is one of the pool's, and lies in the window
pub record Home (σ : Setting) (p : ℕ) : Type 0 where
  pub from : σ.lo ≤ p
  pub upto : p < σ.hi
  pub held : σ.window p ≡ true

-- the bytes from f on, so many of them, and the pool's bytes lie apart
abbrev pub Apart : Setting → ℕ → ℕ → Type 0
Apart σ f size = (f + size ≤ 4096 * σ.lo) ⊎ (4096 * σ.hi ≤ f)

-- TABLES THAT WE BUILT.
-- home, whole: the pages of the pool, and no others, have a role here. starts, alone: the root's page is the root, and no other is.
-- down: what an entry names has that entry as its parent, and the entry grants everything. up: a table's parent entry names it.
-- low: a table lies below the root. zeros: an entry that says nothing is the word 0. apart: no page's frame meets the pool. pat: bit 12 of a
-- large page's entry is 0.
pub record Built (σ : Setting) (m : ℕ → ℕ) (role : ℕ → Role) : Type 0 where
  pub home : (p : ℕ) → role p ≢ foreign → Home σ p
  pub whole : (p : ℕ) → σ.lo ≤ p → p < σ.hi → role p ≢ foreign
  pub starts : role (table_of σ.cr3) ≡ root
  pub alone : (p : ℕ) → role p ≡ root → p ≡ table_of σ.cr3
  pub down : (q l i t : ℕ) (g : Rights) → Live role q l → i < 512 → entry_at m l q i ≡ Table t g → (role t ≡ table l q i) × (g ≡ everything)
  pub up : (p l q i : ℕ) → role p ≡ table l q i → Live role q l × (i < 512) × (entry_at m l q i ≡ Table p everything)
  pub low : (p l q i : ℕ) → role p ≡ table l q i → l < 4
  pub zeros : (q l i : ℕ) → Live role q l → i < 512 → entry_at m l q i ≡ Nothing → m (at q i) ≡ 0
  pub apart : (q l i f : ℕ) (g : Rights) → Live role q l → i < 512 → entry_at m l q i ≡ Page f g → Apart σ f (size_of l)
  pub pat : (q l i : ℕ) → Live role q l → i < 512 → PatClear l (m (at q i))

-- EXACT: an entry that says a page is the word that we write for it, but for the machine's marks. No operation needs it, and each keeps it.
abbrev pub Exact : (ℕ → ℕ) → (ℕ → Role) → Type 0
Exact m role = (q l i : ℕ) → Live role q l → i < 512 → Clean l (m (at q i))

-- some entry of page p says something, at level l
abbrev pub Occupied : (ℕ → ℕ) → ℕ → ℕ → Type 0
Occupied m l p = (j : ℕ) × (j < 512) × (entry_at m l p j ≢ Nothing)

-- no table but the root is empty
abbrev pub Filled : (ℕ → ℕ) → (ℕ → Role) → Type 0
Filled m role = (p l q i : ℕ) → role p ≡ table (suc l) q i → Occupied m l p

-- in the middle of an operation: none but the root, and perhaps page e
abbrev pub FilledBut : (ℕ → ℕ) → (ℕ → Role) → ℕ → Type 0
FilledBut m role e = (p l q i : ℕ) → role p ≡ table (suc l) q i → p ≢ e → Occupied m l p

-- The two together: what holds between operations.
pub record Sound (σ : Setting) (m : ℕ → ℕ) (role : ℕ → Role) : Type 0 where
  pub built : Built σ m role
  pub filled : Filled m role

-- every word of page p is 0
abbrev pub Zero : (ℕ → ℕ) → ℕ → Type 0
Zero m p = (j : ℕ) → j < 512 → m (at p j) ≡ 0

-- no entry of page p says anything to a walk that has n levels left there
abbrev pub Bare : (ℕ → ℕ) → ℕ → ℕ → Type 0
Bare m n p = (l j : ℕ) → n ≡ suc l → j < 512 → entry_at m l p j ≡ Nothing

-- it names no table
abbrev pub Plain : Entry → Type 0
Plain e = (t : ℕ) (g : Rights) → ¬ (e ≡ Table t g)
