-- The source's meaning by the tree (interp_at, interp_to_l0 of impl_u/l2_impl.rs, over impl_u/l1.rs), and its invariant (inv_at and what it
-- calls; no_empty_directories, which the source keeps apart from it). Its ghost tree PTDir is our roles.
use Rattle.std.specs.Prelude.{ℕ, suc, ◌+◌, ◌*◌, ◌/◌, ◌%◌, ◌<◌, false, ◌↔◌, ◌≢◌, ◌≡◌}
use Rattle.word.specs.Memory.{at}
use Rattle.entry.specs.Entry.{size_of, bit, table_of, everything}
use Rattle.entry.specs.declared.Rights.{Rights}
use Rattle.entry.specs.declared.Entry.TheVariants.{Nothing, Page, Table}
use Rattle.tables.specs.Roles.{Setting, Role, table, Live, entry_at, Home, Occupied}
use Rattle.verus.specs.Regions.{PTE, pte_of}
use Rattle.verus.specs.Entries.{MustBeZero}

-- the tree of the table t, whose entries are read at level l and which begins at `start`, maps the base b to p (interp_at, interp_aux)
pub data InTree (m : ℕ → ℕ) : ℕ → ℕ → ℕ → ℕ → PTE → Type 0 where
  a_page : {l t start b : ℕ} {p : PTE} (i f : ℕ) (g : Rights) → i < 512 → entry_at m l t i ≡ Page f g → b ≡ start + i * size_of l → p ≡ pte_of (size_of l) f g
      → InTree m l t start b p
  a_directory : {l t start b : ℕ} {p : PTE} (i s : ℕ) (g : Rights) → i < 512 → entry_at m (suc l) t i ≡ Table s g → InTree m l s (start + i * size_of (suc l)) b p
      → InTree m (suc l) t start b p

-- used_regions of the table t, whose entries are read at level l: its own page, and those of the tables below it
pub data UsedBy (m : ℕ → ℕ) : ℕ → ℕ → ℕ → Type 0 where
  itself : {l t : ℕ} → UsedBy m l t t
  below : {l t p : ℕ} (i s : ℕ) (g : Rights) → i < 512 → entry_at m (suc l) t i ≡ Table s g → UsedBy m l s p → UsedBy m (suc l) t p

-- page p is allocated: one of the pool that is a table or the root, and so neither free nor set aside
abbrev pub Allocated : Setting → (ℕ → Role) → ℕ → Type 0
Allocated σ role p = Home σ p × ((k : ℕ) × Live role p k)

-- THEIR INVARIANT of the table in page q, whose entries are read at level l (inv_at), for each table of the tree.
-- allocated: its region is. zeroed: invalid_entries_are_zeroed. obeys: directories_obey_invariant_at. flags: directories_have_flags.
-- matches: ghost_pt_matches_structure; the child of the ghost tree at i is the page whose role says so. disjoint:
-- ghost_pt_used_regions_pairwise_disjoint. not_itself: ghost_pt_region_notin_used_regions. regions: used_regions are allocated. hp_pat:
-- hp_pat_is_zero. mb0: entry_mb0_bits_are_zero. large: pages_have_bit7, but above the last level alone: there we differ.
pub record InvAt (σ : Setting) (m : ℕ → ℕ) (role : ℕ → Role) (l q : ℕ) : Type 0 where
  pub aligned : 4096 * q % 4096 ≡ 0
  pub allocated : Allocated σ role q
  pub layer_in_range : l < 4
  pub zeroed : (i : ℕ) → i < 512 → entry_at m l q i ≡ Nothing → m (at q i) ≡ 0
  pub obeys : (i t : ℕ) (g : Rights) → i < 512 → entry_at m l q i ≡ Table t g → (k : ℕ) × (l ≡ suc k) × Live role t k
  pub flags : (i t : ℕ) (g : Rights) → i < 512 → entry_at m l q i ≡ Table t g → g ≡ everything
  pub matches : (i t : ℕ) → i < 512 → ((g : Rights) × (entry_at m l q i ≡ Table t g)) ↔ (role t ≡ table l q i)
  pub disjoint : (k i j s t : ℕ) (g g' : Rights) → l ≡ suc k → i < 512 → j < 512 → i ≢ j → entry_at m l q i ≡ Table s g → entry_at m l q j ≡ Table t g'
      → (p : ℕ) → UsedBy m k s p → ¬ UsedBy m k t p
  pub not_itself : (k i s : ℕ) (g : Rights) → l ≡ suc k → i < 512 → entry_at m l q i ≡ Table s g → ¬ UsedBy m k s q
  pub regions : (p : ℕ) → UsedBy m l q p → Allocated σ role p
  pub hp_pat : (i f : ℕ) (g : Rights) → i < 512 → entry_at m l q i ≡ Page f g → l ≢ 0 → bit 12 (m (at q i)) ≡ false
  pub mb0 : (i : ℕ) → i < 512 → MustBeZero l (m (at q i))
  pub large : (i f : ℕ) (g : Rights) → i < 512 → entry_at m l q i ≡ Page f g → l ≢ 0 → m (at q i) / 128 % 2 ≡ 1

-- inv: of every table; the root is one
pub record Inv (σ : Setting) (m : ℕ → ℕ) (role : ℕ → Role) : Type 0 where
  pub root : Live role (table_of σ.cr3) 3
  pub tables : (l q : ℕ) → Live role q l → InvAt σ m role l q

-- no_empty_directories: no table that an entry names is empty
abbrev pub NoEmptyDirectories : (ℕ → ℕ) → (ℕ → Role) → Type 0
NoEmptyDirectories m role = (l q i t : ℕ) (g : Rights) → Live role q (suc l) → i < 512 → entry_at m (suc l) q i ≡ Table t g → Occupied m l t

-- inv_and_nonempty
pub record InvAndNonempty (σ : Setting) (m : ℕ → ℕ) (role : ℕ → Role) : Type 0 where
  pub inv : Inv σ m role
  pub nonempty : NoEmptyDirectories m role

-- some ghost tree shows inv
pub record SomeInv (σ : Setting) (m : ℕ → ℕ) : Type 0 where
  pub role : ℕ → Role
  pub inv : Inv σ m role
