-- The source's numbers of the architecture (x86_arch_spec of spec_t/mmu/defs.rs) and its arithmetic of ranges, by its own layers: 0 at the root,
-- 3 at the last table.
use Rattle.std.specs.Prelude.{ℕ, zero, suc, ◌+◌, ◌-◌, ◌*◌, ◌/◌, ◌%◌, ◌<◌, ◌≤◌, ◌≡◌}

pub record ArchLayer : Type 0 where
  pub entry_size_lem : ℕ
  pub num_entries_lem : ℕ

-- x86_arch_spec.layers: L0_ENTRY_SIZE to L3_ENTRY_SIZE, 512 entries each; what stands from index 4 on is never asked for
unfoldable pub x86_arch : ℕ → ArchLayer
x86_arch zero = record { entry_size_lem = 512 * (512 * (512 * 4096)); num_entries_lem = 512 }
x86_arch (suc zero) = record { entry_size_lem = 512 * (512 * 4096); num_entries_lem = 512 }
x86_arch (suc (suc zero)) = record { entry_size_lem = 512 * 4096; num_entries_lem = 512 }
x86_arch (suc (suc (suc i))) = record { entry_size_lem = 4096; num_entries_lem = 512 }

abbrev pub entry_size : ℕ → ℕ
entry_size i = (x86_arch i).entry_size_lem

abbrev pub num_entries : ℕ → ℕ
num_entries i = (x86_arch i).num_entries_lem

-- index_for_vaddr, which is index_from_base_and_addr
abbrev pub index_for_vaddr : ℕ → ℕ → ℕ → ℕ
index_for_vaddr i base va = (va - base) / entry_size i

abbrev pub entry_base : ℕ → ℕ → ℕ → ℕ
entry_base i base idx = base + idx * entry_size i

abbrev pub next_entry_base : ℕ → ℕ → ℕ → ℕ
next_entry_base i base idx = base + (idx + 1) * entry_size i

abbrev pub upper_vaddr : ℕ → ℕ → ℕ
upper_vaddr i base = entry_base i base (num_entries i)

-- Arch::inv
pub record ArchInv : Type 0 where
  pub size_low : (i : ℕ) → i < 4 → 0 < entry_size i
  pub size_high : (i : ℕ) → i < 4 → entry_size i ≤ 512 * 512 * 512 * 4096
  pub entries_low : (i : ℕ) → i < 4 → 0 < num_entries i
  pub entries_high : (i : ℕ) → i < 4 → num_entries i ≤ 512
  pub next_layer : (i : ℕ) → suc i < 4 → entry_size i ≡ entry_size (suc i) * num_entries (suc i)

-- va lies in the range of the table whose entries are read at level l and which begins at `base`; its layer is 3 - l
pub record InTable (l base va : ℕ) : Type 0 where
  pub level : l < 4
  pub aligned : base % upper_vaddr (3 - l) 0 ≡ 0
  pub from : base ≤ va
  pub upto : va < upper_vaddr (3 - l) base
