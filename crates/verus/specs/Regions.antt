-- The source's plain notions, from spec_t/mmu/defs.rs: regions of memory, flags, and what a base is mapped to.
use Rattle.std.specs.Prelude.{ℕ, ◌+◌, ◌%◌, ◌<◌, ◌≤◌, Bool, not, ◌&&◌, ◌||◌, ◌⊎◌, ◌≡◌}
use Rattle.entry.specs.declared.Rights.{Rights}

pub record MemRegion : Type 0 where
  pub base : ℕ
  pub size : ℕ

pub record Flags : Type 0 where
  pub is_writable : Bool
  pub is_supervisor : Bool
  pub disable_execute : Bool

pub record PTE : Type 0 where
  pub frame : MemRegion
  pub flags : Flags

-- Flags::from_bits, of the three bits that we call rights
unfoldable pub from_bits : Rights → Flags
from_bits r = record { is_writable = r.writable; is_supervisor = not r.user; disable_execute = r.noexec }

-- Flags::combine
unfoldable pub combine : Flags → Flags → Flags
combine a b = record {
  is_writable = a.is_writable && b.is_writable;
  is_supervisor = a.is_supervisor || b.is_supervisor;
  disable_execute = a.disable_execute || b.disable_execute;
}

-- the PTE of a frame and a size with these rights
unfoldable pub pte_of : ℕ → ℕ → Rights → PTE
pte_of size frame r = record { frame = record { base = frame; size = size }; flags = from_bits r }

-- overlap
abbrev pub Overlap : MemRegion → MemRegion → Type 0
Overlap a b = ((a.base ≤ b.base) × ((a.base ≡ b.base) ⊎ (b.base < a.base + a.size))) ⊎ ((b.base < a.base) × (a.base < b.base + b.size))

-- aligned
abbrev pub Aligned : ℕ → ℕ → Type 0
Aligned addr size = addr % size ≡ 0
