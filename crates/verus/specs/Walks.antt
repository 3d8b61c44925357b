-- The source's walk and what its tables mean, from spec_t/mmu/pt_mem.rs (pt_walk, view) and spec_t/mmu/mod.rs (Walk::result, Walk::flags), over
-- our memory: a GPDE is what a word says, a table's address is its page's number, and its layers 0 to 3 are our levels 3 to 0.
use Rattle.std.specs.Prelude.{ℕ, ◌-◌, ◌/◌, ◌%◌, ◌^◌, cond, eqb, ltb}
use Rattle.std.proofs.Math.Option.{Option, none, some}
use Rattle.word.specs.Memory.{at}
use Rattle.entry.specs.Entry.{says}
use Rattle.entry.specs.declared.Entry.{Entry}
use Rattle.entry.specs.declared.Entry.TheVariants.{Nothing, Page, Table}
use Rattle.walk.specs.Walk.{canonical}
use Rattle.verus.specs.Regions.{Flags, PTE, from_bits, combine}
use Rattle.verus.specs.Mappings.{Mappings, max_base}

pub data WalkResult : Type 0 where
  Valid : ℕ → PTE → WalkResult
  Invalid : ℕ → WalkResult

-- align_to_usize
abbrev pub align : ℕ → ℕ → ℕ
align a b = a - a % b

-- the result for a path that ends in no page holds for one page
abbrev pub invalid : ℕ → WalkResult
invalid va = Invalid (align va 4096)

-- the result for a path whose last entry is a page of this size
abbrev pub valid : ℕ → ℕ → ℕ → Flags → WalkResult
valid va size frame flags = Valid (align va size) (record { frame = record { base = frame; size = size }; flags = flags })

-- what comes of the entry of each layer; a page at layer 0, a directory at layer 3: there are none, and the source leaves these open
unfoldable pub layer3 : ℕ → Flags → Entry → WalkResult
layer3 va flags Nothing = invalid va
layer3 va flags (Page f g) = valid va 4096 f (combine flags (from_bits g))
layer3 va flags (Table t g) = invalid va

unfoldable pub layer2 : (ℕ → ℕ) → ℕ → Flags → Entry → WalkResult
layer2 m va flags Nothing = invalid va
layer2 m va flags (Page f g) = valid va 2097152 f (combine flags (from_bits g))
layer2 m va flags (Table t g) = layer3 va (combine flags (from_bits g)) (says 0 (m (at t (va / 2 ^ 12 % 512))))

unfoldable pub layer1 : (ℕ → ℕ) → ℕ → Flags → Entry → WalkResult
layer1 m va flags Nothing = invalid va
layer1 m va flags (Page f g) = valid va 1073741824 f (combine flags (from_bits g))
layer1 m va flags (Table t g) = layer2 m va (combine flags (from_bits g)) (says 1 (m (at t (va / 2 ^ 21 % 512))))

unfoldable pub layer0 : (ℕ → ℕ) → ℕ → Entry → WalkResult
layer0 m va Nothing = invalid va
layer0 m va (Page f g) = invalid va
layer0 m va (Table t g) = layer1 m va (from_bits g) (says 2 (m (at t (va / 2 ^ 30 % 512))))

-- pt_walk, and its result
unfoldable pub pt_walk : (ℕ → ℕ) → ℕ → ℕ → WalkResult
pt_walk m pml4 va = layer0 m va (says 3 (m (at pml4 (va / 2 ^ 39 % 512))))

-- is_base_pt_walk: an address whose walk is valid and has it for its base
unfoldable pub based : ℕ → WalkResult → Option PTE
based va (Valid vbase p) = cond (eqb vbase va) (some p) none
based va (Invalid a) = none

-- view, which the tokens call interp, as the source has it: the map from the bases, which are 0 to 2 ^ 48 - 1
unfoldable pub view : (ℕ → ℕ) → ℕ → Mappings
view m pml4 va = cond (ltb va max_base) (based va (pt_walk m pml4 va)) none

-- the same, from the addresses that the machine has
unfoldable pub interp : (ℕ → ℕ) → ℕ → Mappings
interp m pml4 va = cond (canonical va) (based va (pt_walk m pml4 va)) none
