-- The source's meaning of tables: a partial map from bases. Its tests of what is asked of map, unmap and protect, over such a map.
use Rattle.std.specs.Prelude.{ℕ, ◌-◌, ◌*◌, ◌^◌, ◌≤◌, true, cond, ◌≡◌, eqb}
use Rattle.std.proofs.Math.Option.{Option, none, some}
use Rattle.entry.specs.Entry.{size_of}
use Rattle.walk.specs.Walk.{canonical}
use Rattle.verus.specs.Regions.{PTE, Overlap, Aligned}

-- IMap<nat, PTE>
abbrev pub Mappings : Type 0
Mappings = ℕ → Option PTE

-- contains_key
abbrev pub ContainsKey : Mappings → ℕ → Type 0
ContainsKey f b = (p : PTE) × (f b ≡ some p)

-- insert, remove
unfoldable pub inserted : Mappings → ℕ → PTE → Mappings
inserted f k p b = cond (eqb b k) (some p) (f b)

unfoldable pub removed : Mappings → ℕ → Mappings
removed f k b = cond (eqb b k) none (f b)

-- the same map
abbrev pub SameMap : Mappings → Mappings → Type 0
SameMap f g = (b : ℕ) → f b ≡ g b

-- candidate_mapping_overlaps_existing_vmem: the range of some base that is mapped overlaps the candidate's
pub record CandidateOverlaps (f : Mappings) (base : ℕ) (p : PTE) : Type 0 where
  pub key : ℕ
  pub pte : PTE
  pub there : f key ≡ some pte
  pub overlap : Overlap (record { base = base; size = p.frame.size }) (record { base = key; size = pte.frame.size })

-- MAX_BASE, where the source's addresses end: it takes 0 to 2 ^ 48 - 1 as they are. Where it asks for that, we ask for an address of the
-- machine, which is canonical: the source's own below 2 ^ 47, and above, those that it means (proofs/Extended.antt).
abbrev pub max_base : ℕ
max_base = 512 * 512 * 512 * 4096 * 512

-- MAX_PHYADDR, at a physical width of 52
abbrev pub max_phyaddr : ℕ
max_phyaddr = 2 ^ 52 - 1

-- contains_entry_size_at_index_atleast(size, 3 - top): the size of an entry of some level up to top. Its layers 0 to 3 are our levels 3 to 0.
pub record EntrySize (top size : ℕ) : Type 0 where
  pub level : ℕ
  pub low : level ≤ top
  pub is : size ≡ size_of level

-- accepted_mapping(vaddr, pte, 0, 0)
pub record AcceptedMapping (vaddr : ℕ) (p : PTE) : Type 0 where
  pub vaddr_aligned : Aligned vaddr p.frame.size
  pub frame_aligned : Aligned p.frame.base p.frame.size
  pub address : canonical vaddr ≡ true
  pub size : EntrySize 2 p.frame.size
  pub physical : p.frame.base ≤ max_phyaddr

-- accepted_unmap(vaddr, 0, 0) and accepted_protect: aligned to the size of some entry, and an address
pub record AcceptedUnmap (vaddr : ℕ) : Type 0 where
  pub size : ℕ
  pub sized : EntrySize 3 size
  pub aligned : Aligned vaddr size
  pub address : canonical vaddr ≡ true
