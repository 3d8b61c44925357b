-- The way of a walk as the source keeps it (Walk of spec_t/mmu/mod.rs, pt_walk of spec_t/mmu/pt_mem.rs): the entries in the order of their
-- reading, each with the word that it is; and what it makes of them. specs/Walks.antt has the same in one go (`path_is_walk`).
use Rattle.std.specs.Prelude.{ℕ, zero, suc, ◌-◌, ◌/◌, ◌%◌, ◌^◌, ◌<◌, ◌≤◌, true, false, List, [], ◌∷◌, ◌≡◌, length}
use Rattle.std.proofs.Math.Option.{Option, none, some}
use Rattle.word.specs.Memory.{at}
use Rattle.entry.specs.Entry.{bit, says}
use Rattle.entry.specs.declared.Rights.{Rights}
use Rattle.entry.specs.declared.Entry.{Entry}
use Rattle.entry.specs.declared.Entry.TheVariants.{Nothing, Page, Table}
use Rattle.verus.specs.Regions.{Flags, PTE, from_bits, combine}
use Rattle.verus.specs.Walks.{WalkResult, Valid, invalid, valid}

-- the number of the word that was read, which is its address / 8, and what it says at its layer
pub record Stop : Type 0 where
  pub word : ℕ
  pub entry : Entry

-- entry i of the table t, read at level l
abbrev pub stop : (ℕ → ℕ) → ℕ → ℕ → ℕ → Stop
stop m l t i = record { word = at t i; entry = says l (m (at t i)) }

-- pt_walk: on from a directory, and no further from anything else
unfoldable pub beyond2 : (ℕ → ℕ) → ℕ → Entry → List Stop
beyond2 m va Nothing = []
beyond2 m va (Page f g) = []
beyond2 m va (Table t g) = stop m 0 t (va / 2 ^ 12 % 512) ∷ []

unfoldable pub beyond1 : (ℕ → ℕ) → ℕ → Entry → List Stop
beyond1 m va Nothing = []
beyond1 m va (Page f g) = []
beyond1 m va (Table t g) = stop m 1 t (va / 2 ^ 21 % 512) ∷ beyond2 m va (says 1 (m (at t (va / 2 ^ 21 % 512))))

unfoldable pub beyond0 : (ℕ → ℕ) → ℕ → Entry → List Stop
beyond0 m va Nothing = []
beyond0 m va (Page f g) = []
beyond0 m va (Table t g) = stop m 2 t (va / 2 ^ 30 % 512) ∷ beyond1 m va (says 2 (m (at t (va / 2 ^ 30 % 512))))

unfoldable pub pt_path : (ℕ → ℕ) → ℕ → ℕ → List Stop
pt_path m pml4 va = stop m 3 pml4 (va / 2 ^ 39 % 512) ∷ beyond0 m va (says 3 (m (at pml4 (va / 2 ^ 39 % 512))))

-- Flags::from_GPDE; of an entry that says nothing it is open there
unfoldable pub from_entry : Entry → Flags
from_entry Nothing = record { is_writable = false; is_supervisor = true; disable_execute = true }
from_entry (Page f g) = from_bits g
from_entry (Table t g) = from_bits g

-- Walk::result, by the last entry: of this size if it is a page, with the flags of those before it and its own
unfoldable pub ended : ℕ → ℕ → Flags → Entry → WalkResult
ended va size flags Nothing = invalid va
ended va size flags (Page f g) = valid va size f (combine flags (from_bits g))
ended va size flags (Table t g) = invalid va

-- Walk::result and Walk::flags, by the length of the way; of none, and of one that ends in a page at once, it is open there
unfoldable pub result : ℕ → List Stop → WalkResult
result va [] = invalid va
result va (a ∷ []) = invalid va
result va (a ∷ b ∷ []) = ended va 1073741824 (from_entry a.entry) b.entry
result va (a ∷ b ∷ c ∷ []) = ended va 2097152 (combine (from_entry a.entry) (from_entry b.entry)) c.entry
result va (a ∷ b ∷ c ∷ d ∷ rest) = ended va 4096 (combine (combine (from_entry a.entry) (from_entry b.entry)) (from_entry c.entry)) d.entry

-- path[i]
unfoldable pub stop_at : List Stop → ℕ → Option Stop
stop_at [] i = none
stop_at (a ∷ rest) zero = some a
stop_at (a ∷ rest) (suc i) = stop_at rest i

abbrev pub IsDirectory : Entry → Type 0
IsDirectory e = (t : ℕ) × (g : Rights) × (e ≡ Table t g)

-- lemma_pt_walk, of a way: it has one entry at least and four at most; all but the last are directories, whose words are present; the last is
-- none; entry i is what its word says at layer i; and where the result is valid, the last word is present
pub record PtWalkFacts (m : ℕ → ℕ) (va : ℕ) (path : List Stop) : Type 0 where
  pub some_entry : 0 < length path
  pub few_entries : length path ≤ 4
  pub directories : (i : ℕ) (x : Stop) → stop_at path i ≡ some x → suc i < length path → IsDirectory x.entry × (bit 0 (m x.word) ≡ true)
  pub last_none : (i : ℕ) (x : Stop) → stop_at path i ≡ some x → suc i ≡ length path → ¬ IsDirectory x.entry
  pub entry_said : (i : ℕ) (x : Stop) → stop_at path i ≡ some x → x.entry ≡ says (3 - i) (m x.word)
  pub last_present : (vbase : ℕ) (p : PTE) → result va path ≡ Valid vbase p
      → (i : ℕ) (x : Stop) → stop_at path i ≡ some x → suc i ≡ length path → bit 0 (m x.word) ≡ true
