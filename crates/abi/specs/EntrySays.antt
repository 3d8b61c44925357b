-- WHAT tp_raw_entry ANSWERS, case by case, of the word that is there; for any bytes and any numbers.
use Rattle.std.specs.Prelude.{ℕ, ◌+◌, ◌*◌, ◌/◌, ◌%◌, ◌<◌, true, List, ◌≡◌}
use Rattle.word.specs.Memory.{at, memory, holds}
use Rattle.entry.specs.Entry.{table_of, says}
use Rattle.entry.specs.declared.Rights.{Rights}
use Rattle.entry.specs.declared.Entry.TheVariants.{Nothing, Page, Table}
use Rattle.abi.specs.Entries.{entry_answer}
use Rattle.abi.specs.Relied.{granted}
use Rattle.abi.specs.declared.entries.Said.{Said}

-- there is such an entry: one of four levels, one of 512, of a table that lies in the window
pub record Readable (s : List ℕ) (origin table level index : ℕ) : Type 0 where
  pub of_four : level < 4
  pub of_512 : index < 512
  pub inside : holds s origin (table_of table) ≡ true

-- its word
abbrev pub word_there : List ℕ → ℕ → ℕ → ℕ → ℕ
word_there s origin table index = memory s origin (at (table_of table) index)

-- TP_ACCESSED is bit 0 of the marks, TP_DIRTY bit 1; in the word they are bits 5 and 6
abbrev pub accessed : ℕ → ℕ
accessed w = w / 32 % 2

abbrev pub dirty : ℕ → ℕ
dirty w = w / 64 % 2

-- a kind alone
abbrev pub bare : ℕ → Said
bare kind = record { kind = kind; address = 0; rights = 0; marks = 0 }

-- an answer of this kind, with this address, these rights and these marks
pub record Says (x : Said) (kind address : ℕ) (g : Rights) (marks : ℕ) : Type 0 where
  pub kind_is : x.kind ≡ kind
  pub address_is : x.address ≡ address
  pub rights_are : granted x.rights ≡ g
  pub rights_few : x.rights < 8
  pub marks_are : x.marks ≡ marks

pub record EntrySays (s : List ℕ) (origin table level index : ℕ) : Type 0 where
  -- there is no such entry
  pub outside : ¬ Readable s origin table level index → entry_answer s origin table level index ≡ bare 2
  -- it is not present
  pub absent : Readable s origin table level index → word_there s origin table index % 2 ≡ 0 → entry_answer s origin table level index ≡ bare 0
  -- it is present, but reserved bits are set
  pub damaged : Readable s origin table level index → word_there s origin table index % 2 ≡ 1 → says level (word_there s origin table index) ≡ Nothing
      → entry_answer s origin table level index ≡ bare 4
  -- it says a page, with the machine's marks
  pub page : (f : ℕ) (g : Rights) → Readable s origin table level index → says level (word_there s origin table index) ≡ Page f g
      → Says (entry_answer s origin table level index) 1 f g (accessed (word_there s origin table index) + 2 * dirty (word_there s origin table index))
  -- it names a table; dirty is no mark there
  pub names : (t : ℕ) (g : Rights) → Readable s origin table level index → says level (word_there s origin table index) ≡ Table t g
      → Says (entry_answer s origin table level index) 3 (4096 * t) g (accessed (word_there s origin table index))
