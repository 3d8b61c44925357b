-- What one entry says, as the numbers that C gets. Kinds: 0 not present, 1 a page, 2 outside, 3 a table, 4 reserved bits are set.
use Rattle.std.specs.Prelude.{ℕ, ◌+◌, ◌*◌, cond, List, ltb, Option, Some, None}
use Rattle.word.specs.Memory.{read_of}
use Rattle.entry.specs.Entry.{bit, table_of, says}
use Rattle.entry.specs.Words.{flag}
use Rattle.entry.specs.declared.Entry.{Entry}
use Rattle.entry.specs.declared.Entry.TheVariants.{Nothing, Page, Table}
use Rattle.abi.specs.Answers.{rights_word}
use Rattle.abi.specs.declared.entries.Said.{Said}

-- a kind that says all
unfoldable pub bare_of : ℕ → Said
bare_of kind = record { kind = kind; address = 0; rights = 0; marks = 0 }

-- a word that says nothing: it is not present, or reserved bits are set
unfoldable pub silent_of : ℕ → Said
silent_of w = bare_of (cond (bit 0 w) 4 0)

-- the word w, which says e. Marks: bit 5 accessed; bit 6 dirty, of a page alone
unfoldable pub said_of : ℕ → Entry → Said
said_of w Nothing = silent_of w
said_of w (Page f g) = record { kind = 1; address = f; rights = rights_word g; marks = flag (bit 5 w) + 2 * flag (bit 6 w) }
said_of w (Table t g) = record { kind = 3; address = 4096 * t; rights = rights_word g; marks = flag (bit 5 w) }

-- what was read at level n
unfoldable pub said_in : ℕ → Option ℕ → Said
said_in n (Some w) = said_of w (says n w)
said_in n None = bare_of 2

-- WHAT THE ENTRY SAYS: of the table whose address is given as in CR3; there are four levels, and 512 entries
unfoldable pub entry_answer : List ℕ → ℕ → ℕ → ℕ → ℕ → Said
entry_answer s origin table level index = cond (ltb level 4) (said_in level (read_of s origin (table_of table) index)) (bare_of 2)
