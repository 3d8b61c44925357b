-- The words that we write.
use Rattle.std.specs.Prelude.{ℕ, zero, suc, ◌+◌, ◌*◌, ◌/◌, ◌%◌, ◌^◌, Bool, cond, ◌&&◌, ◌==◌, nat_le, nat_lt, Option, Some, None}
use Rattle.word.specs.Memory.{page_count}
use Rattle.entry.specs.Entry.{size_of, frame_end}
use Rattle.entry.specs.declared.Rights.{Rights}

unfoldable pub flag : Bool → ℕ
flag b = cond b 1 0

-- bit 7 says "page" above the last table; in the last it is a memory type's, and stays 0
unfoldable pub large_flag : ℕ → ℕ
large_flag zero = 0
large_flag (suc n) = 128

-- a page: present, its rights, its frame; every other bit 0
unfoldable pub page_word : ℕ → ℕ → Rights → ℕ
page_word n frame r = 1 + 2 * flag r.writable + 4 * flag r.user + large_flag n + frame + 2 ^ 63 * flag r.noexec

-- a frame that a page of level n can have
unfoldable pub fits : ℕ → ℕ → Bool
fits n frame = nat_le n 2 && (frame % size_of n == 0 && nat_lt frame frame_end)

unfoldable pub made_page : ℕ → ℕ → Rights → Option ℕ
made_page n frame r = cond (fits n frame) (Some (page_word n frame r)) None

-- the table in page p: present, and it grants everything
unfoldable pub table_word : ℕ → ℕ
table_word p = 4096 * p + 7

unfoldable pub made_table : ℕ → Option ℕ
made_table p = cond (nat_lt p page_count) (Some (table_word p)) None

-- the word with other rights: bits 1, 2 and 63 are new, and every other is as it was
unfoldable pub with_rights : ℕ → Rights → ℕ
with_rights w r = w % 2 + 2 * flag r.writable + 4 * flag r.user + 8 * (w / 8 % 2 ^ 60) + 2 ^ 63 * flag r.noexec
