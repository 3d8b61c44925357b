-- What a word says as an entry of a table, from the manual's tables of 4-level paging, at a physical width of 52 bits.
-- Levels count what lies below: n is 3 at the root and 0 at the last table (the manual's PML4E, PDPTE, PDE, PTE).
use Rattle.std.specs.Prelude.{ℕ, zero, suc, ◌*◌, ◌/◌, ◌%◌, ◌^◌, Bool, true, false, cond, ◌&&◌, ◌||◌, ◌==◌, nat_le}
use Rattle.word.specs.Memory.{page_count}
use Rattle.entry.specs.declared.Rights.{Rights}
use Rattle.entry.specs.declared.Entry.{Entry}
use Rattle.entry.specs.declared.Entry.TheVariants.{Nothing, Page, Table}

-- Frames end here: physical addresses have 52 bits.
abbrev pub frame_end : ℕ
frame_end = 2 ^ 52

-- what one entry covers: 4 KiB, 2 MiB, 1 GiB, 512 GiB
unfoldable pub size_of : ℕ → ℕ
size_of n = 4096 * 512 ^ n

-- bit k of a word
unfoldable pub bit : ℕ → ℕ → Bool
bit k w = w / 2 ^ k % 2 == 1

-- bit 1: writable; bit 2: user; bit 63: not executable
unfoldable pub rights_of : ℕ → Rights
rights_of w = record { writable = bit 1 w; user = bit 2 w; noexec = bit 63 w }

-- the address bits of a page: from the size's own up to bit 51
unfoldable pub frame_of : ℕ → ℕ → ℕ
frame_of n w = w / size_of n % (frame_end / size_of n) * size_of n

-- the number of the page that holds the table: bits 12 to 51
unfoldable pub table_of : ℕ → ℕ
table_of w = w / 4096 % page_count

-- of a large page, the bits between bit 12, which is a memory type's, and its address are reserved: a walk faults where one is 1
unfoldable pub padded : ℕ → ℕ → Bool
padded n w = w / 8192 % (size_of n / 8192) == 0

-- bit 7 is 1 above the last table: a page at levels 1 and 2, reserved at the root
unfoldable pub large_of : ℕ → ℕ → Entry
large_of n w = cond (nat_le n 2 && padded n w) (Page (frame_of n w) (rights_of w)) Nothing

-- a word that is present; at the last table bit 7 is a memory type's
unfoldable pub present_of : ℕ → ℕ → Entry
present_of zero w = Page (frame_of 0 w) (rights_of w)
present_of (suc n) w = cond (bit 7 w) (large_of (suc n) w) (Table (table_of w) (rights_of w))

-- WHAT A WORD SAYS at level n. Bits 3, 4, 5, 6, 8 to 12 (of a page) and 52 to 62 are the memory type, marks, and free.
unfoldable pub says : ℕ → ℕ → Entry
says n w = cond (bit 0 w) (present_of n w) Nothing

-- the rights of a way: writable and user if both are, not executable if one says so
unfoldable pub both : Rights → Rights → Rights
both a b = record {
  writable = a.writable && b.writable;
  user = a.user && b.user;
  noexec = a.noexec || b.noexec;
}

abbrev pub everything : Rights
everything = record { writable = true; user = true; noexec = false }
