-- What the source promises of new_entry (impl PDE of impl_u/l2_impl.rs), of all its arguments. Two functions call it, and pass false for
-- write_through and cache-disable; of a directory new_dir_entry also passes all rights.
use Rattle.std.specs.Prelude.{ℕ, ◌+◌, ◌*◌, ◌/◌, ◌%◌, ◌^◌, ◌<◌, ◌≤◌, Bool, true, false, not, cond, ◌≢◌, ◌≡◌}
use Rattle.entry.specs.Entry.{size_of, bit, says}
use Rattle.entry.specs.Words.{flag, large_flag}
use Rattle.entry.specs.declared.Rights.{Rights}
use Rattle.entry.specs.declared.Entry.TheVariants.{Page, Table}
use Rattle.verus.specs.Entries.{masked_address, MustBeZero}

pub record EntryFlags : Type 0 where
  pub is_writable : Bool
  pub is_supervisor : Bool
  pub is_writethrough : Bool
  pub disable_cache : Bool
  pub disable_execute : Bool

-- the rights among them
abbrev pub rights_asked : EntryFlags → Rights
rights_asked x = record { writable = x.is_writable; user = not x.is_supervisor; noexec = x.disable_execute }

-- the word: its flags are bits that are 0 in the address. Bit 7 at the last level is where we differ: it is 0 here.
unfoldable pub new_entry : ℕ → ℕ → Bool → EntryFlags → ℕ
new_entry l address is_page x =
    1 + 2 * flag x.is_writable + 4 * flag (not x.is_supervisor) + 8 * flag x.is_writethrough + 16 * flag x.disable_cache
    + cond is_page (large_flag l) 0 + address + 2 ^ 63 * flag x.disable_execute

-- what it requires of layer and address: those of a page, or of a directory
pub data EntryFits (l address : ℕ) : Bool → Type 0 where
  of_page : l ≤ 2 → address % size_of l ≡ 0 → address < 2 ^ 52 → EntryFits l address true
  of_directory : l ≢ 0 → l ≤ 3 → address % 4096 ≡ 0 → address < 2 ^ 52 → EntryFits l address false

-- what it ensures
pub record NewEntry (l address : ℕ) (is_page : Bool) (x : EntryFlags) (w : ℕ) : Type 0 where
  pub mb0 : MustBeZero l w
  pub view : says l w ≡ cond is_page (Page address (rights_asked x)) (Table (address / 4096) (rights_asked x))
  pub hp_pat : is_page ≡ true → l ≢ 0 → bit 12 w ≡ false
  pub accessed : bit 5 w ≡ false
  pub dirty : bit 6 w ≡ false
  pub address_bits : masked_address w ≡ address
  pub present : bit 0 w ≡ true
  pub seven : bit 7 w ≡ cond is_page (bit 7 (large_flag l)) false
  pub writable : bit 1 w ≡ x.is_writable
  pub user : bit 2 w ≡ not x.is_supervisor
  pub write_through : bit 3 w ≡ x.is_writethrough
  pub cache_disabled : bit 4 w ≡ x.disable_cache
  pub no_execute : bit 63 w ≡ x.disable_execute
