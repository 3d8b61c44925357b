-- What the source promises of its entries' functions (impl PDE of impl_u/l2_impl.rs), over a word: a mask of one bit is that bit, the view of an
-- entry is what the word says, and MASK_ADDR is bits 12 to 51. Its layers 0 to 3 are our levels 3 to 0.
use Rattle.std.specs.Prelude.{ℕ, ◌*◌, ◌/◌, ◌%◌, ◌^◌, true, false, ◌≢◌, ◌≡◌}
use Rattle.entry.specs.Entry.{size_of, bit, says, everything}
use Rattle.entry.specs.Kept.{SameButRights}
use Rattle.entry.specs.declared.Rights.{Rights}
use Rattle.entry.specs.declared.Entry.TheVariants.{Page, Table}

-- entry & MASK_ADDR
abbrev pub masked_address : ℕ → ℕ
masked_address w = w / 4096 % 2 ^ 40 * 4096

-- all_mb0_bits_are_zero: of a word that is present, bit 7 at the root; of large pages, the bits between bit 12 and the address. Of a word
-- that is not present no bit is reserved.
pub record MustBeZero (l w : ℕ) : Type 0 where
  pub at_root : bit 0 w ≡ true → l ≡ 3 → bit 7 w ≡ false
  pub padding : bit 0 w ≡ true → l ≢ 0 → bit 7 w ≡ true → w / 8192 % (size_of l / 8192) ≡ 0

-- new_page_entry. Bit 7 at the last level is where we differ: it is 0 here.
pub record NewPageEntry (l frame : ℕ) (r : Rights) (w : ℕ) : Type 0 where
  pub page : says l w ≡ Page frame r
  pub address : masked_address w ≡ frame
  pub present : bit 0 w ≡ true
  pub writable : bit 1 w ≡ r.writable
  pub user : bit 2 w ≡ r.user
  pub write_through : bit 3 w ≡ false
  pub cache_disabled : bit 4 w ≡ false
  pub accessed : bit 5 w ≡ false
  pub dirty : bit 6 w ≡ false
  pub large : l ≢ 0 → bit 7 w ≡ true
  pub small : l ≡ 0 → bit 7 w ≡ false
  pub hp_pat : l ≢ 0 → bit 12 w ≡ false
  pub no_execute : bit 63 w ≡ r.noexec
  pub mb0 : MustBeZero l w

-- new_dir_entry
pub record NewDirEntry (l p w : ℕ) : Type 0 where
  pub directory : says l w ≡ Table p everything
  pub accessed : bit 5 w ≡ false
  pub dirty : bit 6 w ≡ false
  pub mb0 : MustBeZero l w

-- change_page_permissions, of the word of a page
pub record Permitted (l frame : ℕ) (r : Rights) (w v : ℕ) : Type 0 where
  pub page : says l v ≡ Page frame r
  pub kept : SameButRights v w
