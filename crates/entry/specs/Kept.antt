-- What stays of an entry whose rights change.
use Rattle.std.specs.Prelude.{◌≡◌, ℕ, ◌/◌, ◌%◌, ◌^◌}
use Rattle.entry.specs.declared.Rights.{Rights}
use Rattle.entry.specs.declared.Entry.{Entry}
use Rattle.entry.specs.declared.Entry.TheVariants.{Nothing, Page, Table}

-- v and w differ in bits 1, 2 and 63 at most
pub record SameButRights (v w : ℕ) : Type 0 where
  pub present : v % 2 ≡ w % 2
  pub middle : v / 8 % 2 ^ 60 ≡ w / 8 % 2 ^ 60

-- the same entry with these rights
unfoldable pub regranted : Rights → Entry → Entry
regranted r Nothing = Nothing
regranted r (Page f g) = Page f r
regranted r (Table t g) = Table t r
