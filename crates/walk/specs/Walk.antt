-- THE MEANING of tables: what a walk of an address finds. One step a level, each reads one entry; from the manual's account of 4-level paging.
-- A memory m gives the word at each physical word number; h says which pages lie wholly in the window.
use Rattle.std.specs.Prelude.{ℕ, zero, suc, ◌-◌, ◌*◌, ◌/◌, ◌%◌, ◌^◌, Bool, cond, ◌&&◌, ◌||◌, nat_le, nat_lt}
use Rattle.word.specs.Memory.{at}
use Rattle.entry.specs.Entry.{size_of, table_of, says, both, everything}
use Rattle.entry.specs.declared.Rights.{Rights}
use Rattle.entry.specs.declared.Entry.{Entry}
use Rattle.entry.specs.declared.Entry.TheVariants as entry
use Rattle.walk.specs.declared.Found.{Found}
use Rattle.walk.specs.declared.Found.TheVariants.{Page, Nothing, Outside, NoAddress}
use Rattle.walk.specs.declared.Place.{Place}
use Rattle.walk.specs.declared.Place.TheVariants.{Going, Ended}

-- half of all addresses
abbrev pub half : ℕ
half = 2 ^ 47

-- WHAT IS AN ADDRESS: a number of 64 bits that is canonical, so that bits 48 to 63 repeat bit 47. These are two halves, the lower from 0 on, and
-- the upper, which ends at 2 ^ 64; no number between them is an address.
unfoldable pub canonical : ℕ → Bool
canonical va = nat_lt va half || (nat_le (2 ^ 64 - half) va && nat_lt va (2 ^ 64))

-- which entry of a table of level n the address goes through
unfoldable pub index_of : ℕ → ℕ → ℕ
index_of n va = va / size_of n % 512

-- where the range that the entry covers begins
unfoldable pub base_of : ℕ → ℕ → ℕ
base_of n va = va / size_of n * size_of n

-- the entry that the address reads in the table t of level n
abbrev pub entry_of : ℕ → ℕ → ℕ → ℕ
entry_of n va t = at t (index_of n va)

-- a walk at the table in page t, with the rights r so far
abbrev pub going : ℕ → Rights → Place
going t r = Going t r

-- what comes of an entry of level n; r: the rights of the way to it
unfoldable pub entered : ℕ → ℕ → Rights → Entry → Place
entered n va r entry.Nothing = Ended Nothing
entered n va r (entry.Page f g) = Ended (Page (base_of n va) (size_of n) f (both r g))
entered n va r (entry.Table t g) = Going t (both r g)

-- ONE STEP, at level n: it reads one entry. A table that is not in the window is not read, and a walk that has ended stays.
unfoldable pub step_of : (ℕ → Bool) → (ℕ → ℕ) → ℕ → ℕ → Place → Place
step_of h m n va (Going t r) = cond (h t) (entered n va r (says n (m (entry_of n va t)))) (Ended Outside)
step_of h m n va (Ended f) = Ended f

-- the steps at the levels below n, from the top
unfoldable pub run : (ℕ → Bool) → (ℕ → ℕ) → ℕ → ℕ → Place → Place
run h m zero va p = p
run h m (suc n) va p = run h m n va (step_of h m n va p)

-- at the root, which is given as in CR3; a number that is no address has no walk
unfoldable pub start : ℕ → ℕ → Place
start root va = cond (canonical va) (Going (table_of root) everything) (Ended NoAddress)

-- what a walk has found; after four steps none is going (no entry of the last level names a table)
unfoldable pub found_of : Place → Found
found_of (Going t r) = Nothing
found_of (Ended f) = f

-- WHAT THE ADDRESS MEANS
unfoldable pub walk : (ℕ → Bool) → (ℕ → ℕ) → ℕ → ℕ → Found
walk h m root va = found_of (run h m 4 va (start root va))
