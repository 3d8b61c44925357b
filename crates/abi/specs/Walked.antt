-- What a walk makes of an entry's answer: whoever goes by tp_raw_entry from the root down goes as a walk does (proofs/Walked.antt).
use Rattle.std.specs.Prelude.{ℕ, cond, eqb}
use Rattle.entry.specs.Entry.{size_of, table_of, both}
use Rattle.entry.specs.declared.Rights.{Rights}
use Rattle.walk.specs.Walk.{base_of}
use Rattle.walk.specs.declared.Found.TheVariants as found
use Rattle.walk.specs.declared.Place.{Place}
use Rattle.walk.specs.declared.Place.TheVariants.{Going, Ended}
use Rattle.abi.specs.Answers.{rights_in}
use Rattle.abi.specs.declared.entries.Said.{Said}

-- at level n of the address va; r: the rights of the way to the entry
unfoldable pub goes_by : ℕ → ℕ → Rights → Said → Place
goes_by n va r x =
    cond (eqb x.kind 1)
    (Ended (found.Page (base_of n va) (size_of n) x.address (both r (rights_in x.rights))))
    (cond (eqb x.kind 3)
    (Going (table_of x.address) (both r (rights_in x.rights)))
    (cond (eqb x.kind 2) (Ended found.Outside) (Ended found.Nothing)))
