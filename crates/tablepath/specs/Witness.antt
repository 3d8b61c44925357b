-- What the witnesses speak of: any five pages, made a pool, and a page of 4 KiB that is mapped there.
use Rattle.std.specs.Prelude.{ℕ, true, List, ◌≡◌, Ok}
use Rattle.word.specs.Writes.{carried}
use Rattle.entry.specs.declared.Rights.{Rights}
use Rattle.walk.specs.declared.Found.TheVariants.{Page}
use Rattle.pool.specs.Create.{new_space}
use Rattle.pool.specs.declared.Space.{Space}
use Rattle.plan.specs.declared.maps.Asked.{Asked}
use Rattle.tablepath.specs.Answers.{create_writes, map_answer}
use Rattle.tablepath.specs.Looks.{in_window, look_up, with_page}

-- Five pages at address 0 ----------------------------------------------------------------------------------------------------------------

abbrev pub five : Space
five = new_space 0 0 5

-- rights of a page that is read and written, and runs nothing
abbrev pub of_data : Rights
of_data = record { writable = true; user = true; noexec = true }

-- a page of 4 KiB at an address, of the frame at 1 MiB
abbrev pub page_on : ℕ → Asked
page_on va = record { base = va; frame = 1048576; size = 4096; rights = of_data }

abbrev pub page : Asked
page = page_on 0

-- the bytes that create leaves
abbrev pub bytes : List ℕ → List ℕ
bytes s = carried s 0 (create_writes s 0 0 5)

-- map of such a page is done, and then look-up answers it
abbrev pub Mappable : List ℕ → ℕ → Type 0
Mappable s va = ((k : ℕ) × (in_window (bytes s) 0 map_answer five (page_on va) ≡ Ok k))
    × (look_up (with_page (bytes s) five (page_on va)) five va ≡ Page va 4096 1048576 of_data)
