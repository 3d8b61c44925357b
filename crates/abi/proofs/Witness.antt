-- A WITNESS, by the numbers of C: any five pages become a pool, and a page of 4 KiB is mapped in it.
use Prim.Native.Nat.{ℕ}
use mathlib.Core.List.{List}
use mathlib.Core.Path.{◌≡◌, refl}
use native.Mathlib.Omega.{arith}
use lib.ListN.{length}
use Rattle.word.specs.Memory.{holds}
use Rattle.entry.specs.Entry.{bit}
use Rattle.pool.specs.Book.{room_of}
use Rattle.pool.specs.Create.{created_of, created_in, may_create}
use Rattle.tablepath.specs.Answers as the
use Rattle.tablepath.proofs.Witness.{one_page, goes}
use Rattle.abi.specs.Answers.{created_to_c, mapped_to_c}
use Rattle.abi.specs.Calls.{create_answer}
use Rattle.abi.specs.Relied.{Numbers, granted, WholeAt, tp_create, create_leaves, tp_map}
use Rattle.abi.proofs.Creating.{create_leaves_lem, create_done}
use Rattle.abi.proofs.Named.{map_answers}

module _ (s : List ℕ) (e : length s ≡ 20480) where
  -- the root lies behind the book, which is one page
  pub five_made : tp_create s 0 0 5 ≡ record { reason = 0; root = 4096 }
  unfolding create_answer created_to_c created_of created_in may_create room_of holds
  five_made = rw (e, one_page, one_page)

  abbrev five : Numbers
  five = record { origin = 0; pool = 0; pages = 5; root = 4096 }

  pub five_whole : WholeAt (create_leaves s 0 0 5) five
  five_whole = rw five_made at (create_done s 0 0 5 (rw five_made)).whole

  -- writable, for users, not executable
  pub five_mapped : (tp_map (create_leaves s 0 0 5) five 0 1048576 4096 7).reason ≡ 0
  unfolding granted bit mapped_to_c the.map_answer the.map_said
  five_mapped = rw (map_answers five five_whole.aligned (create_leaves s 0 0 5) 0 1048576 4096 7 (omega arith), create_leaves_lem s 0 0 5 refl, rw one_page at (goes s e).1)
