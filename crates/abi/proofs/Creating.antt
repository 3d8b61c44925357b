-- CREATE, by the numbers that C gives and gets: the root that it answers names a whole space, in which nothing is mapped, for the calls after it.
use Prim.Native.Nat.{ℕ, ◌+◌, ◌/◌, ◌%◌}
use mathlib.Core.Bool.{Bool, true, false, cond}
use mathlib.Core.List.{List, []}
use mathlib.Core.Path.{◌≡◌, refl, ap, ◌∙◌}
use native.Mathlib.Omega.{arith}
use lib.Dec.{eqb}
use lib.ListN.{length}
use borrow.Author.Tests.{eq-eqb, eqb-true}
use Rattle.std.proofs.Common.{Result, Ok, Err}
use Rattle.pool.specs.declared.Reason.{Reason}
use Rattle.word.specs.Memory.{holds}
use Rattle.word.specs.Writes.{carried}
use Rattle.walk.specs.Walk.{canonical}
use Rattle.pool.specs.Layout.{book_pages}
use Rattle.pool.proofs.Words.{book_some}
use Rattle.pool.specs.Book.{room_of}
use Rattle.pool.specs.Booked.{new_role}
use Rattle.pool.specs.Create.{created_of, created_in, create_writes, create_in, new_space, may_create}
use Rattle.pool.specs.declared.Reason.TheVariants.{OriginUnaligned, LengthUnaligned}
use Rattle.effect.proofs.Wholes.{root_in}
use Rattle.tablepath.proofs.Witness.{nothing_yet}
use Rattle.tablepath.specs.Looks.{WholeBytes}
use Rattle.tablepath.proofs.Wholes.{create_whole}
use Rattle.abi.specs.ReasonNumbers.{pool_reason, number_of, pool_unaligned}
use Rattle.abi.specs.Answers.{created_to_c, looked_up_to_c}
use Rattle.abi.specs.Calls as call
use Rattle.abi.specs.Calls.{create_answer}
use Rattle.abi.specs.Relied.{WholeAt, tp_create, create_leaves, tp_look_up, nothing, new_numbers, CreateDone}
use Rattle.abi.specs.Reasons.{CreateSays}
use Rattle.abi.proofs.Says.{created_says}
use Rattle.abi.proofs.RoundTrips.{looks, nothing_is}

module _ (s : List ℕ) (origin pool pages : ℕ) where
  -- what may be made, by the two tests of the window
  fits : Bool → Bool → Result (Unit {0}) Reason
  fits x y = cond x (cond y (room_of (holds s origin) (pool / 4096) pages) (Err LengthUnaligned)) (Err OriginUnaligned)

  -- OF A POOL AT A PAGE BOUNDARY, it is the operation: the answer and the bytes
  create_answers : pool % 4096 ≡ 0 → tp_create s origin pool pages ≡ created_to_c (created_of (length s) (holds s origin) origin (pool / 4096) pages)
  unfolding create_answer created_to_c created_of created_in may_create pool_reason fits
  create_answers a = rw (eq-eqb _ _ a) (go (eqb (origin % 4096) 0) (eqb (length s % 4096) 0))
    where
      go : (x y : Bool) → cond x (cond y (created_to_c (created_in (pool / 4096) pages (fits x y))) (record { reason = pool_reason LengthUnaligned; root = 0 })) (record { reason = pool_reason OriginUnaligned; root = 0 })
          ≡ created_to_c (created_in (pool / 4096) pages (fits x y))
      go true true = refl
      go true false = refl
      go false y = refl

  pub create_leaves_lem : pool % 4096 ≡ 0 → create_leaves s origin pool pages
      ≡ carried s origin (create_writes (length s) (holds s origin) origin (pool / 4096) pages)
  unfolding call.create_writes create_writes create_in may_create fits
  create_leaves_lem a = rw (eq-eqb _ _ a) (go (eqb (origin % 4096) 0) (eqb (length s % 4096) 0))
    where
      go : (x y : Bool) → carried s origin (cond x (cond y (create_in (new_space origin (pool / 4096) pages) (fits x y)) []) [])
          ≡ carried s origin (create_in (new_space origin (pool / 4096) pages) (fits x y))
      go true true = refl
      go true false = refl
      go false y = refl

  -- WHAT ITS ANSWER SAYS
  pub create_says : pool % 4096 ≡ 0 → CreateSays (tp_create s origin pool pages) (created_of (length s) (holds s origin) origin (pool / 4096) pages)
  create_says a = rw (create_answers a) (created_says _)

  -- any other pool is refused
  done_aligned : (tp_create s origin pool pages).reason ≡ 0 → pool % 4096 ≡ 0
  unfolding create_answer pool_reason
  done_aligned e = go (eqb (origin % 4096) 0) (eqb (length s % 4096) 0) (eqb (pool % 4096) 0) refl e
    where
      go : (x y z : Bool) → eqb (pool % 4096) 0 ≡ z
          → (cond x (cond y (cond z (created_to_c (created_of (length s) (holds s origin) origin (pool / 4096) pages)) (record { reason = number_of pool_unaligned; root = 0 })) (record { reason = pool_reason LengthUnaligned; root = 0 })) (record { reason = pool_reason OriginUnaligned; root = 0 })).reason ≡ 0
          → pool % 4096 ≡ 0
      go x y true f k = eqb-true _ _ f
      go true true false f k = absurd (omega arith)
      go true false false f k = absurd (omega arith)
      go false y false f k = absurd (omega arith)

  root_page : (a : Result ℕ Reason) → (created_to_c a).root % 4096 ≡ 0
  unfolding created_to_c
  root_page (Ok p) = omega arith
  root_page (Err y) = refl

  -- DONE: the space is whole, and empty
  pub create_done : (tp_create s origin pool pages).reason ≡ 0 → CreateDone s origin pool pages
  create_done e = record { whole = whole; behind = omega (arith, at_page, root_is, book_some pages); before_end = omega (arith, at_page, root_is, (root_in whole.whole).before_end); empty = empty }
    where
      a : pool % 4096 ≡ 0
      a = done_aligned e

      k : ((tp_create s origin pool pages).root / 4096 ≡ pool / 4096 + book_pages pages)
          × WholeBytes (create_leaves s origin pool pages) (new_space origin (pool / 4096) pages) (new_role (new_space origin (pool / 4096) pages))
      k = rw (create_leaves_lem a) (create_whole s origin (pool / 4096) pages _ ((create_says a).done e))

      root_is : (tp_create s origin pool pages).root / 4096 ≡ pool / 4096 + book_pages pages
      root_is = k.0

      at_page : (tp_create s origin pool pages).root % 4096 ≡ 0
      at_page = rw (create_answers a) (root_page _)

      whole : WholeAt (create_leaves s origin pool pages) (new_numbers s origin pool pages)
      whole = record { aligned = record { pool = a; root = at_page }; role = new_role (new_space origin (pool / 4096) pages); whole = rw root_is k.1 }

      empty : (va : ℕ) → canonical va ≡ true → tp_look_up (create_leaves s origin pool pages) (new_numbers s origin pool pages) va ≡ nothing
      empty va u =
          looks (new_numbers s origin pool pages) whole.aligned (create_leaves s origin pool pages) va
          ∙ ap looked_up_to_c (rw root_is (nothing_yet k.1 va u)) ∙ nothing_is
