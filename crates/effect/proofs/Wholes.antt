-- What a space that is whole shows: the way in it, its book, and what writes leave.
use Prim.Native.Nat.{ℕ, suc, ◌^◌, ◌<◌}
use mathlib.Core.Bool.{Bool, true}
use mathlib.Core.List.{List}
use mathlib.Core.Logic.{inr}
use mathlib.Core.Path.{◌≡◌}
use native.Mathlib.Omega.{arith}
use Rattle.std.proofs.Common.{Ok}
use Rattle.word.specs.Writes.{Write, Every}
use Rattle.word.proofs.Writes.{every_map}
use Rattle.walk.specs.Walk.{canonical}
use Rattle.tables.specs.Roles.{Role, left}
use Rattle.tables.proofs.Clearing.{Spare, book_spare}
use Rattle.pool.specs.Book.{book_of, names_of, opened_of}
use Rattle.pool.specs.Booked.{setting_of, Booked, Owned}
use Rattle.pool.specs.declared.Space.{Space}
use Rattle.pool.proofs.Counting.{InPool, pool_in}
use Rattle.pool.proofs.Booked.{Beside}
use Rattle.pool.proofs.Listing.{booked_names, booked_opens}
use Rattle.pool.proofs.Pages.{built_owned}
use Rattle.pool.proofs.Proper.{OfBook}
use Rattle.effect.specs.OfPool.{OfPool}
use Rattle.plan.specs.Descend.{way_of}
use Rattle.effect.specs.Whole.{Whole}
use Rattle.plan.proofs.Standing.{stands}
use Rattle.effect.proofs.Trace.{Traced, traced, live_in_pool}

module _ {h : ℕ → Bool} {sp : Space} {m : ℕ → ℕ} {role : ℕ → Role} (w : Whole h sp m role) where
  pub root_in : InPool sp sp.root
  root_in = pool_in sp sp.root (stands h sp w.stands).root

  pub root_low : sp.root < 2 ^ 40
  root_low = omega (arith, w.small, root_in.before_end)

  -- the way to a page, in a space that is whole
  pub way_traced : (va : ℕ) → canonical va ≡ true → Traced (setting_of h sp) m va 4 (way_of h m sp va 4)
  way_traced va u = traced w.sound.built w.booked va 4 u root_low (inr (omega arith))

  pub owned : Owned sp role
  owned = built_owned h sp m role root_low w.sound.built

  -- its book names it, and opens
  pub book_names : names_of h m sp ≡ Ok tt
  book_names = booked_names w.booked owned h (stands h sp w.stands).fits

  pub book_opens : opened_of h m sp ≡ Ok (book_of m sp)
  book_opens = booked_opens w.booked owned h (stands h sp w.stands).fits

  -- a table lies in the pool behind the book, and in the window
  pub live_in : {q l : ℕ} → left (role q) ≡ suc l → InPool sp q
  live_in {q} e = pool_in sp q (live_in_pool w.sound.built w.booked e).0

  pub live_held : {q l : ℕ} → left (role q) ≡ suc l → h q ≡ true
  live_held e = (live_in_pool w.sound.built w.booked e).1

  -- every page of the pool lies in the window, so that what is proved of memory holds of the bytes
  pub pool_held : (q : ℕ) → OfPool sp q → h q ≡ true
  pool_held q u = (w.sound.built.home q (w.sound.built.whole q u.0 u.1)).held

  pub every_held : (xs : List Write) → Every (OfPool sp) xs → Every (λ q. h q ≡ true) xs
  every_held = every_map pool_held

-- Pages ---------------------------------------------------------------------------------------------------------------------------

-- a page of the pool that is not the book's
pub in_beside : {sp : Space} {q : ℕ} → InPool sp q → Beside sp q
in_beside i = inr i.behind

pub in_of_pool : {sp : Space} {q : ℕ} → InPool sp q → OfPool sp q
in_of_pool i = (omega (arith, i.behind), i.before_end)

-- the book lies in the pool, and no walk comes to it
pub book_of_pool : {sp : Space} {m : ℕ → ℕ} {role : ℕ → Role} → Booked sp m role → (xs : List Write) → Every (OfBook sp) xs → Every (OfPool sp) xs
book_of_pool b xs = every_map (λ q u. (u.0, omega (arith, u.1, b.sound.room))) xs

pub book_spares : {sp : Space} {m : ℕ → ℕ} {role : ℕ → Role} → Booked sp m role → (xs : List Write) → Every (OfBook sp) xs → Every (Spare role) xs
book_spares {role = role} b xs = every_map (λ q u. book_spare role q (b.in_book q u.0 u.1)) xs
