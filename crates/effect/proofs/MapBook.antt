-- The book after map: writes behind it leave it as it was, and then it says which pages were taken.
use Prim.Native.Nat.{ℕ, zero, suc, ◌+◌, ◌<◌, ◌≤◌}
use mathlib.Core.Bool.{Bool, true, false, cond}
use mathlib.Core.List.{List, [], ◌++◌}
use mathlib.Core.Logic.{inr}
use mathlib.Core.Path.{◌≡◌, ap, ◌∙◌, fun_ext}
use native.Mathlib.Omega.{arith}
use borrow.Author.Tests.{lt-ltb}
use lib.Dec.{ltb}
use Rattle.word.specs.Writes.{Write, after, Every, none}
use Rattle.word.proofs.Writes.{every_map, after_append}
use Rattle.tables.specs.Roles.{Role}
use Rattle.pool.specs.Layout.{book_pages}
use Rattle.pool.specs.Book.{book_of, page_at}
use Rattle.pool.specs.Booked.{Booked, Taken}
use Rattle.pool.specs.Changes.{took_writes}
use Rattle.pool.specs.declared.Book.{Book}
use Rattle.pool.specs.declared.Space.{Space}
use Rattle.pool.proofs.Booked.{Beside, same_beside, book_beside, page_beside, booked_beside}
use Rattle.pool.proofs.Proper.{OfBook, took_proper}
use Rattle.pool.proofs.Taking.{took_booked, took_book}
use Rattle.effect.specs.Numbers.{KeepsNumbers}
use Rattle.effect.proofs.Numbers.{keeps_self, keeps_then, same_keeps, took_keeps}

-- what is written to the book
abbrev pub book_writes : Space → Book → ℕ → List Write
book_writes sp y need = cond (ltb 0 need) (took_writes sp y need) []

pub book_writes_proper : (sp : Space) (y : Book) (need : ℕ) → Every (OfBook sp) (book_writes sp y need)
book_writes_proper sp y need = go (ltb 0 need)
  where
    go : (b : Bool) → Every (OfBook sp) (cond b (took_writes sp y need) [])
    go true = took_proper sp y need
    go false = none

taken_same : {f f' : ℕ → ℕ} {k : ℕ} {role role' : ℕ → Role} → ((j : ℕ) → j < k → f' j ≡ f j) → Taken f k role role' → Taken f' k role role'
taken_same e t = record {
  tables = λ j u. rw (e j u) (t.tables j u);
  stays = λ p h. t.stays p (λ j u x. h j u (e j u ∙ x));
}

module _ {sp : Space} {m : ℕ → ℕ} {role : ℕ → Role} (b : Booked sp m role) (xs : List Write) (behind : Every (λ q. sp.first + book_pages sp.pages ≤ q) xs) where
  beside : Every (Beside sp) xs
  beside = every_map (λ q v. inr v) xs behind

  book_stays : book_of (after m xs) sp ≡ book_of m sp
  book_stays = book_beside sp m xs beside

  free_stays : (book_of (after m xs) sp).free ≡ (book_of m sp).free
  free_stays = ap (λ (x : Book). x.free) book_stays

  still : Booked sp (after m xs) role
  still = booked_beside sp m xs beside b

  -- THE BOOK TELLS THE TRUTH AFTERWARDS
  pub took_behind : {role' : ℕ → Role} (need : ℕ) (y : Book) → need ≤ (book_of m sp).free → (0 < need → y ≡ book_of m sp) → Taken (page_at m sp) need role role'
      → Booked sp (after m (xs ++ book_writes sp y need)) role'
  unfolding after
  took_behind {role'} need y u e t = rw (after_append m xs (book_writes sp y need)) (go need u e t)
    where
      go : (n : ℕ) → n ≤ (book_of m sp).free → (0 < n → y ≡ book_of m sp) → Taken (page_at m sp) n role role' → Booked sp (after (after m xs) (book_writes sp y n)) role'
      go zero v f k =
          let same : role' ≡ role = fun_ext (λ p. k.stays p (λ j x. absurd (omega arith))) in
          rw same still
      go (suc n) v f k =
          rw (lt-ltb 0 (suc n) (omega arith), f (omega arith), ← book_stays)
          (took_booked still (suc n) (omega (arith, free_stays)) (taken_same (λ j x. page_beside sp m xs beside b j (omega arith)) k))

  -- and the pages that are set aside keep their numbers
  pub took_behind_keeps : (need : ℕ) (y : Book) → need ≤ (book_of m sp).free → (0 < need → y ≡ book_of m sp) → KeepsNumbers sp m (after m (xs ++ book_writes sp y need))
  unfolding after
  took_behind_keeps need y u e = rw (after_append m xs (book_writes sp y need)) (keeps_then (same_keeps b (same_beside sp m xs beside)) (go need u e))
    where
      go : (n : ℕ) → n ≤ (book_of m sp).free → (0 < n → y ≡ book_of m sp) → KeepsNumbers sp (after m xs) (after (after m xs) (book_writes sp y n))
      go zero v f = keeps_self sp (after m xs)
      go (suc n) v f =
          rw (lt-ltb 0 (suc n) (omega arith), f (omega arith), ← book_stays)
          (took_keeps still (suc n) (omega (arith, free_stays)))

  -- THE COUNTS: so many free pages fewer, as many set aside
  pub took_behind_counts : (need : ℕ) (y : Book) → need ≤ (book_of m sp).free → (0 < need → y ≡ book_of m sp)
      → ((book_of m sp).free ≡ (book_of (after m (xs ++ book_writes sp y need)) sp).free + need) × ((book_of (after m (xs ++ book_writes sp y need)) sp).aside ≡ (book_of m sp).aside)
  unfolding after
  took_behind_counts need y u e = rw (after_append m xs (book_writes sp y need)) (go need u e)
    where
      go : (n : ℕ) → n ≤ (book_of m sp).free → (0 < n → y ≡ book_of m sp)
          → ((book_of m sp).free ≡ (book_of (after (after m xs) (book_writes sp y n)) sp).free + n) × ((book_of (after (after m xs) (book_writes sp y n)) sp).aside ≡ (book_of m sp).aside)
      go zero v f = (omega (arith, free_stays), ap (λ (x : Book). x.aside) book_stays)
      go (suc n) v f =
          let k = took_book still (suc n) (omega (arith, free_stays)) in
          rw (lt-ltb 0 (suc n) (omega arith), f (omega arith), ← book_stays)
          (omega (arith, ap (λ (x : Book). x.free) k, free_stays), ap (λ (x : Book). x.aside) k ∙ ap (λ (x : Book). x.aside) book_stays)
