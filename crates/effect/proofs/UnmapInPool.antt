-- UNMAP, OF ANY BYTES: whatever it decides, it writes words of 64 bits to pages of the pool and nowhere else.
use Prim.Native.Nat.{ℕ, ◌+◌, ◌^◌, ◌<◌, ◌≤◌}
use mathlib.Core.Bool.{Bool, true, false, cond}
use mathlib.Core.List.{[], ◌∷◌}
use mathlib.Core.Path.{◌≡◌, refl, subst}
use native.Mathlib.Omega.{arith}
use borrow.Author.Tests.{leb-false}
use Rattle.std.proofs.Common.{Result, Ok, Err}
use Rattle.plan.specs.declared.Reason.{Reason as PlanReason}
use Rattle.pool.specs.declared.Reason.{Reason}
use lib.Dec.{leb, eqb}
use Rattle.word.specs.Writes.{write, Every, none}
use Rattle.word.proofs.Writes.{every_one, every_append}
use Rattle.walk.specs.Walk.{index_of}
use Rattle.walk.proofs.Digits.{index_lt}
use Rattle.pool.specs.Book.{opened_of}
use Rattle.pool.specs.Changes.{aside_writes}
use Rattle.pool.specs.Stands.{takes_of}
use Rattle.pool.specs.declared.Space.{Space}
use Rattle.pool.specs.declared.Book.{Book}
use Rattle.pool.specs.declared.Reason.TheVariants.{BadBook}
use Rattle.pool.proofs.Opening.{Fitting, names_shows}
use Rattle.pool.proofs.Proper.{aside_proper}
use Rattle.plan.specs.declared.Reason.TheVariants.{Pool}
use Rattle.plan.specs.declared.finding.PageEntry.{PageEntry}
use Rattle.plan.specs.declared.unmaps.Removal.{Removal}
use Rattle.plan.specs.Find.{find_of}
use Rattle.plan.specs.Map.{no_book}
use Rattle.plan.specs.Unmap.{emptied_of, booked_of, open_of, remove_of, removing_of, decide_of, book1, book2, cut_writes, writes_of}
use Rattle.plan.proofs.Found.{FoundAt, found_at}
use Rattle.effect.specs.OfPool.{OfPool}
use Rattle.effect.proofs.Emptying.{table_at, level_at_lem, emptied}
use Rattle.effect.proofs.MapInPool.{book_in_pool}
use Rattle.effect.proofs.WayInPool.{WayInPool, entry_in_pool}
use Rattle.effect.proofs.Wholes.{in_of_pool}

-- The decision ---------------------------------------------------------------------------------------------------------------------

-- WHAT A DECISION SHOWS: a page was found, and the tables that become empty lie below the root
pub record UnmapWent (h : ℕ → Bool) (m : ℕ → ℕ) (sp : Space) (va : ℕ) (r : Removal) : Type 0 where
  pub found : FoundAt h m sp va r.page
  pub below : (j : ℕ) → j < r.empties → j + r.page.way.level ≤ 2

module _ (h : ℕ → Bool) (m : ℕ → ℕ) (sp : Space) (va : ℕ) (r : Removal) where
  clash : ◌≡◌ {A = ℕ} 0 1 → UnmapWent h m sp va r
  clash z = absurd (omega arith)

  module _ (s : PageEntry) (n : ℕ) (f : FoundAt h m sp va s) (u : (j : ℕ) → j < n → j + s.way.level ≤ 2) where
    open_went : (x : Result Book Reason) → open_of sp s n x ≡ Ok r → UnmapWent h m sp va r
    unfolding open_of booked_of
    open_went (Err y) e = clash cc
    open_went (Ok b) e = go (takes_of sp b n) e
      where
        go : (t : Bool) → cond t (Ok (record { page = s; empties = n; book = b })) (Err (Pool BadBook)) ≡ Ok r → UnmapWent h m sp va r
        go false k = clash cc
        go true k =
            let same : record { page = s; empties = n; book = b } ≡ r = cc in
            subst (UnmapWent h m sp va) same (record { found = f; below = u })

    remove_went : remove_of h m sp s n ≡ Ok r → UnmapWent h m sp va r
    unfolding remove_of
    remove_went e = go (eqb n 0) e
      where
        go : (t : Bool) → cond t (Ok (record { page = s; empties = 0; book = no_book })) (open_of sp s n (opened_of h m sp)) ≡ Ok r → UnmapWent h m sp va r
        go true k =
            let same : record { page = s; empties = 0; book = no_book } ≡ r = cc in
            subst (UnmapWent h m sp va) same (record { found = f; below = λ j v. absurd (omega arith) })
        go false k = open_went (opened_of h m sp) k

  sought_went : (x : Result PageEntry PlanReason) → find_of h m sp va ≡ x → removing_of h m sp va x ≡ Ok r → UnmapWent h m sp va r
  unfolding removing_of
  sought_went (Err y) f e = clash cc
  sought_went (Ok s) f e =
      remove_went s (emptied_of h m va s.way) (found_at h m sp va s f)
      (λ j u. omega (arith, ((emptied h m va s.way).empty j u).0, level_at_lem s.way j)) e

  pub unmap_went : decide_of h m sp va ≡ Ok r → UnmapWent h m sp va r
  unfolding decide_of
  unmap_went e = sought_went (find_of h m sp va) refl e

-- The writes -----------------------------------------------------------------------------------------------------------------------

cut_in : {h : ℕ → Bool} (sp : Space) → Fitting h sp.first sp.pages → (k n parent index child : ℕ) (b : Book) → index < 512
    → (k < n → OfPool sp parent × (child < 2 ^ 64)) → Every (OfPool sp) (cut_writes sp k n parent index child b)
unfolding cut_writes
cut_in sp f k n parent index child b u v = go (leb n k) refl
  where
    go : (t : Bool) → leb n k ≡ t → Every (OfPool sp) (cond t [] (write parent index 0 ∷ aside_writes sp b child))
    go true e = none
    go false e =
        let o = v (leb-false n k e) in
        every_append (write parent index 0 ∷ []) _ (every_one parent index 0 o.0 u (omega arith)) (book_in_pool sp f _ (aside_proper sp b child o.1))

module _ {h : ℕ → Bool} {m : ℕ → ℕ} (sp : Space) (va : ℕ) (r : Removal) (k : UnmapWent h m sp va r) where
  through : WayInPool sp r.page.way.level r.page.way
  through = entry_in_pool k.found

  fits : Fitting h sp.first sp.pages
  fits = (names_shows h m sp k.found.names).fits

  -- a table that becomes empty, and the one above it
  emptied_in : (j : ℕ) → j < r.empties → OfPool sp (table_at r.page.way (j + 1)) × (table_at r.page.way j < 2 ^ 64)
  emptied_in j u =
      (in_of_pool (through.inside (j + 1) (omega (arith, k.below j u))), omega (arith, through.small j (k.below j u)))

  page_in : OfPool sp r.page.way.a
  page_in = in_of_pool (through.inside 0 (omega (arith, k.found.low)))

  went_in : Every (OfPool sp) (writes_of sp va r)
  unfolding writes_of
  went_in =
      every_append (write r.page.way.a (index_of r.page.way.level va) 0 ∷ []) _
      (every_one r.page.way.a (index_of r.page.way.level va) 0 page_in (index_lt r.page.way.level va) (omega arith))
      (every_append _ _ (cut_in sp fits 0 r.empties r.page.way.b (index_of (r.page.way.level + 1) va) r.page.way.a r.book (index_lt _ va) (emptied_in 0))
      (every_append _ _ (cut_in sp fits 1 r.empties r.page.way.c (index_of (r.page.way.level + 2) va) r.page.way.b (book1 sp r) (index_lt _ va) (emptied_in 1))
      (cut_in sp fits 2 r.empties r.page.way.d (index_of (r.page.way.level + 3) va) r.page.way.c (book2 sp r) (index_lt _ va) (emptied_in 2))))

-- UNMAP WRITES TO THE POOL
pub unmap_in_pool : (h : ℕ → Bool) (m : ℕ → ℕ) (sp : Space) (va : ℕ) (r : Removal) → decide_of h m sp va ≡ Ok r → Every (OfPool sp) (writes_of sp va r)
unmap_in_pool h m sp va r e = went_in sp va r (unmap_went h m sp va r e)
