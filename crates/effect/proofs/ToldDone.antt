-- TOLD, DONE: the report of a ticket releases exactly the pages whose number is below it, and no walk sees it.
use Prim.Native.Nat.{ℕ}
use mathlib.Core.Bool.{Bool}
use mathlib.Core.List.{List}
use mathlib.Core.Path.{◌≡◌, sym, ap, ◌∙◌}
use native.Mathlib.Omega.{arith}
use Rattle.std.proofs.Common.{Ok}
use Rattle.word.specs.Writes.{Write, after, Every}
use Rattle.tables.specs.Roles.{Role, left, Sound}
use Rattle.tables.proofs.Clearing.{LeavesTables, spare_untouched, untouched_holds}
use Rattle.tables.proofs.Unseen.{shift_sound}
use Rattle.pool.proofs.Alone.{alone_after, release_unmarking}
use Rattle.pool.specs.Book.{book_of, due_of}
use Rattle.pool.specs.Booked.{setting_of, Booked, released}
use Rattle.pool.specs.Changes.{release_writes}
use Rattle.pool.specs.declared.Space.{Space}
use Rattle.pool.proofs.Proper.{OfBook, release_proper}
use Rattle.pool.proofs.Lists.{thawed_stays}
use Rattle.pool.proofs.Releasing.{Exactly, due_exactly, release_booked, release_shifted, release_frees, release_keeps, release_stays}
use Rattle.effect.specs.ToldDone.{ToldDone}
use Rattle.effect.specs.Whole.{Whole}
use Rattle.effect.proofs.Wholes.{book_of_pool, book_spares}

module _ {h : ℕ → Bool} {sp : Space} {m : ℕ → ℕ} {role : ℕ → Role} (w : Whole h sp m role) (t k : ℕ) (x : Exactly (book_of m sp) t k) where
  ys : List Write
  ys = release_writes sp (book_of m sp) k

  role' : ℕ → Role
  role' = released m sp k role

  ys_book : Every (OfBook sp) ys
  unfolding ys
  ys_book = release_proper sp (book_of m sp) k

  booked : Booked sp (after m ys) role'
  unfolding ys role'
  booked = release_booked w.booked k x.enough x.early

  shifted : Sound (setting_of h sp) m role'
  unfolding role'
  shifted = shift_sound role (released m sp k role) (release_shifted w.booked k x.enough) w.sound

  -- no walk comes to the book, by the roles before or after
  before : LeavesTables (setting_of h sp) m role ys
  before = spare_untouched ys w.sound.built (book_spares w.booked ys ys_book)

  still : LeavesTables (setting_of h sp) m role' ys
  still = spare_untouched ys shifted.built (book_spares booked ys ys_book)

  released_by : ToldDone h sp m role t k
  unfolding ys role'
  released_by = record {
    whole = record {
      stands = w.stands;
      small = w.small;
      sound = record { built = still.built; filled = λ p l q i e. untouched_holds still p l (ap left e) (shifted.filled p l q i e) };
      booked = booked;
      alone = alone_after sp m (release_writes sp (book_of m sp) k) (release_unmarking sp (book_of m sp) k) w.alone;
    };
    same = before.same;
    quiet = before.quiet;
    obeys = before.obeys;
    proper = book_of_pool w.booked ys ys_book;
    enough = x.enough;
    frees = λ p n e u. release_frees w.booked k x.enough p n e (x.below n (omega (arith, e.3)) u);
    stays = λ p n e u.
        let v = x.above n u (omega (arith, e.3)) in
        (release_stays w.booked k x.enough p n e v, release_keeps w.booked k x.enough p n e v);
    others = λ p d. thawed_stays _ _ k role p (λ j u e. d (ap role (sym e) ∙ w.booked.lists.asides j (omega (arith, x.enough))));
  }

-- TOLD, DONE
pub told : {h : ℕ → Bool} {sp : Space} {m : ℕ → ℕ} {role : ℕ → Role} → Whole h sp m role → (t k : ℕ) → due_of (book_of m sp) t ≡ Ok k → ToldDone h sp m role t k
told {sp = sp} {m} w t k e = released_by w t k (due_exactly sp.pages (book_of m sp) t k w.booked.sound e)
