-- CREATE ESTABLISHES THE INVARIANT, for any bytes; and there is a pool for which it does.
use Rattle.std.proofs.Common.{◌≡◌, ℕ, ◌+◌, ◌-◌, ◌*◌, ◌<◌, ◌≤◌, true, List, [], ◌∷◌, length, replicate, refl, arith, Result, Ok, Err}
use Rattle.pool.specs.declared.Reason.{Reason}
use lib.ListN.{length-replicate}
use Rattle.word.specs.Memory.{memory, holds}
use Rattle.word.specs.Writes.{Write, after, carried, zeros, Every}
use Rattle.word.proofs.Writes.{every_append, every_map, every_zeros, holds_carried, memory_carried}
use Rattle.tables.specs.Roles as tables
use Rattle.pool.specs.declared.Space.{Space}
use Rattle.pool.specs.Layout.{signature_at, head_at, header_words, slot_at, count_at, book_pages}
use Rattle.pool.specs.Book.{word_of, signature, room_of}
use Rattle.pool.specs.Changes.{put}
use Rattle.pool.specs.Create.{may_create, new_space, fills, blanks, bared, slots, header_writes, new_free, lay_out, Roomy, created_of, created_in, create_writes, create_in}
use Rattle.pool.specs.Booked.{setting_of, Booked, Alone, new_role}
use Rattle.pool.proofs.Opening.{Fitting, may_fit, fit_small, fit_inside, roomy}
use Rattle.pool.proofs.Proper.{OfBook, fills_proper, rest_proper, header_writes_proper, mark_proper}
use Rattle.pool.proofs.Rows.{unmarks_proper}
use Rattle.pool.proofs.NewRoles.{New, new_sound}
use Rattle.pool.proofs.Fresh.{laid_booked, laid_alone, laid_rest, laid_counts, laid_root}

-- every write of a layout goes to the pool
pub laid_proper : (sp : Space) → Roomy sp → New sp → Every (λ p. (sp.first ≤ p) × (p < sp.first + sp.pages)) (lay_out sp)
unfolding lay_out bared slots
laid_proper sp r n =
    every_append (bared sp (new_free sp)) _
    (every_append (put sp signature_at 0 ∷ []) _ (wide (put sp signature_at 0 ∷ []) (mark_proper sp 0 (omega arith)))
    (unmarks_proper (sp.root + 1) (new_free sp) (λ q u v. (omega (arith, n.behind), omega (arith, n.behind, r.enough)))))
    (every_append (slots sp (new_free sp)) _
    (every_append (fills sp (sp.root + 1) (new_free sp)) _
    (wide (fills sp (sp.root + 1) (new_free sp)) (fills_proper sp (sp.root + 1) (new_free sp) (omega arith) (omega (arith, r.small, r.low))))
    (wide (blanks sp (slot_at (new_free sp)) (2 * sp.pages - new_free sp)) (rest_proper sp (new_free sp) (omega arith))))
    (every_append (header_writes sp (new_free sp)) _
    (wide (header_writes sp (new_free sp)) (header_writes_proper sp (new_free sp) (omega (arith, r.small)) (omega (arith, r.low)) (omega (arith, r.small))))
    (every_append (zeros sp.root 512) _
    (every_zeros sp.root 512 (omega (arith, n.behind), omega (arith, n.behind, r.enough)) (omega arith))
    (wide (put sp signature_at signature ∷ []) (mark_proper sp signature (omega arith))))))
  where
    wide : (xs : List Write) → Every (OfBook sp) xs → Every (λ p. (sp.first ≤ p) × (p < sp.first + sp.pages)) xs
    wide xs h = every_map (λ p k. (k.0, omega (arith, k.1, r.enough))) xs h

-- tables that were built, with a true book, in these bytes; every page behind the root is free, and what later requests keep in the book is 0
pub record NewPool (s : List ℕ) (sp : Space) : Type 0 where
  pub sound : tables.Sound (setting_of (holds s sp.origin) sp) (memory s sp.origin) (new_role sp)
  pub booked : Booked sp (memory s sp.origin) (new_role sp)
  pub alone : Alone sp (memory s sp.origin)
  pub rest : (k : ℕ) → head_at < k → k < header_words → memory s sp.origin (word_of sp k) ≡ 0
  pub counts : (k : ℕ) → k < sp.pages → memory s sp.origin (word_of sp (count_at sp.pages k)) ≡ 0

module _ (s : List ℕ) (origin first pages : ℕ) where
  pub fit_fresh : may_create (length s) (holds s origin) origin first pages ≡ Ok tt → NewPool (carried s origin (lay_out (new_space origin first pages))) (new_space origin first pages)
  fit_fresh e = record {
    sound =
        rw (holds_carried s origin (lay_out sp), bytes)
        (new_sound n (holds s origin) (after (memory s origin) (lay_out sp)) (omega (arith, fit_small s origin first pages f, f.enough)) window (laid_root (memory s origin) sp r n));
    booked = rw bytes (laid_booked (memory s origin) sp r n);
    alone = rw bytes (laid_alone (memory s origin) sp r n);
    rest = rw bytes (laid_rest (memory s origin) sp r n);
    counts = rw bytes (laid_counts (memory s origin) sp r n);
  }
    where
      sp : Space
      sp = new_space origin first pages

      f : Fitting (holds s origin) first pages
      f = may_fit (length s) (holds s origin) origin first pages e

      r : Roomy sp
      r = roomy s origin first pages f

      n : New sp
      n = record { enough = f.enough; behind = refl }

      window : (p : ℕ) → first ≤ p → p < first + pages → holds s origin p ≡ true
      window = fit_inside s origin first pages f

      bytes : memory (carried s origin (lay_out sp)) origin ≡ after (memory s origin) (lay_out sp)
      bytes = memory_carried s origin (lay_out sp) (every_map (λ p k. window p k.0 k.1) (lay_out sp) (laid_proper sp r n))

  -- WHAT CREATE HAS MADE, by its answer: the bytes that it leaves hold an empty root and a true book
  pub create_makes : (p : ℕ) → created_of (length s) (holds s origin) origin first pages ≡ Ok p
      → (p ≡ first + book_pages pages) × NewPool (carried s origin (create_writes (length s) (holds s origin) origin first pages)) (new_space origin first pages)
  unfolding created_of created_in create_writes create_in
  create_makes p e = go (may_create (length s) (holds s origin) origin first pages) refl e
    where
      go : (r : Result (Unit {0}) Reason) → may_create (length s) (holds s origin) origin first pages ≡ r → created_in first pages r ≡ Ok p
          → (p ≡ first + book_pages pages) × NewPool (carried s origin (create_in (new_space origin first pages) r)) (new_space origin first pages)
      go (Ok tt) f e = (cc, fit_fresh f)
      go (Err r) f e = let z : ◌≡◌ {A = ℕ} 0 1 = cc in absurd (omega arith)

fits_three : (s : List ℕ) → length s ≡ 12288 → may_create (length s) (holds s 0) 0 0 3 ≡ Ok tt
unfolding may_create room_of holds book_pages
fits_three s e = rw e

-- A WITNESS: any three pages at address 0, of zeros for one, become a pool of three pages, one of them free
pub three_pages : (s : List ℕ) → length s ≡ 12288 → NewPool (carried s 0 (lay_out (new_space 0 0 3))) (new_space 0 0 3)
three_pages s e = fit_fresh s 0 0 3 (fits_three s e)

pub three_zero_pages : NewPool (carried (replicate {A = ℕ} 12288 0) 0 (lay_out (new_space 0 0 3))) (new_space 0 0 3)
three_zero_pages = three_pages (replicate {A = ℕ} 12288 0) (length-replicate {A = ℕ} 12288 0)
