-- A CELL THAT A WALK READ is read by that walk still, or it is frozen: so from the moment on that no walk reads it, nothing writes it.
use mathlib.Core.Path.{◌≡◌, refl, sym, subst}
use mathlib.Core.List.{List, [], ◌∷◌}
use mathlib.Core.Logic.{◌⊎◌, inl, inr}
use Prim.Native.Nat.{ℕ, zero, suc}
use Rattle.word.specs.Memory.{set}
use Rattle.world.specs.Events.{Event, write, mark, store, happen, after}
use Rattle.world.proofs.Events.{mark_same}
use Rattle.world.specs.Walker.{Walker, WalkerLaws, cell, Reads, ReadsIn, On, here}
use Rattle.world.proofs.Ways.{on_step, on_follows, on_same, on_write, below_reads}
use Rattle.world.specs.Discipline.{Grow, Safe}
use Rattle.world.specs.Rules.{frozen}
use Rattle.world.specs.Frozen.{SomeReads}
use Rattle.world.proofs.Frozen.{frozen_keeps}

module _ {Word View Address Place Answer : Type 0} (W : Walker Word View Address Place Answer) (L : WalkerLaws W) where
  open W use {see, start, left, reads, step}
  open L use {falls}

  -- the walk of va comes to a place where it reads x
  record ReadsAt (m : ℕ → Word) (va : Address) (x : ℕ) : Type 0 where
    place : Place
    more : ℕ
    more_left : left place ≡ suc more
    on : On W m va place (start va)
    reads_it : reads va place ≡ cell x

  reads_at : (m : ℕ → Word) (va : Address) (x : ℕ) → Reads W m va (start va) x → ReadsAt m va x
  unfolding ReadsIn
  reads_at m va x = go (left (start va)) (start va) refl here
    where
      go : (k : ℕ) (p : Place) → left p ≡ k → On W m va p (start va) → ReadsIn W m va k p x → ReadsAt m va x
      go zero p e o r = absurd r
      go (suc k) p e o (inl f) = record { place = p; more = k; more_left = e; on = o; reads_it = f }
      go (suc k) p e o (inr r) = go k (step m va p) (falls m va p k e) (on_step W L m va p (start va) o) r

  -- it reads x there
  reads_next : (m n : ℕ → Word) (va : Address) (x : ℕ) (t : ReadsAt m va x) → Reads W n va t.place x
  unfolding ReadsIn
  reads_next m n va x t = subst (λ k. ReadsIn W n va k t.place x) (sym t.more_left) (inl t.reads_it)

  moved : (m n : ℕ → Word) (va : Address) (x : ℕ) (t : ReadsAt m va x) → On W n va t.place (start va) → ReadsAt n va x
  moved m n va x t o = record { place = t.place; more = t.more; more_left = t.more_left; on = o; reads_it = t.reads_it }

  still_read : (es : List (Event Word)) (F : ℕ → Type 0) (m : ℕ → Word) (va : Address) (x : ℕ) → Safe W F m es → ReadsAt m va x → ReadsAt (after m es) va x ⊎ frozen W F m es x
  unfolding Safe after happen frozen
  still_read [] F m va x s t = inl t
  still_read (mark a v ∷ es) F m va x s t =
      still_read es F (set m a v) va x s.1 (moved m (set m a v) va x t (on_same W L m (set m a v) va t.place (start va) (mark_same see m a v s.0) t.on))
  still_read (write a v ∷ es) F m va x s t = elim (on_write W L m a v va t.place (start va) t.on) [
    | inl o ↦ still_read es (Grow W F m a) (set m a v) va x s.1 (moved m (set m a v) va x t o)
    | inr c ↦ inr (frozen_keeps W L es (Grow W F m a) (set m a v) x (inr (va, c x (reads_next m m va x t))))
  ]
  still_read (store a v ∷ es) F m va x s t = elim (on_write W L m a v va t.place (start va) t.on) [
    | inl o ↦ still_read es F (set m a v) va x s.2 (moved m (set m a v) va x t o)
    | inr c ↦ absurd (s.1 va (below_reads W L m va (left (start va)) (start va) a x (c x (reads_next m m va x t))))
  ]

  -- READ, OR FROZEN
  pub read_or_frozen : (es : List (Event Word)) (F : ℕ → Type 0) (m : ℕ → Word) (x : ℕ) → Safe W F m es → SomeReads W x m
      → SomeReads W x (after m es) ⊎ frozen W F m es x
  read_or_frozen es F m x s r = elim (still_read es F m r.0 x s (reads_at m r.0 x r.1)) [
    | inl t ↦ inl (r.0, (on_follows W L (after m es) r.0 t.place (start r.0) t.on).within x (reads_next (after m es) (after m es) r.0 x t))
    | inr f ↦ inr f
  ]
