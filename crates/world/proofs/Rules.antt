-- How an operation shows that its writes keep the discipline: rules for one write, and for lists.
use mathlib.Core.Path.{◌≡◌, refl}
use mathlib.Core.List.{List, [], ◌∷◌, ◌++◌}
use mathlib.Core.Logic.{inl, inr}
use Prim.Native.Nat.{ℕ}
use Rattle.word.specs.Memory.{set}
use Rattle.world.specs.Events.{Event, write, mark, store, happen, after}
use Rattle.world.specs.Walker.{Walker, WalkerLaws, cell, Reads, On}
use Rattle.world.proofs.Ways.{below_agree, below_reads, below_parting}
use Rattle.world.specs.Discipline.{Cuts, Grow, Safe}
use Rattle.world.specs.Rules.{frozen, Obeys}

module _ {Word View Address Place Answer : Type 0} (W : Walker Word View Address Place Answer) where
  open W use {see, start}

  -- the two memories show the same where walks read
  abbrev pub Shows : (m m' : ℕ → Word) → Type 0
  Shows m m' = (va : Address) (x : ℕ) → Reads W m va (start va) x → see (m' x) ≡ see (m x)

module _ {Word View Address Place Answer : Type 0} (W : Walker Word View Address Place Answer) (L : WalkerLaws W) where
  open W use {start, left, reads, step}

  -- Fewer frozen cells, in a memory that shows the same, are fewer after a write.
  pub grow_less : (F G : ℕ → Type 0) (m m' : ℕ → Word) (a : ℕ) → ((x : ℕ) → F x → G x) → Shows W m m' → (x : ℕ) → Grow W F m' a x → Grow W G m a x
  grow_less F G m m' a h s x (inl f) = inl (h x f)
  grow_less F G m m' a h s x (inr c) = inr (c.0, below_agree W L m m' c.0 (left (start c.0)) (start c.0) (s c.0) a x c.1)

  pub safe_less : (es : List (Event Word)) (F G : ℕ → Type 0) (m : ℕ → Word) → ((x : ℕ) → F x → G x) → Safe W G m es → Safe W F m es
  unfolding Safe
  safe_less [] F G m h s = tt
  safe_less (write a v ∷ es) F G m h s =
      let g = grow_less F G m m a h (λ va x r. refl) in
      (λ p. s.0 (g a p), safe_less es (Grow W F m a) (Grow W G m a) (set m a v) g s.1)
  safe_less (mark a v ∷ es) F G m h s = (s.0, safe_less es F G (set m a v) h s.1)
  safe_less (store a v ∷ es) F G m h s = (λ f. s.0 (h a f), s.1, safe_less es F G (set m a v) h s.2)

  frozen_less : (es : List (Event Word)) (F G : ℕ → Type 0) (m : ℕ → Word) → ((x : ℕ) → F x → G x) → (x : ℕ) → frozen W F m es x → frozen W G m es x
  unfolding frozen
  frozen_less [] F G m h = h
  frozen_less (write a v ∷ es) F G m h = frozen_less es (Grow W F m a) (Grow W G m a) (set m a v) (grow_less F G m m a h (λ va x r. refl))
  frozen_less (mark a v ∷ es) F G m h = frozen_less es F G (set m a v) h
  frozen_less (store a v ∷ es) F G m h = frozen_less es F G (set m a v) h

  -- Fewer cells frozen before, more cells allowed after.
  pub obeys_weaken : (es : List (Event Word)) (F F' G G' : ℕ → Type 0) (m : ℕ → Word) → ((x : ℕ) → F x → F' x) → ((x : ℕ) → G' x → G x)
      → Obeys W F' m es G' → Obeys W F m es G
  obeys_weaken es F F' G G' m f g o = record { safe = safe_less es F F' m f o.safe; within = λ x p. g x (o.within x (frozen_less es F F' m f x p)) }

  -- No write.
  pub obeys_nil : (F : ℕ → Type 0) (m : ℕ → Word) → Obeys W F m [] F
  unfolding Safe frozen
  obeys_nil F m = record { safe = tt; within = λ x p. p }

  -- One write, by any G that has what is frozen and what the write cuts off, and not the written cell.
  pub obeys_write : (F G K : ℕ → Type 0) (m : ℕ → Word) (a : ℕ) (v : Word) (es : List (Event Word))
      → ((x : ℕ) → F x → G x) → ((x : ℕ) → Cuts W m a x → G x) → ¬ G a → Obeys W G (set m a v) es K → Obeys W F m (write a v ∷ es) K
  unfolding Safe frozen
  obeys_write F G K m a v es f c n o = record { safe = (λ p. n (g a p), r.safe); within = r.within }
    where
      g : (x : ℕ) → Grow W F m a x → G x
      g x (inl p) = f x p
      g x (inr p) = c x p

      r : Obeys W (Grow W F m a) (set m a v) es K
      r = obeys_weaken es (Grow W F m a) G K K (set m a v) g (λ x p. p) o

  -- A write that cuts: each walk that reads the cell reads, from there on, only cells that are frozen now.
  pub obeys_cuts : (F G K : ℕ → Type 0) (m : ℕ → Word) (a : ℕ) (v : Word) (es : List (Event Word)) → ((x : ℕ) → F x → G x)
      → ((va : Address) (p : Place) → On W m va p (start va) → reads va p ≡ cell a → (x : ℕ) → Reads W m va (step m va p) x → G x)
      → ¬ G a → Obeys W G (set m a v) es K → Obeys W F m (write a v ∷ es) K
  obeys_cuts F G K m a v es f c n o =
      obeys_write F G K m a v es f
      (λ x d. let t = below_parting W L m d.0 (start d.0) a x d.1 in c d.0 t.place t.on t.reads_it x t.reads_on) n o

  -- A write that cuts nothing: each walk that reads the cell reads nothing from there on.
  pub obeys_ends : (F K : ℕ → Type 0) (m : ℕ → Word) (a : ℕ) (v : Word) (es : List (Event Word))
      → ((va : Address) (p : Place) → On W m va p (start va) → reads va p ≡ cell a → (x : ℕ) → ¬ Reads W m va (step m va p) x)
      → ¬ F a → Obeys W F (set m a v) es K → Obeys W F m (write a v ∷ es) K
  obeys_ends F K m a v es c = obeys_cuts F F K m a v es (λ x p. p) (λ va p i e x r. absurd (c va p i e x r))

  -- A write of a cell that no walk reads.
  pub obeys_unseen : (F K : ℕ → Type 0) (m : ℕ → Word) (a : ℕ) (v : Word) (es : List (Event Word))
      → ((va : Address) → ¬ Reads W m va (start va) a) → ¬ F a → Obeys W F (set m a v) es K → Obeys W F m (write a v ∷ es) K
  obeys_unseen F K m a v es u =
      obeys_write F F K m a v es (λ x p. p) (λ x d. absurd (u d.0 (below_reads W L m d.0 (left (start d.0)) (start d.0) a x d.1)))

  safe_append : (es fs : List (Event Word)) (F : ℕ → Type 0) (m : ℕ → Word) → Safe W F m es → Safe W (frozen W F m es) (after m es) fs → Safe W F m (es ++ fs)
  unfolding Safe frozen after happen
  safe_append [] fs F m s t = t
  safe_append (write a v ∷ es) fs F m s t = (s.0, safe_append es fs (Grow W F m a) (set m a v) s.1 t)
  safe_append (mark a v ∷ es) fs F m s t = (s.0, safe_append es fs F (set m a v) s.1 t)
  safe_append (store a v ∷ es) fs F m s t = (s.0, s.1, safe_append es fs F (set m a v) s.2 t)

  frozen_append : (es fs : List (Event Word)) (F : ℕ → Type 0) (m : ℕ → Word) (x : ℕ) → frozen W F m (es ++ fs) x → frozen W (frozen W F m es) (after m es) fs x
  unfolding frozen after happen
  frozen_append [] fs F m x p = p
  frozen_append (write a v ∷ es) fs F m x p = frozen_append es fs (Grow W F m a) (set m a v) x p
  frozen_append (mark a v ∷ es) fs F m x p = frozen_append es fs F (set m a v) x p
  frozen_append (store a v ∷ es) fs F m x p = frozen_append es fs F (set m a v) x p

  -- One list after the other.
  pub obeys_append : (es fs : List (Event Word)) (F G K : ℕ → Type 0) (m : ℕ → Word) → Obeys W F m es G → Obeys W G (after m es) fs K → Obeys W F m (es ++ fs) K
  obeys_append es fs F G K m p q =
      let r = obeys_weaken fs (frozen W F m es) G K K (after m es) p.within (λ x u. u) q in
      record { safe = safe_append es fs F m p.safe r.safe; within = λ x u. r.within x (frozen_append es fs F m x u) }

  -- What is left of a list that keeps the discipline keeps it, with the cells frozen that are frozen by then.
  pub safe_rest : (es fs : List (Event Word)) (F : ℕ → Type 0) (m : ℕ → Word) → Safe W F m (es ++ fs) → Safe W (frozen W F m es) (after m es) fs
  unfolding Safe frozen after happen
  safe_rest [] fs F m s = s
  safe_rest (write a v ∷ es) fs F m s = safe_rest es fs (Grow W F m a) (set m a v) s.1
  safe_rest (mark a v ∷ es) fs F m s = safe_rest es fs F (set m a v) s.1
  safe_rest (store a v ∷ es) fs F m s = safe_rest es fs F (set m a v) s.2

  pub safe_first : (es fs : List (Event Word)) (F : ℕ → Type 0) (m : ℕ → Word) → Safe W F m (es ++ fs) → Safe W F m es
  unfolding Safe
  safe_first [] fs F m s = tt
  safe_first (write a v ∷ es) fs F m s = (s.0, safe_first es fs (Grow W F m a) (set m a v) s.1)
  safe_first (mark a v ∷ es) fs F m s = (s.0, safe_first es fs F (set m a v) s.1)
  safe_first (store a v ∷ es) fs F m s = (s.0, s.1, safe_first es fs F (set m a v) s.2)
