-- Laws of ways: what a step, a change that a walk does not see, and a write do to what is left of a walk.
use mathlib.Core.Path.{◌≡◌, refl, sym, ◌∙◌, ap, subst}
use mathlib.Core.Logic.{◌⊎◌, inl, inr}
use Prim.Native.Nat.{ℕ, zero, suc}
use native.Mathlib.Omega.{arith}
use native.Mathlib.Decide.{ℕ_discrete}
use Rattle.word.specs.Memory.{set}
use Rattle.word.proofs.Set.{set_other}
use Rattle.world.specs.Walker.{Next, nowhere, cell, Walker, WalkerLaws, run, Gives, ReadsIn, Reads, BelowIn, Below, On, here, down, LooksAlike}
use Rattle.world.specs.Ways.{Follows}

pub nowhere_cell : (a : ℕ) → ¬ (nowhere ≡ cell a)
nowhere_cell a e = let z : ◌≡◌ {A = ℕ} 0 1 = cc in omega arith

reads_cell : (r : Next) (a : ℕ) → Dec (r ≡ cell a)
reads_cell nowhere a = no (nowhere_cell a)
reads_cell (cell c) a = elim (ℕ_discrete c a) [ yes e ↦ yes (ap cell e) | no n ↦ no (λ e. n (cc)) ]

module _ {Word View Address Place Answer : Type 0} (W : Walker Word View Address Place Answer) where
  open W use {reads, step}

  -- It comes to a place where it reads a, and reads x from there on.
  pub record Parting (m : ℕ → Word) (va : Address) (p : Place) (a x : ℕ) : Type 0 where
    pub place : Place
    pub on : On W m va place p
    pub reads_it : reads va place ≡ cell a
    pub reads_on : Reads W m va (step m va place) x

module _ {Word View Address Place Answer : Type 0} (W : Walker Word View Address Place Answer) (L : WalkerLaws W) where
  open W use {see, left, reads, step, answer}
  open L use {local, falls, rests}

  -- a walk that has no step left gives its answer
  pub rested_gives : (va : Address) (p : Place) → left p ≡ 0 → Gives W va p (answer p)
  unfolding run
  rested_gives va p e m = ap (λ k. answer (run W m va k p)) e

  pub follows_refl : (va : Address) (m : ℕ → Word) (p : Place) → Follows W va m p m p
  follows_refl va m p = record { comes = refl; within = λ x r. r }

  pub follows_trans : {va : Address} {m m' m'' : ℕ → Word} {p q r : Place} → Follows W va m p m' q → Follows W va m' q m'' r → Follows W va m p m'' r
  follows_trans f g = record { comes = f.comes ∙ g.comes; within = λ x h. g.within x (f.within x h) }

  -- A step stays on the way.
  pub follows_step : (va : Address) (m : ℕ → Word) (p : Place) → Follows W va m (step m va p) m p
  unfolding run ReadsIn
  follows_step va m p = go (left p) refl
    where
      go : (n : ℕ) → left p ≡ n → Follows W va m (step m va p) m p
      go zero e = rw (rests m va p e) (follows_refl va m p)
      go (suc n) e = record {
        comes = ap (λ k. answer (run W m va k (step m va p))) (falls m va p n e) ∙ sym (ap (λ k. answer (run W m va k p)) e);
        within = λ x r. subst (λ k. ReadsIn W m va k p x) (sym e) (inr (subst (λ k. ReadsIn W m va k (step m va p) x) (falls m va p n e) r));
      }

  -- A change that shows a walk the same cells leaves its way.
  steps_agree : (m m' : ℕ → Word) (va : Address) (k : ℕ) (p : Place) → ((x : ℕ) → ReadsIn W m va (suc k) p x → see (m' x) ≡ see (m x))
      → step m' va p ≡ step m va p
  unfolding ReadsIn
  steps_agree m m' va k p h = local m' m va p (λ c e. h c (inl e))

  run_agree : (m m' : ℕ → Word) (va : Address) (k : ℕ) (p : Place) → ((x : ℕ) → ReadsIn W m va k p x → see (m' x) ≡ see (m x))
      → run W m' va k p ≡ run W m va k p
  unfolding run ReadsIn
  run_agree m m' va zero p h = refl
  run_agree m m' va (suc k) p h = rw (steps_agree m m' va k p h) (run_agree m m' va k (step m va p) (λ x r. h x (inr r)))

  reads_agree : (m m' : ℕ → Word) (va : Address) (k : ℕ) (p : Place) → ((x : ℕ) → ReadsIn W m va k p x → see (m' x) ≡ see (m x))
      → (x : ℕ) → ReadsIn W m' va k p x → ReadsIn W m va k p x
  unfolding ReadsIn
  reads_agree m m' va zero p h x r = r
  reads_agree m m' va (suc k) p h x (inl e) = inl e
  reads_agree m m' va (suc k) p h x (inr r) =
      inr (reads_agree m m' va k (step m va p) (λ y q. h y (inr q)) x (rw (steps_agree m m' va k p h) at r))

  pub follows_agree : (va : Address) (m m' : ℕ → Word) (p : Place) → ((x : ℕ) → Reads W m va p x → see (m' x) ≡ see (m x)) → Follows W va m' p m p
  follows_agree va m m' p h = record { comes = ap answer (run_agree m m' va (left p) p h); within = reads_agree m m' va (left p) p h }

  pub below_agree : (m m' : ℕ → Word) (va : Address) (k : ℕ) (p : Place) → ((x : ℕ) → ReadsIn W m va k p x → see (m' x) ≡ see (m x))
      → (a x : ℕ) → BelowIn W m' va k p a x → BelowIn W m va k p a x
  unfolding BelowIn ReadsIn
  below_agree m m' va zero p h a x b = b
  below_agree m m' va (suc k) p h a x (inl b) =
      inl (b.0, reads_agree m m' va k (step m va p) (λ y q. h y (inr q)) x (rw (steps_agree m m' va k p h) at b.1))
  below_agree m m' va (suc k) p h a x (inr b) =
      inr (below_agree m m' va k (step m va p) (λ y q. h y (inr q)) a x (rw (steps_agree m m' va k p h) at b))

  -- What no walk can tell apart, no step can.
  step_same : (m m' : ℕ → Word) (va : Address) (p : Place) → LooksAlike W m m' → step m' va p ≡ step m va p
  step_same m m' va p h = local m' m va p (λ c e. h c)

  -- A place of the way: a step from it, what it comes to, and a change that no walk sees.
  pub on_step : (m : ℕ → Word) (va : Address) (p q : Place) → On W m va p q → On W m va (step m va p) q
  on_step m va p q here = down here
  on_step m va p q (down o) = down (on_step m va p _ o)

  pub on_follows : (m : ℕ → Word) (va : Address) (p q : Place) → On W m va p q → Follows W va m p m q
  on_follows m va p q here = follows_refl va m p
  on_follows m va p q (down o) = follows_trans (on_follows m va p _ o) (follows_step va m q)

  pub on_same : (m m' : ℕ → Word) (va : Address) (p q : Place) → LooksAlike W m m' → On W m va p q → On W m' va p q
  on_same m m' va p q h here = here
  on_same m m' va p q h (down {q = r} o) = down {q = r} (rw (step_same m m' va r h) (on_same m m' va p _ h o))

  below_step : (m : ℕ → Word) (va : Address) (q : Place) (a x : ℕ) → Below W m va (step m va q) a x → Below W m va q a x
  unfolding BelowIn
  below_step m va q a x = go (left q) refl
    where
      go : (n : ℕ) → left q ≡ n → Below W m va (step m va q) a x → Below W m va q a x
      go zero e b = subst (λ s. Below W m va s a x) (rests m va q e) b
      go (suc n) e b = subst (λ k. BelowIn W m va k q a x) (sym e) (inr (subst (λ k. BelowIn W m va k (step m va q) a x) (falls m va q n e) b))

  -- A write leaves a place on the way, or cuts it off: then the written cell lies above all that is left to read from the place.
  pub on_write : (m : ℕ → Word) (a : ℕ) (v : Word) (va : Address) (p q : Place) → On W m va p q
      → On W (set m a v) va p q ⊎ ((x : ℕ) → Reads W m va p x → Below W m va q a x)
  unfolding BelowIn
  on_write m a v va p q here = inl here
  on_write m a v va p q (down {q = s} o) = go (left s) refl (reads_cell (reads va s) a) (on_write m a v va p (step m va s) o)
    where
      go : (n : ℕ) → left s ≡ n → Dec (reads va s ≡ cell a) → On W (set m a v) va p (step m va s) ⊎ ((x : ℕ) → Reads W m va p x → Below W m va (step m va s) a x)
          → On W (set m a v) va p s ⊎ ((x : ℕ) → Reads W m va p x → Below W m va s a x)
      go n e d (inr c) = inr (λ x r. below_step m va s a x (c x r))
      go zero e d (inl i) = inl (subst (On W (set m a v) va p) (rests m va s e) i)
      go (suc n) e (yes f) (inl i) =
          inr (λ x r. subst (λ k. BelowIn W m va k s a x) (sym e) (inl (f, subst (λ k. ReadsIn W m va k (step m va s) x) (falls m va s n e) ((on_follows m va p _ o).within x r))))
      go (suc n) e (no f) (inl i) =
          inl (down {q = s} (rw (local (set m a v) m va s (λ c g. ap see (set_other m a v c (λ h. f (g ∙ ap cell (sym h)))))) i))

  -- a walk that reads x below a reads a
  pub below_reads : (m : ℕ → Word) (va : Address) (k : ℕ) (p : Place) (a x : ℕ) → BelowIn W m va k p a x → ReadsIn W m va k p a
  unfolding BelowIn ReadsIn
  below_reads m va zero p a x b = b
  below_reads m va (suc k) p a x (inl b) = inl b.0
  below_reads m va (suc k) p a x (inr b) = inr (below_reads m va k (step m va p) a x b)

  -- and it reads x
  pub below_read : (m : ℕ → Word) (va : Address) (k : ℕ) (p : Place) (a x : ℕ) → BelowIn W m va k p a x → ReadsIn W m va k p x
  unfolding BelowIn ReadsIn
  below_read m va zero p a x b = b
  below_read m va (suc k) p a x (inl b) = inr b.1
  below_read m va (suc k) p a x (inr b) = inr (below_read m va k (step m va p) a x b)

  pub below_parting : (m : ℕ → Word) (va : Address) (p : Place) (a x : ℕ) → Below W m va p a x → Parting W m va p a x
  unfolding BelowIn
  below_parting m va p a x = go (left p) p refl
    where
      further : (p : Place) → Parting W m va (step m va p) a x → Parting W m va p a x
      further p t = record { place = t.place; on = down t.on; reads_it = t.reads_it; reads_on = t.reads_on }

      go : (k : ℕ) (p : Place) → left p ≡ k → BelowIn W m va k p a x → Parting W m va p a x
      go zero p e b = absurd b
      go (suc k) p e (inl b) = record {
        place = p;
        on = here;
        reads_it = b.0;
        reads_on = subst (λ n. ReadsIn W m va n (step m va p) x) (sym (falls m va p k e)) b.1;
      }
      go (suc k) p e (inr b) = further p (go k (step m va p) (falls m va p k e) b)
