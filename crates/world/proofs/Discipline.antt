-- Whoever keeps THE DISCIPLINE has the theorem of Held.antt: what is held is on its way still, or all that it has still to read is frozen.
use mathlib.Core.Path.{◌≡◌, sym, ap, subst}
use mathlib.Core.List.{List, [], ◌∷◌}
use mathlib.Core.Logic.{◌⊎◌, inl, inr}
use Prim.Native.Nat.{ℕ}
use Rattle.word.specs.Memory.{set}
use Rattle.word.proofs.Set.{set_other}
use Rattle.world.specs.Events.{Event, write, mark, store, happen, after, Among, All}
use Rattle.world.proofs.Events.{mark_same}
use Rattle.world.specs.Walker.{Walker, WalkerLaws, meaning, Gives, Reads, Below, On, here}
use Rattle.world.proofs.Ways.{follows_step, follows_agree, on_step, on_follows, on_same, on_write, below_reads}
use Rattle.world.specs.Held.{MayHold, None, Can, Harmless, Lawful}
use Rattle.world.proofs.Held.{Always, always_held, Had, lawful_had, lawful_moment}
use Rattle.world.specs.Discipline.{Grow, Safe}

module _ {Word View Address Place Answer : Type 0} (W : Walker Word View Address Place Answer) (L : WalkerLaws W) where
  open W use {see, start, left, step}
  open L use {alike_refl}

  -- What is held is on its way, or all that it has still to read is frozen.
  abbrev OnWayOrFrozen : (ℕ → Type 0) → (ℕ → Word) → Address → Place → Type 0
  OnWayOrFrozen F m va p = On W m va p (start va) ⊎ ((x : ℕ) → Reads W m va p x → F x)

  kept_step : (F : ℕ → Type 0) (m : ℕ → Word) (va : Address) (p : Place) → OnWayOrFrozen F m va p → OnWayOrFrozen F m va (step m va p)
  kept_step F m va p (inl o) = inl (on_step W L m va p (start va) o)
  kept_step F m va p (inr f) = inr (λ x r. f x ((follows_step W L va m p).within x r))

  kept_holds : (F : ℕ → Type 0) (m : ℕ → Word) (H : Address → Place → Type 0) → Always W (OnWayOrFrozen F m) H → Always W (OnWayOrFrozen F m) (MayHold W m H)
  kept_holds F m H = always_held W L (OnWayOrFrozen F m) m H (λ va. inl here) (kept_step F m)

  -- An event that keeps the discipline is harmless, and what is held stays kept.
  abbrev Mild : (ℕ → Type 0) → (m m' : ℕ → Word) → Address → Place → Type 0
  Mild G m m' va p = OnWayOrFrozen G m' va p × Harmless W m m' va p

  mild_on : (G : ℕ → Type 0) (m m' : ℕ → Word) (va : Address) (p : Place) → On W m' va p (start va) → Mild G m m' va p
  mild_on G m m' va p o = (inl o, inr (on_follows W L m' va p (start va) o))

  mild_unseen : (G : ℕ → Type 0) (m m' : ℕ → Word) (va : Address) (p : Place) → ((x : ℕ) → Reads W m va p x → see (m' x) ≡ see (m x))
      → ((x : ℕ) → Reads W m va p x → G x) → Mild G m m' va p
  mild_unseen G m m' va p h g = let f = follows_agree W L va m m' p h in (inr (λ x r. g x (f.within x r)), inl f)

  mild_frozen : (G : ℕ → Type 0) (m : ℕ → Word) (a : ℕ) (v : Word) (va : Address) (p : Place) → ¬ G a → ((x : ℕ) → Reads W m va p x → G x)
      → Mild G m (set m a v) va p
  mild_frozen G m a v va p n g = mild_unseen G m (set m a v) va p (λ x r. ap see (set_other m a v x (λ e. n (subst G (sym e) (g x r))))) g

  mild_write : (F : ℕ → Type 0) (m : ℕ → Word) (a : ℕ) (v : Word) → ¬ Grow W F m a a → (va : Address) (p : Place) → OnWayOrFrozen F m va p
      → Mild (Grow W F m a) m (set m a v) va p
  mild_write F m a v n va p (inr f) = mild_frozen (Grow W F m a) m a v va p n (λ x r. inl (f x r))
  mild_write F m a v n va p (inl o) = go (on_write W L m a v va p (start va) o)
    where
      go : On W (set m a v) va p (start va) ⊎ ((x : ℕ) → Reads W m va p x → Below W m va (start va) a x) → Mild (Grow W F m a) m (set m a v) va p
      go (inl o') = mild_on (Grow W F m a) m (set m a v) va p o'
      go (inr c) = mild_frozen (Grow W F m a) m a v va p n (λ x r. inr (va, c x r))

  mild_mark : (F : ℕ → Type 0) (m : ℕ → Word) (a : ℕ) (v : Word) → see v ≡ see (m a) → (va : Address) (p : Place) → OnWayOrFrozen F m va p
      → Mild F m (set m a v) va p
  mild_mark F m a v e va p (inl o) = mild_on F m (set m a v) va p (on_same W L m (set m a v) va p (start va) (mark_same see m a v e) o)
  mild_mark F m a v e va p (inr f) = mild_unseen F m (set m a v) va p (λ x r. mark_same see m a v e x) f

  mild_store : (F : ℕ → Type 0) (m : ℕ → Word) (a : ℕ) (v : Word) → ¬ F a → ((va : Address) → ¬ Reads W m va (start va) a) → (va : Address) (p : Place) → OnWayOrFrozen F m va p
      → Mild F m (set m a v) va p
  mild_store F m a v n u va p (inr f) = mild_frozen F m a v va p n f
  mild_store F m a v n u va p (inl o) = go (on_write W L m a v va p (start va) o)
    where
      go : On W (set m a v) va p (start va) ⊎ ((x : ℕ) → Reads W m va p x → Below W m va (start va) a x) → Mild F m (set m a v) va p
      go (inl o') = mild_on F m (set m a v) va p o'
      go (inr c) = mild_frozen F m a v va p n (λ x r. absurd (u va (below_reads W L m va (left (start va)) (start va) a x (c x r))))

  lawful_more : (e : Event Word) (es : List (Event Word)) (F G : ℕ → Type 0) (m : ℕ → Word) (H : Address → Place → Type 0) → Always W (OnWayOrFrozen F m) H
      → ((va : Address) (p : Place) → OnWayOrFrozen F m va p → Mild G m (happen m e) va p)
      → (Always W (OnWayOrFrozen G (happen m e)) (MayHold W m H) → Lawful W (happen m e) es (MayHold W m H)) → Lawful W m (e ∷ es) H
  unfolding Lawful
  lawful_more e es F G m H h k rest =
      let all = kept_holds F m H h in
      (λ va p q. (k va p (all va p q va (alike_refl (left p) va))).1, rest (λ va p q vb a. (k vb p (all va p q vb a)).0))

  pub safe_lawful : (es : List (Event Word)) (F : ℕ → Type 0) (m : ℕ → Word) (H : Address → Place → Type 0) → Always W (OnWayOrFrozen F m) H → Safe W F m es → Lawful W m es H
  unfolding Safe Lawful happen
  safe_lawful [] F m H h s = tt
  safe_lawful (write a v ∷ es) F m H h s =
      lawful_more (write a v) es F (Grow W F m a) m H h (mild_write F m a v s.0) (λ k. safe_lawful es (Grow W F m a) (set m a v) (MayHold W m H) k s.1)
  safe_lawful (mark a v ∷ es) F m H h s =
      lawful_more (mark a v) es F F m H h (mild_mark F m a v s.0) (λ k. safe_lawful es F (set m a v) (MayHold W m H) k s.1)
  safe_lawful (store a v ∷ es) F m H h s =
      lawful_more (store a v) es F F m H h (mild_store F m a v s.0 s.1) (λ k. safe_lawful es F (set m a v) (MayHold W m H) k s.2)

  safe_none : (es : List (Event Word)) (F : ℕ → Type 0) (m : ℕ → Word) → Safe W F m es → Lawful W m es (None W)
  safe_none es F m = safe_lawful es F m (None W) (λ va p n. absurd n)

  -- THE THEOREM. A period begins with nothing held, and with any cells frozen. If what happens keeps the discipline, whatever a walk ends
  -- with or a cache gives is what its address meant at some moment of the period.
  pub interleaving : (es : List (Event Word)) (F : ℕ → Type 0) (m : ℕ → Word) → Safe W F m es → (va : Address) (p : Place) (o : Answer)
      → Can W m es (None W) va p → Gives W va p o → Among m es (λ m'. meaning W m' va ≡ o)
  interleaving es F m s = lawful_moment W L es m (safe_none es F m s)

  -- The same with any fact P of all the moments: the moment has it too.
  pub interleaving_had : (es : List (Event Word)) (F : ℕ → Type 0) (m : ℕ → Word) → Safe W F m es → (P : (ℕ → Word) → Type 0) → All m es P
      → (va : Address) (p : Place) → Can W m es (None W) va p → Had W P (after m es) va p
  interleaving_had es F m s P g = lawful_had W L es P m g (safe_none es F m s)
