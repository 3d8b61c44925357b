-- What a list of writes freezes, some walk read at one of its moments. So a list that obeys from one frozen set obeys from a smaller one,
-- with no more than the list itself adds: a period may begin at any moment, and what was frozen before it does not count.
use mathlib.Core.List.{List, [], ◌∷◌}
use mathlib.Core.Logic.{◌⊎◌, inl, inr}
use Prim.Native.Nat.{ℕ}
use Rattle.word.specs.Memory.{set}
use Rattle.world.specs.Walker.{Walker, WalkerLaws}
use Rattle.world.proofs.Ways.{below_read}
use Rattle.world.specs.Events.{Event, write, mark, store, happen, Among, All}
use Rattle.world.specs.Discipline.{Grow}
use Rattle.world.specs.Rules.{frozen, Obeys}
use Rattle.world.proofs.Rules.{obeys_weaken}
use Rattle.world.specs.Frozen.{SomeReads}

-- what holds at no moment does not hold at one
pub among_none : {Word : Type 0} (es : List (Event Word)) (m : ℕ → Word) (P : (ℕ → Word) → Type 0) → All m es (λ n. ¬ P n) → Among m es P → ⊥
unfolding Among All
among_none [] m P a p = a p
among_none (e ∷ es) m P a (inl p) = a.0 p
among_none (e ∷ es) m P a (inr p) = among_none es (happen m e) P a.1 p

module _ {Word View Address Place Answer : Type 0} (W : Walker Word View Address Place Answer) (L : WalkerLaws W) where
  open W use {start, left}

  pub frozen_keeps : (es : List (Event Word)) (F : ℕ → Type 0) (m : ℕ → Word) (x : ℕ) → F x → frozen W F m es x
  unfolding frozen
  frozen_keeps [] F m x f = f
  frozen_keeps (write a v ∷ es) F m x f = frozen_keeps es (Grow W F m a) (set m a v) x (inl f)
  frozen_keeps (mark a v ∷ es) F m x f = frozen_keeps es F (set m a v) x f
  frozen_keeps (store a v ∷ es) F m x f = frozen_keeps es F (set m a v) x f

  -- WHAT IS FROZEN AT THE END was frozen at first, or some walk read it at one of the moments.
  pub frozen_read : (es : List (Event Word)) (F : ℕ → Type 0) (m : ℕ → Word) (x : ℕ) → frozen W F m es x → F x ⊎ Among m es (SomeReads W x)
  unfolding frozen Among happen
  frozen_read [] F m x f = inl f
  frozen_read (mark a v ∷ es) F m x f = elim (frozen_read es F (set m a v) x f) [ inl g ↦ inl g | inr g ↦ inr (inr g) ]
  frozen_read (store a v ∷ es) F m x f = elim (frozen_read es F (set m a v) x f) [ inl g ↦ inl g | inr g ↦ inr (inr g) ]
  frozen_read (write a v ∷ es) F m x f = go (frozen_read es (Grow W F m a) (set m a v) x f)
    where
      go : Grow W F m a x ⊎ Among (set m a v) es (SomeReads W x) → F x ⊎ (SomeReads W x m ⊎ Among (set m a v) es (SomeReads W x))
      go (inl (inl g)) = inl g
      go (inl (inr c)) = inr (inl (c.0, below_read W L m c.0 (left (start c.0)) (start c.0) a x c.1))
      go (inr g) = inr (inr g)

  -- FROM A SMALLER FROZEN SET: what was frozen and is not counted (not in F) must be read at no moment.
  pub obeys_from : (es : List (Event Word)) (F F' G G' : ℕ → Type 0) (m : ℕ → Word) → Obeys W G m es G' → ((x : ℕ) → F x → G x)
      → ((x : ℕ) → F x → F' x) → ((x : ℕ) → G' x → Among m es (SomeReads W x) → F' x) → Obeys W F m es F'
  obeys_from es F F' G G' m o f k n = record {
    safe = less.safe;
    within = λ x z. go x z (frozen_read es F m x z);
  }
    where
      less : Obeys W F m es G'
      less = obeys_weaken W L es F G G' G' m f (λ x g. g) o

      go : (x : ℕ) → frozen W F m es x → F x ⊎ Among m es (SomeReads W x) → F' x
      go x z (inl g) = k x g
      go x z (inr g) = n x (less.within x z) g
