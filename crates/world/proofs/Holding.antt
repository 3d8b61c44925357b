-- Laws of what may be held: more held before is more held after; one list of events after the other; and what was on its way may be held.
use mathlib.Core.List.{List, [], ◌∷◌, ◌++◌}
use mathlib.Core.Logic.{inl, inr}
use Prim.Native.Nat.{ℕ}
use Rattle.world.specs.Events.{Event, happen, after, Among}
use Rattle.world.specs.Walker.{Walker, On, here, down}
use Rattle.world.specs.Held.{MayHold, still, starts, steps, shares, Can}

module _ {Word View Address Place Answer : Type 0} (W : Walker Word View Address Place Answer) where
  open W use {start, step}

  pub holds_more : (m : ℕ → Word) (G H : Address → Place → Type 0) → ((va : Address) (p : Place) → G va p → H va p)
      → (va : Address) (p : Place) → MayHold W m G va p → MayHold W m H va p
  holds_more m G H f va p (still q) = still (f va p q)
  holds_more m G H f va p starts = starts
  holds_more m G H f va p (steps {p = o} q) = steps (holds_more m G H f va o q)
  holds_more m G H f va p (shares {va = vc} a q) = shares a (holds_more m G H f vc p q)

  pub holds_twice : (m : ℕ → Word) (H : Address → Place → Type 0) (va : Address) (p : Place) → MayHold W m (MayHold W m H) va p → MayHold W m H va p
  holds_twice m H va p (still q) = q
  holds_twice m H va p starts = starts
  holds_twice m H va p (steps {p = o} q) = steps (holds_twice m H va o q)
  holds_twice m H va p (shares {va = vc} a q) = shares a (holds_twice m H vc p q)

  -- what is held at the end is held by all that may be done there
  pub can_holds : (es : List (Event Word)) (m : ℕ → Word) (H : Address → Place → Type 0) (va : Address) (p : Place)
      → MayHold W (after m es) (Can W m es H) va p → Can W m es H va p
  unfolding Can after
  can_holds [] m H = holds_twice m H
  can_holds (e ∷ es) m H = can_holds es (happen m e) (MayHold W m H)

  -- one event more
  pub can_longer : (es : List (Event Word)) (e : Event Word) (m : ℕ → Word) (H : Address → Place → Type 0) (va : Address) (p : Place)
      → MayHold W (happen (after m es) e) (Can W m es H) va p → Can W m (es ++ (e ∷ [])) H va p
  unfolding Can after
  can_longer [] e m H va p h = h
  can_longer (f ∷ es) e m H va p h = can_longer es e (happen m f) (MayHold W m H) va p h

  pub can_still : (es : List (Event Word)) (m : ℕ → Word) (H : Address → Place → Type 0) (va : Address) (p : Place) → H va p → Can W m es H va p
  unfolding Can
  can_still [] m H va p h = still h
  can_still (e ∷ es) m H va p h = can_still es (happen m e) (MayHold W m H) va p (still h)

  -- What was on its way at some moment may be held.
  holds_on : (m : ℕ → Word) (H : Address → Place → Type 0) (va : Address) (p q : Place) → MayHold W m H va q → On W m va p q → MayHold W m H va p
  holds_on m H va p q h here = h
  holds_on m H va p q h (down o) = holds_on m H va p (step m va q) (steps h) o

  pub can_on : (es : List (Event Word)) (m : ℕ → Word) (H : Address → Place → Type 0) (va : Address) (p : Place)
      → Among m es (λ x. On W x va p (start va)) → Can W m es H va p
  unfolding Can Among
  can_on [] m H va p o = holds_on m H va p (start va) starts o
  can_on (e ∷ es) m H va p (inl o) = can_still es (happen m e) (MayHold W m H) va p (holds_on m H va p (start va) starts o)
  can_on (e ∷ es) m H va p (inr a) = can_on es (happen m e) (MayHold W m H) va p a
