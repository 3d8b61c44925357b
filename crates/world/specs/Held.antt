-- What walks and caches may hold while memory changes, and what a change may do to it.
use Rattle.std.specs.Prelude.{List, [], ◌∷◌, ◌⊎◌, ℕ}
use Rattle.world.specs.Events.{Event, happen}
use Rattle.world.specs.Walker.{Walker}
use Rattle.world.specs.Ways.{Follows}

module _ {Word View Address Place Answer : Type 0} (W : Walker Word View Address Place Answer) where
  open W use {start, left, step, Alike}

  -- WHAT MAY BE HELD in the memory m, by a walk on its way or in a cache, of what was held before (H): it is held on, or dropped; a walk
  -- starts; a step is taken; and what is held for one address serves every address with the prefix that the walk has used so far.
  pub data MayHold (m : ℕ → Word) (H : Address → Place → Type 0) : Address → Place → Type 0 where
    still : {va : Address} {p : Place} → H va p → MayHold m H va p
    starts : {va : Address} → MayHold m H va (start va)
    steps : {va : Address} {p : Place} → MayHold m H va p → MayHold m H va (step m va p)
    shares : {va vb : Address} {p : Place} → Alike (left p) va vb → MayHold m H va p → MayHold m H vb p

  -- nothing is held
  abbrev pub None : Address → Place → Type 0
  None va p = ⊥

  -- what may be held after a list of events
  unfoldable pub Can : (ℕ → Word) → List (Event Word) → (Address → Place → Type 0) → Address → Place → Type 0
  Can m [] H = MayHold m H
  Can m (e ∷ es) H = Can (happen m e) es (MayHold m H)

  -- A change is harmless to what is held: the outcome stays, or it is the new meaning.
  abbrev pub Harmless : (m m' : ℕ → Word) → Address → Place → Type 0
  Harmless m m' va p = Follows W va m' p m p ⊎ Follows W va m' p m' (start va)

  -- every change is harmless to all that may be held then
  unfoldable pub Lawful : (ℕ → Word) → List (Event Word) → (Address → Place → Type 0) → Type 0
  Lawful m [] H = Unit {0}
  Lawful m (e ∷ es) H = ((va : Address) (p : Place) → MayHold m H va p → Harmless m (happen m e) va p) × Lawful (happen m e) es (MayHold m H)
