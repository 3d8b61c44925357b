-- REPORTS. The caller tells processors of addresses (on x86-64: INVLPG of each, on every processor that may use these tables) and waits until
-- all have answered: a shootdown. Here is what may be held then, and what the caller and the code promise.
use Rattle.std.specs.Prelude.{◌≡◌, List, [], ◌∷◌, ◌++◌, ◌⊎◌, ℕ}
use Rattle.world.specs.Events.{Event, happen, Among}
use Rattle.world.specs.Walker.{Walker, meaning, Gives, Reads, On}
use Rattle.world.specs.Held.{MayHold, None, Can}
use Rattle.world.specs.Discipline.{Safe}

-- WHAT HAPPENS, from the first memory on: memory changes; a shootdown begins; the oldest shootdown under way is done, of these addresses. (One
-- that is done before an older one counts as done with it.)
pub data History (Word Address : Type 0) : Type 1 where
  first : (ℕ → Word) → History Word Address
  happens : History Word Address → Event Word → History Word Address
  begins : History Word Address → History Word Address
  done : History Word Address → (Address → Type 0) → History Word Address

-- A PERIOD: a moment, and what has happened since
pub record Period (Word : Type 0) : Type 0 where
  pub began : ℕ → Word
  pub since : List (Event Word)

module _ {Word : Type 0} where
  -- it begins now
  abbrev pub from_now : (ℕ → Word) → Period Word
  from_now m = record { began = m; since = [] }

  -- one event more
  abbrev pub longer : Event Word → Period Word → Period Word
  longer e q = record { began = q.began; since = q.since ++ (e ∷ []) }

  unfoldable pub each_longer : Event Word → List (Period Word) → List (Period Word)
  each_longer e [] = []
  each_longer e (q ∷ qs) = longer e q ∷ each_longer e qs

  -- the oldest, and the others; where there is none, one that begins now
  unfoldable pub oldest : (ℕ → Word) → List (Period Word) → Period Word
  oldest m [] = from_now m
  oldest m (q ∷ qs) = q

  unfoldable pub younger : List (Period Word) → List (Period Word)
  younger [] = []
  younger (q ∷ qs) = qs

module _ {Word Address : Type 0} where
  -- the memory now
  unfoldable pub now : History Word Address → ℕ → Word
  now (first m) = m
  now (happens h e) = happen (now h) e
  now (begins h) = now h
  now (done h T) = now h

  -- the periods since the shootdowns began that are under way, the oldest first
  unfoldable pub underway : History Word Address → List (Period Word)
  underway (first m) = []
  underway (happens h e) = each_longer e (underway h)
  underway (begins h) = underway h ++ (from_now (now h) ∷ [])
  underway (done h T) = younger (underway h)

  -- the period since the shootdown under way began that is the next to be done
  abbrev pub next : History Word Address → Period Word
  next h = oldest (now h) (underway h)

  -- THE LAST PERIOD: since the shootdown began that was done last; or since the first memory
  unfoldable pub last : History Word Address → Period Word
  last (first m) = from_now m
  last (happens h e) = longer e (last h)
  last (begins h) = last h
  last (done h T) = next h

-- no cell is frozen
abbrev pub Thawed : ℕ → Type 0
Thawed x = ⊥

-- WHAT A CACHE MAY KEEP over a shootdown: half-done walks (upper entries), and finished translations, each of which gives a page. (A
-- processor keeps no absence.)
pub record Caches (Place Answer : Type 0) : Type 1 where
  pub half : Place → Type 0
  pub finished : Place → Type 0
  pub page : Answer → Type 0

-- C keeps no more than D
pub record NoMore {Place Answer : Type 0} (C D : Caches Place Answer) : Type 0 where
  pub half : (p : Place) → C.half p → D.half p
  pub finished : (p : Place) → C.finished p → D.finished p

module _ {Word View Address Place Answer : Type 0} (W : Walker Word View Address Place Answer) where
  open W use {start, left, step, Alike}

  -- A finished translation reads nothing more, stays finished, and gives a page.
  pub record Finishes (C : Caches Place Answer) : Type 0 where
    pub rests : (p : Place) → C.finished p → (m : ℕ → Word) (va : Address) (x : ℕ) → ¬ Reads W m va p x
    pub stays : (p : Place) → C.finished p → (m : ℕ → Word) (va : Address) → C.finished (step m va p)
    pub gives : (p : Place) → C.finished p → (va : Address) (o : Answer) → Gives W va p o → C.page o

  -- what is held by those who began in the period
  abbrev pub Since : Period Word → Address → Place → Type 0
  Since q = Can W q.began q.since (None W)

  -- p was on the way of va at some moment of the period
  abbrev pub WasOn : Period Word → Address → Place → Type 0
  WasOn q va p = Among q.began q.since (λ m. On W m va p (start va))

  -- va meant o at some moment of the period
  abbrev pub Meant : Period Word → Address → Answer → Type 0
  Meant q va o = Among q.began q.since (λ m. meaning W m va ≡ o)

  -- va meant at some moment of the period what is of o's kind
  abbrev pub MeantLike : {Kind : Type 0} → (Answer → Kind) → Period Word → Address → Answer → Type 0
  MeantLike kind q va o = Among q.began q.since (λ m. kind (meaning W m va) ≡ kind o)

  -- p serves no told address
  abbrev pub Untold : (Address → Type 0) → Address → Place → Type 0
  Untold T va p = (t : Address) → T t → ¬ Alike (left p) va t

  -- THE DISCIPLINE is kept in every last period; what was frozen before it began may be written.
  abbrev pub SafeIn : Period Word → Type 0
  SafeIn q = Safe W Thawed q.began q.since

  unfoldable pub Disciplined : History Word Address → Type 0
  Disciplined (first m) = Unit {0}
  Disciplined (happens h e) = Disciplined h × SafeIn (longer e (last h))
  Disciplined (begins h) = Disciplined h
  Disciplined (done h T) = Disciplined h × SafeIn (next h)

module _ {Word View Address Place Answer : Type 0} (W : Walker Word View Address Place Answer) (C : Caches Place Answer) where
  -- WHAT MAY BE HELD NOW. When a shootdown is done, that is what began since it began; and of what was held, all that serves no told address.
  unfoldable pub Held : History Word Address → Address → Place → Type 0
  Held (first m) = MayHold W m (None W)
  Held (happens h e) = MayHold W (happen (now h) e) (Held h)
  Held (begins h) = Held h
  Held (done h T) = MayHold W (now h) (λ va p. Since W (next h) va p ⊎ ((C.half p ⊎ C.finished p) × Untold W T va p × Held h va p))

  -- NO HALF-DONE WALK IS LEFT ON A WAY THAT WAS CUT: where one is kept over a shootdown, its way was there since that began. (Where none is kept
  -- at all, there is nothing to promise.)
  unfoldable pub Tells : History Word Address → Type 0
  Tells (first m) = Unit {0}
  Tells (happens h e) = Tells h
  Tells (begins h) = Tells h
  Tells (done h T) = Tells h × ((va : Address) (p : Place) → C.half p → Untold W T va p → WasOn W (last h) va p → WasOn W (next h) va p)

  -- FRESH: va meant o at some moment since the shootdown began that was the last to tell va. (One that told others leaves pages.)
  unfoldable pub Fresh : History Word Address → Address → Answer → Type 0
  Fresh (first m) va o = meaning W m va ≡ o
  Fresh (happens h e) va o = Fresh h va o ⊎ (meaning W (happen (now h) e) va ≡ o)
  Fresh (begins h) va o = Fresh h va o
  Fresh (done h T) va o = Meant W (next h) va o ⊎ (C.page o × (¬ T va) × Fresh h va o)

  -- ENOUGH IS TOLD of va, where answers of one kind are as good as one another: a page of each kind that va had since the shootdown before began, it
  -- has had since this one began, or va is told.
  unfoldable pub Enough : {Kind : Type 0} → (Answer → Kind) → History Word Address → Address → Type 0
  Enough kind (first m) va = Unit {0}
  Enough kind (happens h e) va = Enough kind h va
  Enough kind (begins h) va = Enough kind h va
  Enough kind (done h T) va = Enough kind h va × ((o : Answer) → C.page o → MeantLike W kind (last h) va o → MeantLike W kind (next h) va o ⊎ T va)
