-- A NIGHT: calls, shootdowns and reports, one after the other and without end, beside walks, caches, store buffers, marks and other programs.
use Rattle.std.specs.Prelude.{ℕ, ◌+◌, ◌*◌, ◌<◌, ◌≤◌, Bool, List, [], ◌∷◌, ◌++◌, ◌⊎◌, ◌≡◌, Ok}
use Rattle.entry.specs.Entry.{everything}
use Rattle.entry.specs.declared.Entry.{Entry}
use Rattle.entry.specs.declared.Rights.{Rights}
use Rattle.walk.specs.declared.Found.{Found}
use Rattle.walk.specs.declared.Found.TheVariants.{Page, Nothing, Outside, NoAddress}
use Rattle.walk.specs.declared.Place.{Place}
use Rattle.walk.specs.declared.Place.TheVariants.{Going, Ended}
use Rattle.world.specs.Events.{Event, write, mark, store, after}
use Rattle.world.specs.Walker.{Walker, Gives, Reads}
use Rattle.tables.specs.Walks.{Position}
use Rattle.world.specs.Reports.{History, now, last, Caches, Held}
use Rattle.world.specs.Reports as world
use Rattle.tables.specs.Roles.{Role}
use Rattle.tables.specs.Discipline.{walker_of}
use Rattle.pool.specs.Book.{book_of, ticket_of}
use Rattle.pool.specs.Booked.{setting_of}
use Rattle.pool.specs.declared.Space.{Space}
use Rattle.effect.specs.Whole.{Whole}
use Rattle.tablepath.specs.Answers.{unmap_answer, protect_answer}
use Rattle.tablepath.specs.declared.Gone.{Gone}
use Rattle.tablepath.specs.declared.Altered.{Altered}
use Rattle.tablepath.specs.Calls.{Call, map, unmap, protect, told, Within, PoolWord, Remarked, Saw, Act, act_writes}

-- WHAT HAPPENS. dusk: the first memory. calls: an operation is called; its writes wait in the store buffer. happens: a write reaches memory, the
-- machine marks a word, or another program stores one. begins: a shootdown begins. done: the oldest shootdown under way is done; these
-- addresses were told. (One that is done before an older one counts as done with it, and one that begins while a call is under way counts
-- from the call's beginning: then no less may be held.)
pub data Night : Type 1 where
  dusk : (ℕ → ℕ) → Night
  calls : Night → Act → Night
  happens : Night → Event ℕ → Night
  begins : Night → Night
  done : Night → (ℕ → Type 0) → Night

-- what walks and caches meet of it
unfoldable pub history : Night → History ℕ ℕ
history (dusk m) = world.first m
history (calls N a) = history N
history (happens N e) = world.happens (history N) e
history (begins N) = world.begins (history N)
history (done N T) = world.done (history N) T

-- memory now
abbrev pub present : Night → ℕ → ℕ
present N = now (history N)

-- THE LAST PERIOD: since the shootdown began that was done last
abbrev pub last_began : Night → ℕ → ℕ
last_began N = (last (history N)).began

abbrev pub last_since : Night → List (Event ℕ)
last_since N = (last (history N)).since

-- The calls -----------------------------------------------------------------------------------------------------------------------------

abbrev pub behind : {A : Type 0} → List A → List A
behind [] = []
behind (x ∷ xs) = xs

abbrev pub joined : {A : Type 0} → List (List A) → List A
joined [] = []
joined (x ∷ xs) = x ++ joined xs

abbrev pub front : {A : Type 0} → List (List A) → List A
front [] = []
front (x ∷ xs) = x

-- E is so of one of the calls
unfoldable pub Some : (Act → Type 0) → List Act → Type 0
Some E [] = ⊥
Some E (a ∷ cs) = E a ⊎ Some E cs

-- those made since the last shootdown began
unfoldable pub lately : Night → List Act
lately (dusk m) = []
lately (calls N a) = lately N ++ (a ∷ [])
lately (happens N e) = lately N
lately (begins N) = []
lately (done N T) = lately N

-- for each shootdown under way those made before it began, and after the one before it began
unfoldable pub due : Night → List (List Act)
due (dusk m) = []
due (calls N a) = due N
due (happens N e) = due N
due (begins N) = due N ++ (lately N ∷ [])
due (done N T) = behind (due N)

-- those that a shootdown covers that is done
unfoldable pub covered : Night → List Act
covered (dusk m) = []
covered (calls N a) = covered N
covered (happens N e) = covered N
covered (begins N) = covered N
covered (done N T) = covered N ++ front (due N)

-- and those that none covers: the calls of the last period
abbrev pub uncovered : Night → List Act
uncovered N = joined (due N) ++ lately N

-- What caches keep ----------------------------------------------------------------------------------------------------------------------

unfoldable pub IsPage : Found → Type 0
IsPage (Page base size frame rights) = Unit {0}
IsPage Nothing = ⊥
IsPage Outside = ⊥
IsPage NoAddress = ⊥

unfoldable pub IsHalf : Place → Type 0
IsHalf (Going t r) = Unit {0}
IsHalf (Ended f) = ⊥

unfoldable pub IsFinished : Place → Type 0
IsFinished (Going t r) = ⊥
IsFinished (Ended f) = IsPage f

-- what is found but for its rights
unfoldable pub but_rights : Found → Found
but_rights (Page base size frame rights) = Page base size frame everything
but_rights Nothing = Nothing
but_rights Outside = Outside
but_rights NoAddress = NoAddress

-- A SHOOTDOWN DROPS what serves a told address: its translation, and the upper entries that lead to it (AMD's INVLPG where EFER.TCE is set).
abbrev pub untold_kept : Caches Position Found
untold_kept = record { half = λ p. IsHalf p.place; finished = λ p. IsFinished p.place; page = IsPage }

-- OR, beside the translations of the told addresses, it drops all upper entries (Intel's INVLPG).
abbrev pub upper_dropped : Caches Position Found
upper_dropped = record { half = λ p. ⊥; finished = λ p. IsFinished p.place; page = IsPage }

module _ (h : ℕ → Bool) (sp : Space) where
  -- the walks of this space
  abbrev pub walks : Walker ℕ (ℕ → Entry) ℕ Position Found
  walks = walker_of (setting_of h sp)

  -- what waits in the store buffer, the oldest first
  unfoldable pub waiting : Night → List (Event ℕ)
  waiting (dusk m) = []
  waiting (calls N a) = waiting N ++ act_writes h sp a
  waiting (happens N (write a v)) = behind (waiting N)
  waiting (happens N (mark a v)) = waiting N
  waiting (happens N (store a v)) = waiting N
  waiting (begins N) = waiting N
  waiting (done N T) = waiting N

  -- what the code sees: memory, and over it what waits
  abbrev pub code_sees : Night → ℕ → ℕ
  code_sees N = after (present N) (waiting N)

  -- va lies in a page that the call unmapped, by its own answer
  unfoldable pub Unmaps : Call → (ℕ → ℕ) → ℕ → Type 0
  Unmaps (map q) s va = ⊥
  Unmaps (unmap b) s va = (g : Gone) × (unmap_answer h s sp b ≡ Ok g) × (b ≤ va) × (va < b + g.size)
  Unmaps (protect b r) s va = ⊥
  Unmaps (told t) s va = ⊥

  -- or protected
  unfoldable pub Protects : Call → (ℕ → ℕ) → ℕ → Type 0
  Protects (map q) s va = ⊥
  Protects (unmap b) s va = ⊥
  Protects (protect b r) s va = (g : Altered) × (protect_answer h s sp b r ≡ Ok g) × (b ≤ va) × (va < b + g.size)
  Protects (told t) s va = ⊥

  abbrev pub Hit : Call → (ℕ → ℕ) → ℕ → Type 0
  Hit c s va = Unmaps c s va ⊎ Protects c s va

  -- so of one of the calls
  abbrev pub Hits : (Call → (ℕ → ℕ) → ℕ → Type 0) → List Act → ℕ → Type 0
  Hits H cs va = Some (λ a. H a.call a.saw va) cs

  -- some walk or cache gives o for va now
  pub record Gets (C : Caches Position Found) (N : Night) (va : ℕ) (o : Found) : Type 0 where
    pub place : Position
    pub held : Held walks C (history N) va place
    pub gives : Gives walks va place o

  -- some walk of va has the word x still to read, perhaps from a cache on
  pub record MayRead (C : Caches Position Found) (N : Night) (va x : ℕ) : Type 0 where
    pub place : Position
    pub held : Held walks C (history N) va place
    pub reads : Reads walks (present N) va place x

  -- a word of a page that some walk or cache gives now, for some address
  pub record Given (C : Caches Position Found) (N : Night) (a : ℕ) : Type 0 where
    pub address : ℕ
    pub base : ℕ
    pub size : ℕ
    pub frame : ℕ
    pub rights : Rights
    pub gets : Gets C N address (Page base size frame rights)
    pub from : frame ≤ 8 * a
    pub upto : 8 * a + 8 ≤ frame + size

  -- Writes reach memory in their order; marks are marks; another program stores outside the pool, or through a translation that it is given.
  unfoldable pub Allowed : Caches Position Found → Night → Event ℕ → Type 0
  Allowed C N (write a v) = (rest : List (Event ℕ)) × (waiting N ≡ write a v ∷ rest)
  Allowed C N (mark a v) = Remarked sp a (present N a) v
  Allowed C N (store a v) = (¬ PoolWord sp a) ⊎ Given C N a

  -- AN HONEST NIGHT: what the machine and the caller promise. At first all is whole, and nothing is held. A call sees memory but for marks, and reports
  -- at most the ticket of the moment at which the shootdown began that was done last. No write waits when a shootdown begins.
  unfoldable pub Honest : Caches Position Found → Night → Type 0
  Honest C (dusk m) = (role : ℕ → Role) × Whole h sp m role
  Honest C (calls N a) = Honest C N × Saw sp (code_sees N) a.saw × Within (ticket_of (book_of (last_began N) sp)) a.call
  Honest C (happens N e) = Honest C N × Allowed C N e
  Honest C (begins N) = Honest C N × (waiting N ≡ [])
  Honest C (done N T) = Honest C N × (cs : List Act) × (rest : List (List Act)) × (due N ≡ cs ∷ rest)

  -- Each shootdown tells every address that is H of a call made before it began, and after the one before it began.
  unfoldable pub Telling : (Call → (ℕ → ℕ) → ℕ → Type 0) → Night → Type 0
  Telling H (dusk m) = Unit {0}
  Telling H (calls N a) = Telling H N
  Telling H (happens N e) = Telling H N
  Telling H (begins N) = Telling H N
  Telling H (done N T) = Telling H N × ((va : ℕ) → Hits H (front (due N)) va → T va)

  -- A COMPLETE NIGHT: it tells the addresses of every page that was unmapped.
  abbrev pub Complete : Night → Type 0
  Complete = Telling Unmaps

  -- AN EXACT NIGHT: and of every page that was protected. (Who leaves that out, as kernels do where rights only grow, may be given the old rights.)
  abbrev pub Exact : Night → Type 0
  Exact = Telling Hit

-- A FULL FLUSH each time: every address is told.
unfoldable pub Flushes : Night → Type 0
Flushes (dusk m) = Unit {0}
Flushes (calls N a) = Flushes N
Flushes (happens N e) = Flushes N
Flushes (begins N) = Flushes N
Flushes (done N T) = Flushes N × ((va : ℕ) → T va)

-- M IS N, AND LATER: these calls were made since, and this has happened.
pub data Onward (N : Night) : Night → List Act → List (Event ℕ) → Type 1 where
  same : Onward N N [] []
  called : {M : Night} {cs : List Act} {gs : List (Event ℕ)} → Onward N M cs gs → (a : Act) → Onward N (calls M a) (cs ++ (a ∷ [])) gs
  happened : {M : Night} {cs : List Act} {gs : List (Event ℕ)} → Onward N M cs gs → (e : Event ℕ) → Onward N (happens M e) cs (gs ++ (e ∷ []))
  begun : {M : Night} {cs : List Act} {gs : List (Event ℕ)} → Onward N M cs gs → Onward N (begins M) cs gs
  ended : {M : Night} {cs : List Act} {gs : List (Event ℕ)} → Onward N M cs gs → (T : ℕ → Type 0) → Onward N (done M T) cs gs
