-- Map where no table is missing: what the one entry leads to that the way came to, and what may be said of the decision then.
use Rattle.std.specs.Prelude.{◌≡◌, ℕ, suc, Bool, cond, List, [], ◌∷◌, Option, Result, Some, None, Ok, Err}
use Rattle.plan.specs.declared.direct.Stop.TheVariants as stop
use Rattle.plan.specs.declared.direct.Stop.{Stop}
use Rattle.word.specs.Memory.{memory, holds}
use Rattle.word.specs.Writes.{Write, write, Wrote}
use Rattle.entry.specs.Entry.{says}
use Rattle.entry.specs.declared.Entry.{Entry}
use Rattle.entry.specs.declared.Entry.TheVariants as entry
use Rattle.walk.specs.Walk.{index_of, entry_of}
use Rattle.pool.specs.Book.{in_pool}
use Rattle.pool.specs.declared.Space.{Space}
use Rattle.plan.specs.declared.Reason.{Reason}
use Rattle.plan.specs.declared.Reason.TheVariants.{Overlap}
use Rattle.plan.specs.declared.descent.Way.{Way}
use Rattle.plan.specs.declared.descent.Why.TheVariants as why
use Rattle.plan.specs.declared.maps.Leaf.{Leaf}
use Rattle.plan.specs.declared.maps.Placing.TheVariants.{Here}
use Rattle.plan.specs.Descend.{Descent, Going, down_of, end_of, way_of}
use Rattle.plan.specs.Map.{Placed, Refused, placing_of, leaf_writes}

-- The way ------------------------------------------------------------------------------------------------------------------------

unfoldable pub lead_by : Entry → Result ℕ Stop
lead_by entry.Nothing = Err stop.Nothing
lead_by (entry.Page f g) = Err stop.Page
lead_by (entry.Table t g) = Ok t

-- the entry of the address in the table in page t, of level n
unfoldable pub lead_of : (ℕ → Bool) → (ℕ → ℕ) → Space → ℕ → ℕ → ℕ → Result ℕ Stop
lead_of h m sp va n t = cond (in_pool sp t) (cond (h t) (lead_by (says n (m (entry_of n va t)))) (Err stop.Stray)) (Err stop.Stray)

-- the way s has come to the table in page t, of the target's level
pub record Comes (h : ℕ → Bool) (m : ℕ → ℕ) (sp : Space) (target va : ℕ) (s : Descent) (t : ℕ) : Type 0 where
  pub way : Way
  pub trail : s ≡ down_of h m sp target va (suc target) (Going t way)

-- what the way s is, where this is what its last entry above the target leads to
abbrev pub Leads : (ℕ → Bool) → (ℕ → ℕ) → Space → ℕ → ℕ → Descent → Result ℕ Stop → Type 0
Leads h m sp target va s (Ok t) = Comes h m sp target va s t
Leads h m sp target va s (Err stop.Page) = (end_of s).why ≡ why.Page
Leads h m sp target va s (Err stop.Nothing) = Unit {0}
Leads h m sp target va s (Err stop.Stray) = Unit {0}

-- The entry ------------------------------------------------------------------------------------------------------------------------

unfoldable pub once_of : Result ℕ Stop → Option (Result ℕ Reason)
once_of (Ok t) = Some (Err Overlap)
once_of (Err stop.Page) = Some (Err Overlap)
once_of (Err stop.Nothing) = Some (Ok 0)
once_of (Err stop.Stray) = None

unfoldable pub once_writes : ℕ → ℕ → ℕ → Result ℕ Stop → List Write
once_writes t i x (Ok u) = []
once_writes t i x (Err stop.Page) = []
once_writes t i x (Err stop.Nothing) = write t i x ∷ []
once_writes t i x (Err stop.Stray) = []

-- nothing was there, in the table in this page, and the word was written
pub record Free (left rest : ℕ) (s after : List ℕ) (sp : Space) (n va x : ℕ) : Type 0 where
  pub table : ℕ
  pub why : (way_of (holds s sp.origin) (memory s sp.origin) sp va n).why ≡ why.Nothing
  pub level : (way_of (holds s sp.origin) (memory s sp.origin) sp va n).level ≡ n
  pub last : (way_of (holds s sp.origin) (memory s sp.origin) sp va n).a ≡ table
  pub order : Wrote sp.origin (write table (index_of n va) x ∷ []) left rest s after

-- the way stopped at something, and nothing was written
pub record Taken (left rest : ℕ) (s after : List ℕ) (sp : Space) (n va : ℕ) : Type 0 where
  pub by : Bool
  pub why : (way_of (holds s sp.origin) (memory s sp.origin) sp va n).why ≡ cond by why.Page why.Table
  pub order : Wrote sp.origin [] left rest s after

abbrev pub Found : ℕ → ℕ → List ℕ → List ℕ → Space → ℕ → ℕ → ℕ → Option (Result ℕ Reason) → Type 0
Found left rest s after sp n va x (Some (Ok k)) = Free left rest s after sp n va x × (k ≡ 0)
Found left rest s after sp n va x (Some (Err y)) = Taken left rest s after sp n va × (y ≡ Overlap)
Found left rest s after sp n va x None = Wrote sp.origin [] left rest s after

-- The decision -----------------------------------------------------------------------------------------------------------------------

pub record Done (left rest : ℕ) (s after : List ℕ) (sp : Space) (d : Placed) : Type 0 where
  pub leaf : Leaf
  pub decided : placing_of d ≡ Ok (Here leaf)
  pub order : Wrote sp.origin (leaf_writes leaf) left rest s after

-- WHAT IS DONE AT ONCE is what was decided: the one entry is written, or the overlap refused; what is left unsaid has changed nothing
abbrev pub AtOnce : ℕ → ℕ → List ℕ → List ℕ → Space → Placed → Option (Result ℕ Reason) → Type 0
AtOnce left rest s after sp d (Some (Ok k)) = Done left rest s after sp d × (k ≡ 0)
AtOnce left rest s after sp d (Some (Err y)) = (d ≡ Refused Overlap) × (y ≡ Overlap) × Wrote sp.origin [] left rest s after
AtOnce left rest s after sp d None = Wrote sp.origin [] left rest s after
