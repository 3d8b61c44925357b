-- WHAT THE CALLS OF A NIGHT SAY, by their own answers, of a frame, of an address, and of a table's page.
use Rattle.std.specs.Prelude.{ℕ, ◌+◌, ◌<◌, ◌≤◌, Bool, List, [], ◌∷◌, ◌++◌, ◌⊎◌, ◌≡◌, Ok}
use Rattle.entry.specs.declared.Rights.{Rights}
use Rattle.walk.specs.declared.Found.{Found}
use Rattle.walk.specs.declared.Found.TheVariants.{Page}
use Rattle.pool.specs.Book.{book_of, page_at}
use Rattle.pool.specs.declared.Space.{Space}
use Rattle.plan.specs.declared.maps.Asked.{Asked}
use Rattle.tablepath.specs.Answers.{map_answer}
use Rattle.tablepath.specs.Calls.{means, map, unmap, Act}
use Rattle.tablepath.specs.Nights.{Night, dusk, calls, happens, begins, done, uncovered, Hit, Hits}

-- the first memory of the night
unfoldable pub dawn : Night → ℕ → ℕ
dawn (dusk m) = m
dawn (calls N a) = dawn N
dawn (happens N e) = dawn N
dawn (begins N) = dawn N
dawn (done N T) = dawn N

-- A frame: the bytes from f on, s of them ----------------------------------------------------------------------------------------------

-- o is no page that meets it
abbrev pub Avoids : (f s : ℕ) → Found → Type 0
Avoids f s o = (base size frame : ℕ) (r : Rights) → o ≡ Page base size frame r → (frame + size ≤ f) ⊎ (f + s ≤ frame)

module _ (h : ℕ → Bool) (sp : Space) (f s : ℕ) where
  -- in the memory m some address has a page that starts at b, and meets it
  pub record MappedAt (m : ℕ → ℕ) (b : ℕ) : Type 0 where
    pub address : ℕ
    pub size : ℕ
    pub frame : ℕ
    pub rights : Rights
    pub meant : means h sp m address ≡ Page b size frame rights
    pub begins_before : frame < f + s
    pub ends_behind : f < frame + size

  -- the call mapped a page at b that meets it
  pub record Maps (b : ℕ) (a : Act) : Type 0 where
    pub asked : Asked
    pub is_map : a.call ≡ map asked
    pub tables : ℕ
    pub is_done : map_answer h a.saw sp asked ≡ Ok tables
    pub at_base : asked.base ≡ b
    pub begins_before : asked.frame < f + s
    pub ends_behind : f < asked.frame + asked.size

  -- THE PAGES THAT MEET IT, by their bases: those of before (U), and those that the calls mapped, but for those that were unmapped since
  unfoldable pub StillMapped : (ℕ → Type 0) → List Act → ℕ → Type 0
  StillMapped U [] b = U b
  StillMapped U (a ∷ cs) b = StillMapped (λ c. (U c ⊎ Maps c a) × ¬ (a.call ≡ unmap c)) cs b

-- An address ----------------------------------------------------------------------------------------------------------------------------------

-- the call mapped the page that q asks for, and va lies in it
pub record MapsTo (h : ℕ → Bool) (sp : Space) (q : Asked) (va : ℕ) (a : Act) : Type 0 where
  pub is_map : a.call ≡ map q
  pub tables : ℕ
  pub is_done : map_answer h a.saw sp q ≡ Ok tables
  pub from : q.base ≤ va
  pub upto : va < q.base + q.size

-- the page that q asks for
abbrev pub page_of : Asked → Found
page_of q = Page q.base q.size q.frame q.rights

-- since the last period began va was mapped as q asks, and no call has touched it since
pub record MappedSince (h : ℕ → Bool) (sp : Space) (N : Night) (q : Asked) (va : ℕ) : Type 0 where
  pub earlier : List Act
  pub mapping : Act
  pub later : List Act
  pub are : uncovered N ≡ earlier ++ (mapping ∷ later)
  pub maps : MapsTo h sp q va mapping
  pub spares : ¬ Hits h sp (Hit h sp) later va

-- A table: page t of the pool ------------------------------------------------------------------------------------------------------------

-- the book lists it, as free or as set aside
abbrev pub InBook : Space → (ℕ → ℕ) → ℕ → Type 0
InBook sp m t = (j : ℕ) × (j < (book_of m sp).free + (book_of m sp).aside) × (page_at m sp j ≡ t)

-- the call links it: it maps a page, and t is one of the free pages that it makes tables of
pub record Links (h : ℕ → Bool) (sp : Space) (t : ℕ) (a : Act) : Type 0 where
  pub asked : Asked
  pub is_map : a.call ≡ map asked
  pub tables : ℕ
  pub is_done : map_answer h a.saw sp asked ≡ Ok tables
  pub number : ℕ
  pub taken : number < tables
  pub is_page : page_at a.saw sp number ≡ t
