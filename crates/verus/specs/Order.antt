-- IN WHICH ORDER an operation writes, as the tokens demand it (wrapped_token.rs): write_stutter of map asks that no change was made yet, that
-- of unmap that it was made. And WHERE it writes not (map_frame_aux, unmap_aux, protect_aux): regions that are neither the subtree's nor
-- new keep their words. The book of the pool has no counterpart there.
use Rattle.std.specs.Prelude.{ℕ, suc, ◌+◌, ◌<◌, ◌≤◌, List, [], ◌∷◌, ◌++◌, ◌≡◌}
use Rattle.word.specs.Memory.{at}
use Rattle.word.specs.Writes.{Write, after, Every}
use Rattle.world.specs.Events.{All}
use Rattle.tables.specs.Roles.{Setting, Role, free}
use Rattle.tables.specs.Way.{Comes}
use Rattle.tables.specs.Clearing.{events_of}
use Rattle.pool.specs.Layout.{book_pages}
use Rattle.pool.specs.declared.Space.{Space}
use Rattle.verus.specs.Mappings.{Mappings, SameMap}
use Rattle.verus.specs.Walks.{interp}
use Rattle.verus.specs.Trees.{UsedBy}

-- what the tables of a space mean to the source
abbrev pub meant : Space → (ℕ → ℕ) → Mappings
meant sp m = interp m sp.root

-- page q is the book's
abbrev pub InBook : Space → ℕ → Type 0
InBook sp q = (sp.first ≤ q) × (q < sp.first + book_pages sp.pages)

-- The order --------------------------------------------------------------------------------------------------------------------------

-- THE CHANGE COMES FIRST: with the first write the map is what it will be, and stays so at every later moment.
pub record ChangeFirst (sp : Space) (m : ℕ → ℕ) (xs : List Write) (now : Mappings) : Type 0 where
  pub change : Write
  pub stutters : List Write
  pub split : xs ≡ change ∷ stutters
  pub made : All (after m (change ∷ [])) (events_of stutters) (λ n. SameMap (meant sp n) now)

-- THE CHANGE IS THE LAST WRITE OF A TABLE: until then the map is at every moment what it was; behind it the book alone is written.
pub record ChangeLast (sp : Space) (m : ℕ → ℕ) (xs : List Write) (now : Mappings) : Type 0 where
  pub stutters : List Write
  pub change : Write
  pub behind : List Write
  pub split : xs ≡ (stutters ++ (change ∷ [])) ++ behind
  pub before : All m (events_of stutters) (λ n. SameMap (meant sp n) (meant sp m))
  pub made : All (after m (stutters ++ (change ∷ []))) (events_of behind) (λ n. SameMap (meant sp n) now)
  pub book : Every (InBook sp) behind

-- Framing ----------------------------------------------------------------------------------------------------------------------------

-- every word of page q is what it was
abbrev pub KeepsWords : (ℕ → ℕ) → (ℕ → ℕ) → ℕ → Type 0
KeepsWords m m' q = (i : ℕ) → i < 512 → m' (at q i) ≡ m (at q i)

-- map_frame_aux, of each table t that the walk of the base comes to: pages that t does not use and that are not new keep their words. role
-- and role' are the roles before and after; a page is new that was free and is no more.
abbrev pub FramedBySubtrees : Setting → Space → (ℕ → ℕ) → (ℕ → Role) → (ℕ → Role) → List Write → ℕ → Type 0
FramedBySubtrees σ sp m role role' xs base =
    (l t q : ℕ) → Comes σ m base (suc l) t → ¬ UsedBy m l t q → (role q ≡ free → role' q ≡ free) → ¬ InBook sp q → KeepsWords m (after m xs) q

-- protect_aux: the same, and no page is new
abbrev pub KeepsOutside : Setting → (ℕ → ℕ) → List Write → ℕ → Type 0
KeepsOutside σ m xs base = (l t q : ℕ) → Comes σ m base (suc l) t → ¬ UsedBy m l t q → KeepsWords m (after m xs) q

-- unmap_aux: the writes within the subtree of t come first, then those above it. Until then pages that t does not use keep their words, and
-- then those that it does.
pub record InnerFirst (sp : Space) (m : ℕ → ℕ) (xs : List Write) (l t : ℕ) : Type 0 where
  pub inner : List Write
  pub outer : List Write
  pub split : xs ≡ inner ++ outer
  pub outside : (q : ℕ) → ¬ UsedBy m l t q → ¬ InBook sp q → KeepsWords m (after m inner) q
  pub inside : (q : ℕ) → UsedBy m l t q → KeepsWords (after m inner) (after m xs) q
