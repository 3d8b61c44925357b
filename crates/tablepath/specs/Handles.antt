-- ONE HANDLE: what a call does that names another space than the one that is there; and what a call on one space does to another.
use Rattle.std.specs.Prelude.{ℕ, ◌+◌, ◌≤◌, Bool, false, [], ◌⊎◌, ◌≢◌, ◌≡◌, Ok, Err}
use Rattle.pool.specs.Layout.{signature_at, pages_at, root_at}
use Rattle.pool.specs.Book.{word_of, signature, names_of}
use Rattle.pool.specs.declared.Space.{Space}
use Rattle.pool.specs.declared.Reason.{Reason as PoolReason}
use Rattle.pool.specs.declared.Reason.TheVariants.{NoBook, OtherBook, BadRoot}
use Rattle.entry.specs.declared.Rights.{Rights}
use Rattle.plan.specs.Map.{allowed_of}
use Rattle.plan.specs.Rights.{write_execute}
use Rattle.plan.specs.declared.Reason.{Reason}
use Rattle.plan.specs.declared.Reason.TheVariants.{Pool}
use Rattle.plan.specs.declared.maps.Asked.{Asked}
use Rattle.tablepath.specs.declared.NotReleased.TheVariants as notreleased
use Rattle.tablepath.specs.Answers.{map_answer, unmap_answer, protect_answer, told_answer}
use Rattle.tablepath.specs.Calls.{Call, call_writes}
use Rattle.tablepath.specs.Calls as calls

-- the answer is a refusal; told's is one for the book
abbrev pub Refuses : (ℕ → Bool) → (ℕ → ℕ) → Space → Call → Type 0
Refuses h m sp (calls.map q) = (y : Reason) × (map_answer h m sp q ≡ Err y)
Refuses h m sp (calls.unmap va) = (y : Reason) × (unmap_answer h m sp va ≡ Err y)
Refuses h m sp (calls.protect va r) = (y : Reason) × (protect_answer h m sp va r ≡ Err y)
Refuses h m sp (calls.told t) = (y : PoolReason) × (told_answer h m sp t ≡ Err (notreleased.Pool y))

-- A CALL IS REJECTED: it is refused, and writes nothing
pub record Rejected (h : ℕ → Bool) (m : ℕ → ℕ) (sp : Space) (c : Call) : Type 0 where
  pub refused : Refuses h m sp c
  pub nothing : call_writes h m sp c ≡ []

-- WHY a space is not named, where its pool lies in the window: no signature; a signature, but other pages; these, but another root
pub record NamedNot (h : ℕ → Bool) (m : ℕ → ℕ) (sp : Space) : Type 0 where
  pub no_book : m (word_of sp signature_at) ≢ signature → names_of h m sp ≡ Err NoBook
  pub other_book : m (word_of sp signature_at) ≡ signature → m (word_of sp pages_at) ≢ sp.pages → names_of h m sp ≡ Err OtherBook
  pub bad_root : m (word_of sp signature_at) ≡ signature → m (word_of sp pages_at) ≡ sp.pages → m (word_of sp root_at) ≢ sp.root → names_of h m sp ≡ Err BadRoot

-- and that is the reason that every operation answers; of map, where size, alignment, range and rights fit, of protect, where the rights do
pub record RefusedFor (y : PoolReason) (h : ℕ → Bool) (m : ℕ → ℕ) (sp : Space) : Type 0 where
  pub map : (q : Asked) (l : ℕ) → allowed_of q ≡ Ok l → map_answer h m sp q ≡ Err (Pool y)
  pub unmap : (va : ℕ) → unmap_answer h m sp va ≡ Err (Pool y)
  pub protect : (va : ℕ) (r : Rights) → write_execute r ≡ false → protect_answer h m sp va r ≡ Err (Pool y)
  pub told : (t : ℕ) → told_answer h m sp t ≡ Err (notreleased.Pool y)

-- there is a book with exactly these numbers
pub record BookAt (m : ℕ → ℕ) (sp : Space) : Type 0 where
  pub marked : m (word_of sp signature_at) ≡ signature
  pub sized : m (word_of sp pages_at) ≡ sp.pages
  pub rooted : m (word_of sp root_at) ≡ sp.root

-- two pools share no page
abbrev pub Disjoint : Space → Space → Type 0
Disjoint sp other = (sp.first + sp.pages ≤ other.first) ⊎ (other.first + other.pages ≤ sp.first)
