-- NO PAGE IS WRITABLE AND EXECUTABLE: who asks for one is refused, for any bytes; where no address means one, none ever does, and no walk and no
-- cache gives one. Tables that were made otherwise may have such pages, and are whole all the same (`older_tables`).
use Rattle.std.specs.Prelude.{ℕ, Bool, true, false, List, ◌≢◌, ◌≡◌, Ok, Err}
use Rattle.word.specs.Memory.{memory, holds}
use Rattle.entry.specs.declared.Rights.{Rights}
use Rattle.walk.specs.declared.Found.{Found}
use Rattle.walk.specs.declared.Found.TheVariants.{Page, Nothing, Outside, NoAddress}
use Rattle.world.specs.Reports.{Caches}
use Rattle.tables.specs.Walks.{Position}
use Rattle.pool.specs.declared.Space.{Space}
use Rattle.plan.specs.Map.{shape_of}
use Rattle.plan.specs.Rights.{write_execute}
use Rattle.plan.specs.declared.Reason.TheVariants.{WriteExecute}
use Rattle.plan.specs.declared.maps.Asked.{Asked}
use Rattle.tablepath.specs.Answers.{map_answer, unmap_answer, protect_answer}
use Rattle.tablepath.specs.Calls.{means}
use Rattle.tablepath.specs.Nights.{Night, present, Gets}
use Rattle.tablepath.specs.Gone.{dawn}

-- o is no page that is writable and executable
unfoldable pub NotBoth : Found → Type 0
NotBoth (Page base size frame rights) = write_execute rights ≡ false
NotBoth Nothing = Unit {0}
NotBoth Outside = Unit {0}
NotBoth NoAddress = Unit {0}

-- STRICT: no address means such a page; the rights are those of its whole way
abbrev pub Strict : (ℕ → Bool) → Space → (ℕ → ℕ) → Type 0
Strict h sp m = (va : ℕ) → NotBoth (means h sp m va)

-- so of bytes: look-up answers none
abbrev pub StrictBytes : List ℕ → Space → Type 0
StrictBytes s sp = Strict (holds s sp.origin) sp (memory s sp.origin)

-- WHO ASKS FOR ONE IS REFUSED, whatever memory says: by protect for that and before all else, by map for that or for its size, alignment or range;
-- and for no other cause is this reason given
pub record RefusesBoth (h : ℕ → Bool) (m : ℕ → ℕ) (sp : Space) : Type 0 where
  pub map : (q : Asked) (l : ℕ) → shape_of q.size q.base q.frame ≡ Ok l → write_execute q.rights ≡ true → map_answer h m sp q ≡ Err WriteExecute
  pub never_mapped : (q : Asked) (k : ℕ) → write_execute q.rights ≡ true → map_answer h m sp q ≢ Ok k
  pub protect : (va : ℕ) (r : Rights) → write_execute r ≡ true → protect_answer h m sp va r ≡ Err WriteExecute
  pub only_map : (q : Asked) → map_answer h m sp q ≡ Err WriteExecute → write_execute q.rights ≡ true
  pub only_protect : (va : ℕ) (r : Rights) → protect_answer h m sp va r ≡ Err WriteExecute → write_execute r ≡ true
  pub never_unmap : (va : ℕ) → unmap_answer h m sp va ≢ Err WriteExecute

module _ (h : ℕ → Bool) (sp : Space) where
  -- AT EVERY MOMENT OF A NIGHT that began strict no address means such a page.
  abbrev pub NightStrict : Night → Type 0
  NightStrict N = Strict h sp (dawn N) → Strict h sp (present N)

  -- NO WALK AND NO CACHE gives one: of caches that keep so much, and held nothing at first.
  abbrev pub NeverBoth : Caches Position Found → Night → Type 0
  NeverBoth C N = Strict h sp (dawn N) → (va : ℕ) (o : Found) → Gets h sp C N va o → NotBoth o
