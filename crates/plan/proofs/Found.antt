-- What it shows that a page was found: the way to it, its level, and what its entry says.
use Rattle.std.proofs.Common.{◌≡◌, ℕ, ◌%◌, ◌<◌, Bool, true, false, cond, leb, refl, subst, arith, eqb-true, leb-true, Result, Ok, Err}
use Rattle.pool.specs.declared.Reason.{Reason}
use Rattle.entry.specs.Entry.{size_of, says}
use Rattle.entry.specs.declared.Rights.{Rights}
use Rattle.entry.specs.declared.Entry.{Entry}
use Rattle.entry.specs.declared.Entry.TheVariants as entry
use Rattle.walk.specs.Walk.{canonical, index_of}
use Rattle.pool.specs.Book.{names_of}
use Rattle.pool.specs.declared.Space.{Space}
use Rattle.plan.specs.declared.descent.Way.{Way}
use Rattle.plan.specs.declared.descent.Why.{Why}
use Rattle.plan.specs.declared.descent.Why.TheVariants as why
use Rattle.plan.specs.declared.finding.PageEntry.{PageEntry}
use Rattle.plan.specs.declared.Reason.TheVariants.{BaseRange, NothingStarts, Stray}
use Rattle.plan.specs.Descend.{way_of}
use Rattle.plan.specs.Find.{starts_of, page_entry_of, found_because_of, found_stopped_of, sought_of, find_of}

pub record FoundAt (h : ℕ → Bool) (m : ℕ → ℕ) (sp : Space) (va : ℕ) (s : PageEntry) : Type 0 where
  pub names : names_of h m sp ≡ Ok tt
  pub address : canonical va ≡ true
  pub way : way_of h m sp va 4 ≡ s.way
  pub low : s.way.level < 4
  pub page : s.way.why ≡ why.Page
  pub starts : va % size_of s.way.level ≡ 0
  pub rights : Rights
  pub entry : says s.way.level s.way.word ≡ entry.Page s.frame rights
  pub size : s.size ≡ size_of s.way.level
  pub index : s.index ≡ index_of s.way.level va

module _ (h : ℕ → Bool) (m : ℕ → ℕ) (sp : Space) (va : ℕ) (s : PageEntry) where
  clash : ◌≡◌ {A = ℕ} 0 1 → FoundAt h m sp va s
  clash z = absurd (omega arith)

  module _ (w : Way) (st : names_of h m sp ≡ Ok tt) (u : canonical va ≡ true) (ew : way_of h m sp va 4 ≡ w) where
    spotted : w.level < 4 → w.why ≡ why.Page → va % size_of w.level ≡ 0 → (x : Entry) → says w.level w.word ≡ x → page_entry_of va w x ≡ Ok s
        → FoundAt h m sp va s
    unfolding page_entry_of
    spotted l y a entry.Nothing ex k = clash cc
    spotted l y a (entry.Table t g) ex k = clash cc
    spotted l y a (entry.Page f g) ex k =
        let same : record { way = w; index = index_of w.level va; frame = f; size = size_of w.level } ≡ s = cc in
        subst (FoundAt h m sp va) same (record { names = st; address = u; way = ew; low = l; page = y; starts = a; rights = g; entry = ex; size = refl; index = refl })

    starting : w.level < 4 → w.why ≡ why.Page → (b : Bool) → starts_of w.level va ≡ b
        → cond b (page_entry_of va w (says w.level w.word)) (Err NothingStarts) ≡ Ok s → FoundAt h m sp va s
    starting l y true eb k = spotted l y (unfold starts_of in eqb-true _ 0 eb) (says w.level w.word) refl k
    starting l y false eb k = clash cc

    because : w.level < 4 → (y : Why) → w.why ≡ y → found_because_of va w y ≡ Ok s → FoundAt h m sp va s
    unfolding found_because_of
    because l why.Stray e k = clash cc
    because l why.Nothing e k = clash cc
    because l why.Table e k = clash cc
    because l why.Page e k = starting l e (starts_of w.level va) refl k

    stopping : (b : Bool) → leb w.level 3 ≡ b → cond b (found_because_of va w w.why) (Err Stray) ≡ Ok s → FoundAt h m sp va s
    stopping true e k = because (omega (arith, leb-true w.level 3 e)) w.why refl k
    stopping false e k = clash cc

  sought : (b : Bool) → names_of h m sp ≡ Ok tt → canonical va ≡ b → cond b (found_stopped_of va (way_of h m sp va 4)) (Err BaseRange) ≡ Ok s
      → FoundAt h m sp va s
  unfolding found_stopped_of
  sought true st e k = let w : Way = way_of h m sp va 4 in stopping w st e refl (leb w.level 3) refl k
  sought false st e k = clash cc

  standing : (x : Result (Unit {0}) Reason) → names_of h m sp ≡ x → sought_of h m sp va x ≡ Ok s → FoundAt h m sp va s
  unfolding sought_of
  standing (Ok tt) st k = sought (canonical va) st refl k
  standing (Err r) st k = clash cc

  pub found_at : find_of h m sp va ≡ Ok s → FoundAt h m sp va s
  unfolding find_of
  found_at e = standing (names_of h m sp) refl e
