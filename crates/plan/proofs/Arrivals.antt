-- What follows from what the code keeps of a way, for the search of a page and for map.
use Rattle.std.proofs.Common.{◌≡◌, ℕ, ◌-◌, ◌<◌, ◌≤◌, Bool, true, false, sym, ap, ◌∙◌, arith, le-leb, Result, Some, Ok, Err}
use borrow.Author.Tests.{lt-leb}
use Rattle.entry.specs.Entry.{size_of, says}
use Rattle.entry.specs.Words.{made_page}
use Rattle.entry.specs.declared.Rights.{Rights}
use Rattle.entry.specs.declared.Entry.TheVariants as entry
use Rattle.walk.specs.Walk.{index_of}
use Rattle.pool.specs.declared.Space.{Space}
use Rattle.plan.specs.declared.Reason.{Reason}
use Rattle.plan.specs.declared.Reason.TheVariants.{NothingStarts, Stray, Overlap}
use Rattle.plan.specs.declared.finding.PageEntry.{PageEntry}
use Rattle.plan.specs.declared.descent.Way.{Way}
use Rattle.plan.specs.declared.descent.Why.{Why}
use Rattle.plan.specs.declared.descent.Why.TheVariants as why
use Rattle.plan.specs.declared.descent.Arrival.{Arrival}
use Rattle.plan.specs.declared.maps.Asked.{Asked}
use Rattle.plan.specs.declared.maps.Placing.{Placing}
use Rattle.plan.specs.declared.maps.Placing.TheVariants as placing
use Rattle.plan.specs.Descend.{Paged, framed_of, stop_at}
use Rattle.plan.specs.Find as find
use Rattle.plan.specs.Map as map
use Rattle.plan.proofs.Placings.{place_here}

spot_same : (a b : Way) (i j f g y z : ℕ) → a ≡ b → i ≡ j → f ≡ g → y ≡ z
    → ◌≡◌ {A = Result PageEntry Reason} (Ok (record { way = a; index = i; frame = f; size = y })) (Ok (record { way = b; index = j; frame = g; size = z }))
spot_same a b i j f g y z ea ei ef ey = rw (ea, ei, ef, ey)

page_found : (va : ℕ) (w : Way) (f : ℕ) (g : Rights) → w.why ≡ why.Page → find.starts_of w.level va ≡ true → says w.level w.word ≡ entry.Page f g
    → find.found_because_of va w w.why ≡ Ok (record { way = w; index = index_of w.level va; frame = f; size = size_of w.level })
unfolding find.found_because_of find.page_entry_of
page_found va w f g k s e = rw (k, s, e)

module _ (va : ℕ) (t : Arrival) (w : Way) (e : t ≡ stop_at va w) where
  way_is : t.way ≡ w
  unfolding stop_at
  way_is = ap (λ (a : Arrival). a.way) e

  index_is : t.index ≡ index_of w.level va
  unfolding stop_at
  index_is = ap (λ (a : Arrival). a.index) e

  frame_is : t.frame ≡ framed_of (says w.level w.word)
  unfolding stop_at
  frame_is = ap (λ (a : Arrival). a.frame) e

  why_is : (y : Why) → t.way.why ≡ y → w.why ≡ y
  why_is y k = ap (λ (a : Way). a.why) (sym way_is) ∙ k

  level_is : t.way.level ≡ w.level
  level_is = ap (λ (a : Way). a.level) way_is

  -- The search ---------------------------------------------------------------------------------------------------------------------

  pub stopped_far : 3 < t.way.level → Err Stray ≡ find.found_stopped_of va w
  unfolding find.found_stopped_of
  stopped_far u = simp (lt-leb w.level 3 (omega (arith, level_is)))

  module _ (u : t.way.level ≤ 3) where
    near : find.found_stopped_of va w ≡ find.found_because_of va w w.why
    unfolding find.found_stopped_of
    near = simp (le-leb w.level 3 (omega (arith, level_is)))

    pub stopped_stray : t.way.why ≡ why.Stray → Err Stray ≡ find.found_stopped_of va w
    unfolding find.found_because_of
    stopped_stray k = sym (near ∙ rw (why_is why.Stray k))

    pub stopped_nothing : t.way.why ≡ why.Nothing → Err NothingStarts ≡ find.found_stopped_of va w
    unfolding find.found_because_of
    stopped_nothing k = sym (near ∙ rw (why_is why.Nothing k))

    pub stopped_table : t.way.why ≡ why.Table → Err NothingStarts ≡ find.found_stopped_of va w
    unfolding find.found_because_of
    stopped_table k = sym (near ∙ rw (why_is why.Table k))

    module _ (k : t.way.why ≡ why.Page) where
      pub stopped_astride : find.starts_of t.way.level va ≡ false → Err NothingStarts ≡ find.found_stopped_of va w
      unfolding find.found_because_of
      stopped_astride s = sym (near ∙ rw (why_is why.Page k, ap (λ l. find.starts_of l va) (sym level_is) ∙ s))

      pub stopped_page : (w.why ≡ why.Page → Paged w) → find.starts_of t.way.level va ≡ true → (z : ℕ) → z ≡ size_of t.way.level
          → Ok (record { way = t.way; index = t.index; frame = t.frame; size = z }) ≡ find.found_stopped_of va w
      stopped_page p s z ez =
          let page = p (why_is why.Page k) in
          let f : t.frame ≡ page.frame = frame_is ∙ ap framed_of page.entry in
          let size : z ≡ size_of w.level = ez ∙ ap size_of level_is in
          spot_same _ _ _ _ _ _ _ _ way_is index_is f size ∙ sym (near ∙ page_found va w page.frame page.rights (why_is why.Page k) (ap (λ l. find.starts_of l va) (sym level_is) ∙ s) page.entry)

-- Map --------------------------------------------------------------------------------------------------------------------------------

module _ (q : Asked) (target x : ℕ) (h : ℕ → Bool) (m : ℕ → ℕ) (sp : Space) (t : Arrival) (w : Way) (e : t ≡ stop_at q.base w) where
  pub vacant_here : made_page target q.frame q.rights ≡ Some x → t.way.level ≤ target
      → Ok (placing.Here (record { table = t.way.a; index = t.index; word = x }))
      ≡ map.placing_of (map.place_of q target w.level w.a (map.spared_of w (map.supply_of h m sp (w.level - target))))
  vacant_here k u =
      let a : t.way.a ≡ w.a = ap (λ (y : Way). y.a) (way_is q.base t w e) in
      rw a (place_here q target w.level w.a x k h m sp w t.index (omega (arith, level_is q.base t w e)) (index_is q.base t w e))

  pub vacant_built : (r : Result Placing Reason) → r ≡ map.placing_of (map.place_of q target t.way.level t.way.a (map.spared_of t.way (map.supply_of h m sp (t.way.level - target))))
      → r ≡ map.placing_of (map.place_of q target w.level w.a (map.spared_of w (map.supply_of h m sp (w.level - target))))
  vacant_built r k = k ∙ ap (λ (y : Way). map.placing_of (map.place_of q target y.level y.a (map.spared_of y (map.supply_of h m sp (y.level - target))))) (way_is q.base t w e)

  pub stopped_vacant : t.way.why ≡ why.Nothing → (r : Result Placing Reason) → r ≡ map.placing_of (map.place_of q target w.level w.a (map.spared_of w (map.supply_of h m sp (w.level - target))))
      → r ≡ map.placing_of (map.stopped_of h m sp q target w)
  unfolding map.stopped_of map.because_of
  stopped_vacant k r f = f ∙ rw (why_is q.base t w e why.Nothing k)

  pub stopped_overlap : t.way.why ≡ why.Page → Err Overlap ≡ map.placing_of (map.stopped_of h m sp q target w)
  unfolding map.stopped_of map.because_of map.placing_of
  stopped_overlap k = rw (why_is q.base t w e why.Page k)

  pub stopped_over_table : t.way.why ≡ why.Table → Err Overlap ≡ map.placing_of (map.stopped_of h m sp q target w)
  unfolding map.stopped_of map.because_of map.placing_of
  stopped_over_table k = rw (why_is q.base t w e why.Table k)

  pub stopped_astray : t.way.why ≡ why.Stray → Err Stray ≡ map.placing_of (map.stopped_of h m sp q target w)
  unfolding map.stopped_of map.because_of map.placing_of
  stopped_astray k = rw (why_is q.base t w e why.Stray k)
