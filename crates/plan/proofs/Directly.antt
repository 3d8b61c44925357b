-- What is done at once is what was decided.
use Rattle.std.proofs.Common.{◌≡◌, ℕ, suc, ◌+◌, ◌^◌, ◌≤◌, Bool, true, false, cond, List, sym, refl, ap, ◌∙◌, arith, Option, Result, Some, None, Ok, Err}
use Rattle.plan.specs.declared.direct.Stop.TheVariants as stop
use Rattle.plan.specs.declared.direct.Stop.{Stop}
use Rattle.word.specs.Memory.{memory, holds}
use Rattle.word.specs.Writes.{Wrote}
use Rattle.entry.specs.Entry.{size_of}
use Rattle.entry.specs.Words.{made_page}
use Rattle.walk.specs.Walk.{index_of}
use Rattle.pool.specs.Book.{names_of}
use Rattle.pool.specs.declared.Space.{Space}
use Rattle.plan.specs.declared.Reason.{Reason}
use Rattle.plan.specs.declared.Reason.TheVariants.{Overlap}
use Rattle.plan.specs.declared.descent.Way.{Way}
use Rattle.plan.specs.declared.descent.Why.{Why}
use Rattle.plan.specs.declared.descent.Why.TheVariants as why
use Rattle.plan.specs.declared.maps.Asked.{Asked}
use Rattle.plan.specs.Descend.{Going, start_of, push_of, stop_of, down_of, end_of, way_of}
use Rattle.plan.specs.Map.{Placed, Refused, fits_of, shape_of, allowed_of, meets_of, because_of, stopped_of, fitting_of, standing_of, shaped_of, decide_of}
use Rattle.plan.specs.Rights.{write_execute}
use Rattle.plan.specs.AtOnce.{lead_of, Comes, once_of, once_writes, Found, AtOnce}
use Rattle.plan.proofs.Leads.{lead_page, lead_nothing, lead_table}
use Rattle.plan.proofs.Placings.{place_here}
use Rattle.plan.proofs.Shapes.{shape_fits, fits_level, shaped, allowed_strict}
use Rattle.pool.proofs.Opening.{names_shows}

-- the way came to the table in page t, whose entry was looked at, and set where nothing was there
module _ (left rest : ℕ) (s after : List ℕ) (sp : Space) (n va x t : ℕ)
    (come : Comes (holds s sp.origin) (memory s sp.origin) sp n va (down_of (holds s sp.origin) (memory s sp.origin) sp n va 4 (start_of sp)) t) where
  stops : (y : Why) (v : ℕ) (w : Way)
      → down_of (holds s sp.origin) (memory s sp.origin) sp n va (suc n) (Going t come.way) ≡ stop_of y n v w
      → way_of (holds s sp.origin) (memory s sp.origin) sp va n ≡ record { why = y; level = n; word = v; a = w.a; b = w.b; c = w.c; d = w.d }
  unfolding way_of end_of stop_of
  stops y v w e = ap end_of (come.trail ∙ e)

  pub settled : (l : Result ℕ Stop) → lead_of (holds s sp.origin) (memory s sp.origin) sp va n t ≡ l
      → Wrote sp.origin (once_writes t (index_of n va) x l) left rest s after → Found left rest s after sp n va x (once_of l)
  unfolding once_of once_writes push_of
  settled (Err stop.Nothing) e f =
      let k = stops why.Nothing _ _ (lead_nothing _ _ sp n va n t come.way e) in
      (record { table = t; why = ap (λ w. w.why) k; level = ap (λ w. w.level) k; last = ap (λ w. w.a) k; order = f }, refl)
  settled (Err stop.Page) e f =
      (record { by = true; why = ap (λ w. w.why) (stops why.Page _ _ (lead_page _ _ sp n va n t come.way e)); order = f }, refl)
  settled (Ok u) e f =
      (record { by = false; why = ap (λ w. w.why) (stops why.Table _ _ (lead_table _ _ sp n va t u come.way e)); order = f }, refl)
  settled (Err stop.Stray) e f = f

module _ (h : ℕ → Bool) (m : ℕ → ℕ) (sp : Space) (q : Asked) (n : ℕ) where
  -- where all but the way was found right, the way decides
  by_the_way : allowed_of q ≡ Ok n → names_of h m sp ≡ Ok tt → meets_of sp q.frame q.size ≡ false
      → decide_of h m sp q ≡ stopped_of h m sp q n (way_of h m sp q.base n)
  unfolding decide_of shaped_of standing_of fitting_of
  by_the_way a b c = rw (a, b, c)

module _ (left rest : ℕ) (s after : List ℕ) (sp : Space) (q : Asked) (n x : ℕ) (Made_so : made_page n q.frame q.rights ≡ Some x) where
  abbrev H : ℕ → Bool
  H = holds s sp.origin

  abbrev M : ℕ → ℕ
  M = memory s sp.origin

  at_once : (d : Placed) (o : Option (Result ℕ Reason)) → d ≡ stopped_of H M sp q n (way_of H M sp q.base n) → Found left rest s after sp n q.base x o → AtOnce left rest s after sp d o
  unfolding stopped_of because_of
  at_once d (Some (Ok k)) e (f, z) = (
    record {
      leaf = record { table = f.table; index = index_of n q.base; word = x };
      decided = rw (e, f.why, f.level, f.last) (sym (place_here q n n f.table x Made_so H M sp _ (index_of n q.base) (omega arith) refl));
      order = f.order;
    },
    z,
  )
  at_once d (Some (Err y)) e (f, z) = (rw (e, f.why) (go _ f.by), z, f.order)
    where
      go : (v : Way) (b : Bool) → because_of H M sp q n v (cond b why.Page why.Table) ≡ Refused Overlap
      go v true = refl
      go v false = refl
  at_once d None e f = f

  -- the tests in the order of the code: size, alignment and range, the rights, the pool, whether the frame meets it
  pub found_at_once : (k size : ℕ) (met : Bool) → n ≤ 2 → q.size ≡ size → size ≡ size_of n → fits_of n size q.base q.frame ≡ Ok k
      → write_execute q.rights ≡ false → names_of H M sp ≡ Ok tt
      → (q.frame + size ≤ 2 ^ 52 → sp.pages ≤ 2 ^ 32 → met ≡ meets_of sp q.frame size) → met ≡ false
      → (o : Option (Result ℕ Reason)) → Found left rest s after sp n q.base x o → AtOnce left rest s after sp (decide_of H M sp q) o
  found_at_once k size met low asked sized fit strict st m free o =
      let shape : shape_of q.size q.base q.frame ≡ Ok n = shape_fits n q.size q.base q.frame low (asked ∙ sized) ∙ (rw asked fit ∙ ap Ok (fits_level n k size q.base q.frame fit)) in
      let ends : q.frame + size ≤ 2 ^ 52 = rw (← asked) (shaped q.base q.frame n q.size shape).frame_fits in
      let apart : meets_of sp q.frame q.size ≡ false = rw asked (sym (m ends (names_shows H M sp st).fits.small) ∙ free) in
      at_once (decide_of H M sp q) o (by_the_way H M sp q n (allowed_strict q n shape strict) st apart)
