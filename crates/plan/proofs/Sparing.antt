-- OF ANY BYTES: the pages that map takes differ from each other, and none of them is a table that the way came through.
use Rattle.std.proofs.Common.{◌≡◌, ℕ, ◌-◌, ◌<◌, ◌≤◌, Bool, true, false, cond, eqb, leb, ◌≢◌, sym, refl, ap, ◌∙◌, subst, arith, eq-eqb, ne_eqb, eqb-true, le-leb, leb-false, Option, Result, Some, None, Ok, Err}
use mathlib.Core.Bool.{false≢true}
use native.Mathlib.Decide.{ℕ_discrete, dec_le}
use borrow.Author.Tests.{lt-leb}
use Rattle.pool.specs.declared.Reason.{Reason as PoolReason}
use Rattle.plan.specs.declared.Reason.{Reason}
use Rattle.entry.specs.Words.{made_page}
use Rattle.pool.specs.Book.{names_of}
use Rattle.pool.specs.declared.Space.{Space}
use Rattle.plan.specs.declared.Reason.TheVariants.{FrameInPool, BadList}
use Rattle.plan.specs.declared.descent.Way.{Way}
use Rattle.plan.specs.declared.descent.Why.{Why}
use Rattle.plan.specs.declared.descent.Why.TheVariants as why
use Rattle.plan.specs.declared.maps.Asked.{Asked}
use Rattle.plan.specs.declared.maps.Mapping.{Mapping}
use Rattle.plan.specs.declared.maps.NewTables.{NewTables}
use Rattle.plan.specs.Descend.{way_of}
use Rattle.plan.specs.Map.{Go, Refused, way_has, apart_of, spared_of, allowed_of, meets_of, supply_of, made_of, place_of, because_of, stopped_of, fitting_of, standing_of, shaped_of, decide_of}
use Rattle.plan.specs.Spare.{OnWay, last, second, third, fourth, Spared}

-- what is answered is the supply itself
pub spared_same : (w : Way) (s : Result NewTables Reason) (f : NewTables) → spared_of w s ≡ Ok f → s ≡ Ok f
unfolding spared_of
spared_same w (Err y) f e = e
spared_same w (Ok g) f e = go (apart_of w g) e
  where
    go : (b : Bool) → cond b (Ok g) (Err BadList) ≡ Ok f → ◌≡◌ {A = Result NewTables Reason} (Ok g) (Ok f)
    go true k = k
    go false k = let z : ◌≡◌ {A = ℕ} 0 1 = cc in absurd (omega arith)

-- The tables of the way ------------------------------------------------------------------------------------------------------------

or_else : (t x : Bool) → x ≡ true → cond t true x ≡ true
or_else true x e = refl
or_else false x e = e

past : (n level : ℕ) → level < n → (x : Bool) → x ≡ true → cond (leb n level) false x ≡ true
past n level u x e = rw (lt-leb n level u) e

here : (p : ℕ) (x : Bool) → cond (eqb p p) true x ≡ true
here p x = rw (eq-eqb p p refl)

on_has : (w : Way) (p : ℕ) → OnWay w p → way_has w p ≡ true
unfolding way_has
on_has w p last = here w.a _
on_has w p (second u) = or_else (eqb w.b w.a) _ (past 3 w.level u _ (here w.b _))
on_has w p (third u) = or_else (eqb w.c w.a) _ (past 3 w.level (omega arith) _ (or_else (eqb w.c w.b) _ (past 2 w.level u _ (here w.c _))))
on_has w p (fourth u) =
    or_else (eqb w.d w.a) _
    (past 3 w.level (omega arith) _
    (or_else (eqb w.d w.b) _ (past 2 w.level (omega arith) _ (or_else (eqb w.d w.c) _ (past 1 w.level u _ (eq-eqb w.d w.d refl))))))

-- a test that did not end the chain
no_then : (t x : Bool) → cond t false x ≡ true → (t ≡ false) × (x ≡ true)
no_then true x e = absurd (false≢true e)
no_then false x e = (refl, e)

not_here : (p q : ℕ) (x : Bool) → p ≢ q → cond (eqb p q) true x ≡ true → x ≡ true
not_here p q x d e = rw (ne_eqb p q d) at e

lower : (n level : ℕ) (x : Bool) → cond (leb n level) false x ≡ true → (level < n) × (x ≡ true)
lower n level x e = let k = no_then (leb n level) x e in (leb-false n level k.0, k.1)

has_on : (w : Way) (p : ℕ) → way_has w p ≡ true → OnWay w p
unfolding way_has
has_on w p e = go (ℕ_discrete p w.a) (ℕ_discrete p w.b) (ℕ_discrete p w.c)
  where
    is : (q : ℕ) → OnWay w q → p ≡ q → OnWay w p
    is q o f = subst (OnWay w) (sym f) o

    go : Dec (p ≡ w.a) → Dec (p ≡ w.b) → Dec (p ≡ w.c) → OnWay w p
    go (yes a) y z = is w.a last a
    go (no x) (yes b) z = is w.b (second (lower 3 w.level _ (not_here p w.a _ x e)).0) b
    go (no x) (no y) (yes c) =
        let k = lower 3 w.level _ (not_here p w.a _ x e) in
        is w.c (third (lower 2 w.level _ (not_here p w.b _ y k.1)).0) c
    go (no x) (no y) (no z) =
        let k = lower 3 w.level _ (not_here p w.a _ x e) in
        let l = lower 2 w.level _ (not_here p w.b _ y k.1) in
        let n = lower 1 w.level _ (not_here p w.c _ z l.1) in
        is w.d (fourth n.0) (eqb-true p w.d n.1)

off_way : (w : Way) (p : ℕ) → way_has w p ≡ false → ¬ OnWay w p
off_way w p e o = false≢true (sym e ∙ on_has w p o)

not_had : (w : Way) (p : ℕ) → ¬ OnWay w p → way_has w p ≡ false
not_had w p n = go (way_has w p) refl
  where
    go : (t : Bool) → way_has w p ≡ t → t ≡ false
    go true e = absurd (n (has_on w p e))
    go false e = refl

-- The supply ------------------------------------------------------------------------------------------------------------------------

-- more are needed
gate : (need n : ℕ) (x : Bool) → n < need → cond (leb need n) true x ≡ true → x ≡ true
gate need n x u e = rw (lt-leb need n u) at e

differ : (p q : ℕ) → eqb p q ≡ false → p ≢ q
differ p q e f = false≢true (sym e ∙ eq-eqb p q f)

module _ (w : Way) (f : NewTables) where
  -- what is asked where more than two are needed, and where more than one
  abbrev of_three : Bool
  of_three = cond (leb f.need 2) true (cond (eqb f.a f.c) false (cond (eqb f.b f.c) false (cond (way_has w f.c) false true)))

  abbrev of_two : Bool
  of_two = cond (leb f.need 1) true (cond (eqb f.a f.b) false (cond (way_has w f.b) false of_three))

  pub apart_spared : apart_of w f ≡ true → Spared w f
  unfolding apart_of
  apart_spared e = record {
    first_off = λ u. off_way w f.a (one u).0;
    second_off = λ u. off_way w f.b (two u).1;
    third_off = λ u. off_way w f.c (three u).2;
    two = λ u. differ f.a f.b (two u).0;
    ends = λ u. differ f.a f.c (three u).0;
    three = λ u. differ f.b f.c (three u).1;
  }
    where
      one : 0 < f.need → (way_has w f.a ≡ false) × (of_two ≡ true)
      one u = no_then (way_has w f.a) _ (gate f.need 0 _ u e)

      two : 1 < f.need → (eqb f.a f.b ≡ false) × (way_has w f.b ≡ false) × (of_three ≡ true)
      two u = let a = no_then (eqb f.a f.b) _ (gate f.need 1 _ u (one (omega arith)).1) in let b = no_then (way_has w f.b) _ a.1 in (a.0, b.0, b.1)

      three : 2 < f.need → (eqb f.a f.c ≡ false) × (eqb f.b f.c ≡ false) × (way_has w f.c ≡ false)
      three u =
          let a = no_then (eqb f.a f.c) _ (gate f.need 2 _ u (two (omega arith)).2) in
          let b = no_then (eqb f.b f.c) _ a.1 in
          (a.0, b.0, (no_then (way_has w f.c) true b.1).0)

  pub spared_apart : Spared w f → apart_of w f ≡ true
  unfolding apart_of
  spared_apart k = go (dec_le f.need 0) (dec_le f.need 1) (dec_le f.need 2)
    where
      go : Dec (f.need ≤ 0) → Dec (f.need ≤ 1) → Dec (f.need ≤ 2)
          → cond (leb f.need 0) true (cond (way_has w f.a) false of_two) ≡ true
      go (yes u) y z = rw (le-leb f.need 0 u)
      go (no x) (yes u) z = rw (lt-leb f.need 0 (omega arith), not_had w f.a (k.first_off (omega arith)), le-leb f.need 1 u)
      go (no x) (no y) (yes u) =
          rw (lt-leb f.need 0 (omega arith), not_had w f.a (k.first_off (omega arith)), lt-leb f.need 1 (omega arith), ne_eqb f.a f.b (k.two (omega arith)), not_had w f.b (k.second_off (omega arith)), le-leb f.need 2 u)
      go (no x) (no y) (no z) =
          rw (lt-leb f.need 0 (omega arith), not_had w f.a (k.first_off (omega arith)), lt-leb f.need 1 (omega arith), ne_eqb f.a f.b (k.two (omega arith)), not_had w f.b (k.second_off (omega arith)), lt-leb f.need 2 (omega arith), ne_eqb f.a f.c (k.ends (omega arith)), ne_eqb f.b f.c (k.three (omega arith)), not_had w f.c (k.third_off (omega arith)))

  -- such a supply is answered
  pub spares : Spared w f → spared_of w (Ok f) ≡ Ok f
  unfolding spared_of
  spares k = rw (spared_apart k)

-- WHAT IS ANSWERED is such a supply
pub spared_so : (w : Way) (s : Result NewTables Reason) (f : NewTables) → spared_of w s ≡ Ok f → Spared w f
unfolding spared_of
spared_so w (Err y) f e = let z : ◌≡◌ {A = ℕ} 0 1 = cc in absurd (omega arith)
spared_so w (Ok g) f e = go (apart_of w g) refl e
  where
    go : (b : Bool) → apart_of w g ≡ b → cond b (Ok g) (Err BadList) ≡ Ok f → Spared w f
    go true t k = let same : g ≡ f = cc in subst (Spared w) same (apart_spared w g t)
    go false t k = let z : ◌≡◌ {A = ℕ} 0 1 = cc in absurd (omega arith)

-- The decision ----------------------------------------------------------------------------------------------------------------------

module _ (h : ℕ → Bool) (m : ℕ → ℕ) (sp : Space) (q : Asked) (p : Mapping) where
  -- what is shown, of a page of that level
  abbrev So : ℕ → Way → Type 0
  So target w = (p.target ≡ target) × Spared w p.fresh

  not_so : {target : ℕ} {w : Way} → ◌≡◌ {A = ℕ} 0 1 → So target w
  not_so z = absurd (omega arith)

  made_so : (target level table : ℕ) (f : NewTables) (x : Option ℕ) → made_of q target level table f x ≡ Go p → (p.target ≡ target) × (f ≡ p.fresh)
  unfolding made_of
  made_so target level table f None e = let z : ◌≡◌ {A = ℕ} 0 1 = cc in absurd (omega arith)
  made_so target level table f (Some x) e =
      let same : record { base = q.base; target = target; level = level; table = table; word = x; fresh = f } ≡ p = cc in
      (sym (ap (λ (y : Mapping). y.target) same), ap (λ (y : Mapping). y.fresh) same)

  place_so : (target level table : ℕ) (w : Way) (s : Result NewTables Reason) → place_of q target level table (spared_of w s) ≡ Go p → So target w
  unfolding place_of
  place_so target level table w s e = go (spared_of w s) refl e
    where
      go : (x : Result NewTables Reason) → spared_of w s ≡ x → place_of q target level table x ≡ Go p → (p.target ≡ target) × Spared w p.fresh
      go (Err y) k e = let z : ◌≡◌ {A = ℕ} 0 1 = cc in absurd (omega arith)
      go (Ok f) k e = let t = made_so target level table f (made_page target q.frame q.rights) e in (t.0, subst (Spared w) t.1 (spared_so w s f k))

  because_so : (target : ℕ) (w : Way) (y : Why) → because_of h m sp q target w y ≡ Go p → So target w
  unfolding because_of
  because_so target w why.Nothing e = place_so target w.level w.a w (supply_of h m sp (w.level - target)) e
  because_so target w why.Page e = not_so cc
  because_so target w why.Table e = not_so cc
  because_so target w why.Stray e = not_so cc

  fitting_so : (target : ℕ) (x : Result (Unit {0}) PoolReason) → fitting_of h m sp q target x ≡ Go p → So target (way_of h m sp q.base target)
  unfolding fitting_of stopped_of
  fitting_so target (Err r) e = not_so cc
  fitting_so target (Ok tt) e = go (meets_of sp q.frame q.size) e
    where
      go : (b : Bool) → cond b (Refused FrameInPool) (stopped_of h m sp q target (way_of h m sp q.base target)) ≡ Go p → So target (way_of h m sp q.base target)
      go true k = not_so cc
      go false k = because_so target (way_of h m sp q.base target) (way_of h m sp q.base target).why k

  shaped_so : (x : Result ℕ Reason) → shaped_of h m sp q x ≡ Go p → Spared (way_of h m sp q.base p.target) p.fresh
  unfolding shaped_of standing_of
  shaped_so (Err r) e = let z : ◌≡◌ {A = ℕ} 0 1 = cc in absurd (omega arith)
  shaped_so (Ok n) e =
      let k = fitting_so n (names_of h m sp) e in subst (λ (t : ℕ). Spared (way_of h m sp q.base t) p.fresh) (sym k.0) k.1

  -- THE PAGES THAT MAP TAKES, of any bytes
  pub map_spared : decide_of h m sp q ≡ Go p → Spared (way_of h m sp q.base p.target) p.fresh
  unfolding decide_of
  map_spared e = shaped_so (allowed_of q) e
