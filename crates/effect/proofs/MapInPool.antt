-- MAP, OF ANY BYTES: whatever it decides, it writes words of 64 bits to pages of the pool and nowhere else.
use Prim.Native.Nat.{ℕ, suc, ◌+◌, ◌-◌, ◌*◌, ◌^◌, ◌<◌}
use mathlib.Core.Bool.{Bool, true, false, cond}
use mathlib.Core.List.{List, [], ◌∷◌, ◌++◌}
use mathlib.Core.Path.{◌≡◌, refl, subst}
use native.Mathlib.Omega.{arith}
use borrow.Author.Tests.{leb-true, leb-false, ltb-true, eqb-true}
use Rattle.std.proofs.Common.{Option, Result, Some, None, Ok, Err}
use Rattle.plan.specs.declared.Reason.{Reason as PlanReason}
use Rattle.pool.specs.declared.Reason.{Reason}
use lib.Dec.{leb, ltb, eqb}
use Rattle.word.specs.Writes.{Write, write, zeros, Every, none}
use Rattle.word.proofs.Writes.{every_one, every_append, every_map, every_zeros}
use Rattle.entry.specs.Words.{fits, page_word, made_page, table_word}
use Rattle.entry.specs.declared.Rights.{Rights}
use Rattle.entry.proofs.Written.{fits_true}
use Rattle.walk.specs.Walk.{index_of}
use Rattle.walk.proofs.Digits.{index_lt}
use Rattle.pool.specs.Book.{opened_of, listed_of, names_of}
use Rattle.pool.specs.declared.Space.{Space}
use Rattle.pool.specs.declared.Book.{Book}
use Rattle.pool.proofs.Listing.{listed_usable}
use Rattle.pool.proofs.Opening.{Fitting, names_shows}
use Rattle.pool.proofs.Proper.{OfBook}
use Rattle.plan.specs.declared.Reason.TheVariants.{FrameInPool, NoRoom}
use Rattle.plan.specs.declared.descent.Way.{Way}
use Rattle.plan.specs.declared.descent.Why.{Why}
use Rattle.plan.specs.declared.descent.Why.TheVariants as why
use Rattle.plan.specs.declared.maps.Asked.{Asked}
use Rattle.plan.specs.declared.maps.NewTables.{NewTables}
use Rattle.plan.specs.declared.maps.Mapping.{Mapping}
use Rattle.plan.specs.Map.{Go, Refused, no_book, allowed_of, meets_of, nth_of, fresh_three, fresh_of, stock_of, supply_of, spared_of, made_of, place_of, because_of, stopped_of, fitting_of, standing_of, shaped_of, decide_of, link_of, next_of, grow_of, reached0, reached1, reached2, reached3, build_of, writes_of}
use Rattle.plan.specs.declared.building.TableReached.{TableReached}
use Rattle.plan.specs.Descend.{way_of}
use Rattle.plan.proofs.Sparing.{spared_same}
use Rattle.effect.specs.OfPool.{OfPool}
use Rattle.effect.proofs.MapBook.{book_writes, book_writes_proper}
use Rattle.effect.proofs.MapBuilt.{page_word_small}
use Rattle.effect.proofs.WayInPool.{way_through}
use Rattle.effect.proofs.Wholes.{in_of_pool}

-- the book of a pool that fits lies in it
pub book_in_pool : {h : ℕ → Bool} (sp : Space) → Fitting h sp.first sp.pages → (xs : List Write) → Every (OfBook sp) xs → Every (OfPool sp) xs
book_in_pool sp f = every_map (λ q u. (u.0, omega (arith, u.1, f.enough)))

-- Words --------------------------------------------------------------------------------------------------------------------------

pub link_lt : (p : ℕ) → link_of p < 2 ^ 64
unfolding link_of table_word
link_lt p = go (ltb p (2 ^ 40)) refl
  where
    go : (b : Bool) → ltb p (2 ^ 40) ≡ b → cond b (4096 * p + 7) 0 < 2 ^ 64
    go true e = omega (arith, ltb-true p (2 ^ 40) e)
    go false e = omega arith

made_lt : (n frame w : ℕ) (r : Rights) → made_page n frame r ≡ Some w → w < 2 ^ 64
unfolding made_page
made_lt n frame w r e = go (fits n frame) refl e
  where
    go : (b : Bool) → fits n frame ≡ b → cond b (Some (page_word n frame r)) None ≡ Some w → w < 2 ^ 64
    go true f k =
        let same : page_word n frame r ≡ w = cc in
        rw (← same) (page_word_small n frame r (omega (arith, (fits_true n frame f).below)))
    go false f k = let z : ◌≡◌ {A = ℕ} 0 1 = cc in absurd (omega arith)

-- Pages for the missing tables -----------------------------------------------------------------------------------------------------

-- as many of the three as are needed are the pool's
pub record Spares (sp : Space) (need : ℕ) (f : NewTables) : Type 0 where
  pub first : 0 < need → OfPool sp f.a
  pub second : 1 < need → OfPool sp f.b
  pub third : 2 < need → OfPool sp f.c

module _ (h : ℕ → Bool) (m : ℕ → ℕ) (sp : Space) (need : ℕ) (f : NewTables) where
  no_spares : ◌≡◌ {A = ℕ} 0 1 → Spares sp need f
  no_spares z = absurd (omega arith)

  nth_in : (b : Book) (j x : ℕ) → nth_of h m sp b need j ≡ Some x → j < need → OfPool sp x
  unfolding nth_of
  nth_in b j x e u = go (leb need j) refl e
    where
      go : (t : Bool) → leb need j ≡ t → cond t (Some 0) (listed_of h m sp b j) ≡ Some x → OfPool sp x
      go true v k = absurd (omega (arith, leb-true need j v))
      go false v k = in_of_pool (listed_usable h m sp b j x k).in_the_pool

  three_spares : (b : Book) (x y z : Option ℕ) → nth_of h m sp b need 0 ≡ x → nth_of h m sp b need 1 ≡ y → nth_of h m sp b need 2 ≡ z
      → fresh_three b need x y z ≡ Ok f → Spares sp need f
  unfolding fresh_three
  three_spares b None y z ex ey ez e = no_spares cc
  three_spares b (Some x) None z ex ey ez e = no_spares cc
  three_spares b (Some x) (Some y) None ex ey ez e = no_spares cc
  three_spares b (Some x) (Some y) (Some z) ex ey ez e =
      let same : record { need = need; a = x; b = y; c = z; book = b } ≡ f = cc e in
      subst (Spares sp need) same (record { first = nth_in b 0 x ex; second = nth_in b 1 y ey; third = nth_in b 2 z ez })

  stock_spares : (x : Result Book Reason) → stock_of h m sp need x ≡ Ok f → Spares sp need f
  unfolding stock_of fresh_of
  stock_spares (Err r) e = no_spares cc
  stock_spares (Ok b) e = go (ltb b.free need) e
    where
      go : (t : Bool) → cond t (Err NoRoom) (fresh_of h m sp b need) ≡ Ok f → Spares sp need f
      go true k = no_spares cc
      go false k = three_spares b (nth_of h m sp b need 0) (nth_of h m sp b need 1) (nth_of h m sp b need 2) refl refl refl k

  supply_spares : supply_of h m sp need ≡ Ok f → Spares sp need f
  unfolding supply_of
  supply_spares e = go (eqb need 0) refl e
    where
      go : (t : Bool) → eqb need 0 ≡ t → cond t (Ok (record { need = 0; a = 0; b = 0; c = 0; book = no_book })) (stock_of h m sp need (opened_of h m sp)) ≡ Ok f
          → Spares sp need f
      go true v k =
          let n = eqb-true need 0 v in
          record { first = λ u. absurd (omega arith); second = λ u. absurd (omega arith); third = λ u. absurd (omega arith) }
      go false v k = stock_spares (opened_of h m sp) k

-- The decision ---------------------------------------------------------------------------------------------------------------------

-- WHAT A DECISION SHOWS
pub record MapWent (h : ℕ → Bool) (sp : Space) (p : Mapping) : Type 0 where
  pub fits : Fitting h sp.first sp.pages
  pub table : OfPool sp p.table
  pub word : p.word < 2 ^ 64
  pub spares : Spares sp (p.level - p.target) p.fresh

module _ (h : ℕ → Bool) (m : ℕ → ℕ) (sp : Space) (q : Asked) (p : Mapping) where
  clash : ◌≡◌ {A = ℕ} 0 1 → MapWent h sp p
  clash z = absurd (omega arith)

  module _ (s : Fitting h sp.first sp.pages) (target level table : ℕ) where
    made_went : (f : NewTables) (x : Option ℕ) → OfPool sp table → Spares sp (level - target) f → made_page target q.frame q.rights ≡ x
        → made_of q target level table f x ≡ Go p → MapWent h sp p
    unfolding made_of
    made_went f None t k w e = clash cc
    made_went f (Some x) t k w e =
        let same : record { base = q.base; target = target; level = level; table = table; word = x; fresh = f } ≡ p = cc e in
        subst (MapWent h sp) same (record { fits = s; table = t; word = made_lt target q.frame x q.rights w; spares = k })

    place_went : (x : Result NewTables PlanReason) → OfPool sp table → supply_of h m sp (level - target) ≡ x → place_of q target level table x ≡ Go p → MapWent h sp p
    unfolding place_of
    place_went (Err y) t k e = clash cc
    place_went (Ok f) t k e =
        made_went f (made_page target q.frame q.rights) t (supply_spares h m sp (level - target) f k) refl e

  because_went : Fitting h sp.first sp.pages → (target : ℕ) (w : Way) (y : Why) → (y ≡ why.Nothing → OfPool sp w.a) → because_of h m sp q target w y ≡ Go p → MapWent h sp p
  unfolding because_of place_of
  because_went s target w why.Nothing t e = spared (spared_of w (supply_of h m sp (w.level - target))) refl e
    where
      spared : (x : Result NewTables PlanReason) → spared_of w (supply_of h m sp (w.level - target)) ≡ x → place_of q target w.level w.a x ≡ Go p → MapWent h sp p
      spared (Err y) k e = clash cc
      spared (Ok f) k e = place_went s target w.level w.a (Ok f) (t refl) (spared_same w (supply_of h m sp (w.level - target)) f k) e
  because_went s target w why.Page t e = clash cc
  because_went s target w why.Table t e = clash cc
  because_went s target w why.Stray t e = clash cc

  -- the way's table, where nothing is
  end_in : (target : ℕ) → (way_of h m sp q.base target).why ≡ why.Nothing → OfPool sp (way_of h m sp q.base target).a
  end_in target e =
      let k = way_through h m sp target q.base (λ d. let z : ◌≡◌ {A = ℕ} 0 1 = cc in omega arith) in
      in_of_pool (k.1.inside 0 (omega (arith, k.0)))

  fitting_went : (target : ℕ) (x : Result (Unit {0}) Reason) → names_of h m sp ≡ x → fitting_of h m sp q target x ≡ Go p → MapWent h sp p
  unfolding fitting_of stopped_of
  fitting_went target (Err r) s e = clash cc
  fitting_went target (Ok tt) s e = go (meets_of sp q.frame q.size) e
    where
      go : (b : Bool) → cond b (Refused FrameInPool) (stopped_of h m sp q target (way_of h m sp q.base target)) ≡ Go p → MapWent h sp p
      go true k = clash cc
      go false k =
          let w : Way = way_of h m sp q.base target in
          because_went (names_shows h m sp s).fits target w w.why (end_in target) k

  shaped_went : (x : Result ℕ PlanReason) → shaped_of h m sp q x ≡ Go p → MapWent h sp p
  unfolding shaped_of standing_of
  shaped_went (Err r) e = clash cc
  shaped_went (Ok n) e = fitting_went n (names_of h m sp) refl e

  pub map_went : decide_of h m sp q ≡ Go p → MapWent h sp p
  unfolding decide_of
  map_went e = shaped_went (allowed_of q) e

-- The writes -----------------------------------------------------------------------------------------------------------------------

module _ (sp : Space) (va target p : ℕ) (s : TableReached) (t : OfPool sp s.table) (u : target < s.level → OfPool sp p) where
  grow_in : Every (OfPool sp) (grow_of va target p s)
  unfolding grow_of
  grow_in = go (leb s.level target) refl
    where
      go : (b : Bool) → leb s.level target ≡ b → Every (OfPool sp) (cond b [] (zeros p 512 ++ (write s.table (index_of s.level va) (link_of p) ∷ [])))
      go true e = none
      go false e =
          every_append (zeros p 512) _ (every_zeros p 512 (u (leb-false s.level target e)) (omega arith))
          (every_one s.table (index_of s.level va) (link_of p) t (index_lt s.level va) (link_lt p))

  next_in : OfPool sp (next_of target p s).table
  unfolding next_of
  next_in = go (leb s.level target) refl
    where
      go : (b : Bool) → leb s.level target ≡ b → OfPool sp (cond b s (record { level = s.level - 1; table = p })).table
      go true e = t
      go false e = u (leb-false s.level target e)

-- a step comes one level down
next_above : (target k p : ℕ) (s : TableReached) → target + k < (next_of target p s).level → target + suc k < s.level
unfolding next_of
next_above target k p s = go (leb s.level target) refl
  where
    go : (b : Bool) → leb s.level target ≡ b → target + k < (cond b s (record { level = s.level - 1; table = p })).level → target + suc k < s.level
    go true e u = absurd (omega (arith, leb-true s.level target e))
    go false e u = omega arith

module _ {h : ℕ → Bool} (sp : Space) (p : Mapping) (k : MapWent h sp p) where
  above1 : p.target < (reached1 p).level → p.target + 1 < p.level
  above1 u = next_above p.target 0 p.fresh.a (reached0 p) (omega arith)

  above2 : p.target < (reached2 p).level → p.target + 2 < p.level
  above2 u = next_above p.target 1 p.fresh.a (reached0 p) (next_above p.target 0 p.fresh.b (reached1 p) (omega arith))

  fresh0 : p.target < p.level → OfPool sp p.fresh.a
  fresh0 u = k.spares.first (omega arith)

  fresh1 : p.target < (reached1 p).level → OfPool sp p.fresh.b
  fresh1 u = k.spares.second (omega (arith, above1 u))

  fresh2 : p.target < (reached2 p).level → OfPool sp p.fresh.c
  fresh2 u = k.spares.third (omega (arith, above2 u))

  table1 : OfPool sp (reached1 p).table
  table1 = next_in sp p.base p.target p.fresh.a (reached0 p) k.table fresh0

  table2 : OfPool sp (reached2 p).table
  table2 = next_in sp p.base p.target p.fresh.b (reached1 p) table1 fresh1

  table3 : OfPool sp (reached3 p).table
  table3 = next_in sp p.base p.target p.fresh.c (reached2 p) table2 fresh2

  build_in : Every (OfPool sp) (build_of p)
  unfolding build_of
  build_in =
      every_append _ _ (grow_in sp p.base p.target p.fresh.a (reached0 p) k.table fresh0)
      (every_append _ _ (grow_in sp p.base p.target p.fresh.b (reached1 p) table1 fresh1)
      (every_append _ _ (grow_in sp p.base p.target p.fresh.c (reached2 p) table2 fresh2)
      (every_one (reached3 p).table (index_of (reached3 p).level p.base) p.word table3 (index_lt (reached3 p).level p.base) k.word)))

  went_in : Every (OfPool sp) (writes_of sp p)
  unfolding writes_of
  went_in =
      every_append (build_of p) (book_writes sp p.fresh.book p.fresh.need) build_in
      (book_in_pool sp k.fits _ (book_writes_proper sp p.fresh.book p.fresh.need))

-- MAP WRITES TO THE POOL
pub map_in_pool : (h : ℕ → Bool) (m : ℕ → ℕ) (sp : Space) (q : Asked) (p : Mapping) → decide_of h m sp q ≡ Go p → Every (OfPool sp) (writes_of sp p)
map_in_pool h m sp q p e = went_in sp p (map_went h m sp q p e)
