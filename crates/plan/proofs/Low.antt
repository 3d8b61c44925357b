-- Of any bytes: a plan's levels are levels, and what map builds is built of pages of the pool.
use Rattle.std.proofs.Common.{◌≡◌, ℕ, ◌+◌, ◌-◌, ◌^◌, ◌<◌, ◌≤◌, Bool, true, false, cond, eqb, ltb, leb, List, refl, subst, arith, eqb-true, leb-false, leb-true, Option, Result, Some, None, Ok, Err}
use Rattle.plan.specs.declared.Reason.{Reason as PlanReason}
use Rattle.pool.specs.declared.Reason.{Reason}
use Rattle.word.specs.Memory.{holds}
use Rattle.word.specs.Scan.{besides_of}
use Rattle.word.proofs.Memory.{held}
use Rattle.entry.specs.Words.{made_page}
use Rattle.walk.specs.Walk.{index_of}
use Rattle.pool.specs.Book.{in_pool, names_of, opened_of, listed_of, room_of}
use Rattle.pool.specs.Stands.{stands_of, takes_of}
use Rattle.pool.specs.declared.Space.{Space}
use Rattle.pool.specs.declared.Book.{Book}
use Rattle.pool.proofs.Listing.{listed_usable}
use Rattle.pool.proofs.Opening as opening
use Rattle.pool.proofs.Counting.{in_pool_lem}
use Rattle.pool.proofs.Opening.{open_shows, names_room, names_stands}
use Rattle.pool.specs.declared.Reason.TheVariants.{BadBook}
use Rattle.plan.specs.Map as map
use Rattle.plan.specs.Map.{LowTables, Buildable}
use Rattle.plan.specs.Unmap as unmap
use Rattle.plan.specs.Find.{find_of}
use Rattle.plan.proofs.Found.{found_at}
use Rattle.plan.specs.declared.Reason.TheVariants.{FrameInPool, NoRoom, Pool}
use Rattle.plan.specs.declared.maps.Asked.{Asked}
use Rattle.plan.specs.declared.maps.Mapping.{Mapping}
use Rattle.plan.specs.declared.maps.NewTables.{NewTables}
use Rattle.plan.specs.declared.finding.PageEntry.{PageEntry}
use Rattle.plan.specs.declared.unmaps.Removal.{Removal}
use Rattle.plan.specs.Descend.{way_of}
use Rattle.plan.specs.declared.descent.Way.{Way}
use Rattle.plan.specs.declared.descent.Why.{Why}
use Rattle.plan.specs.declared.descent.Why.TheVariants as why
use Rattle.plan.proofs.Ways.{way_low, way_in}
use Rattle.plan.proofs.Sparing.{spared_same}

-- Map --------------------------------------------------------------------------------------------------------------------------

-- the pages of a supply: their numbers are low, and so many as are needed are the pool's
record Owned (sp : Space) (need : ℕ) (f : NewTables) : Type 0 where
  low : LowTables f
  a : 0 < need → in_pool sp f.a ≡ true
  b : 1 < need → in_pool sp f.b ≡ true
  c : 2 < need → in_pool sp f.c ≡ true

-- a page of the pool has such a number, where the pool lies in the window
module _ (h : ℕ → Bool) (m : ℕ → ℕ) (sp : Space) (small : (x : ℕ) → h x ≡ true → x < 2 ^ 40) where
  abbrev Known : ℕ → ℕ → ℕ → Type 0
  Known need j y = (y < 2 ^ 40) × (j < need → in_pool sp y ≡ true)

  module _ (end : sp.first + sp.pages ≤ 2 ^ 40) where
    nth_low : (b : Book) (need j y : ℕ) → map.nth_of h m sp b need j ≡ Some y → Known need j y
    unfolding map.nth_of
    nth_low b need j y e = go (leb need j) refl e
      where
        go : (t : Bool) → leb need j ≡ t → cond t (Some 0) (listed_of h m sp b j) ≡ Some y → Known need j y
        go true l f = let same : 0 ≡ y = cc in (omega (arith, same), λ u. absurd (omega (arith, u, leb-true need j l)))
        go false l f = let k = (listed_usable h m sp b j y f).in_the_pool in (omega (arith, k.before_end), λ _. in_pool_lem sp y k)

    fresh_low : (b : Book) (need : ℕ) (f : NewTables) (x y z : Option ℕ) → ((n : ℕ) → x ≡ Some n → Known need 0 n) → ((n : ℕ) → y ≡ Some n → Known need 1 n)
        → ((n : ℕ) → z ≡ Some n → Known need 2 n) → map.fresh_three b need x y z ≡ Ok f → Owned sp need f
    unfolding map.fresh_three
    fresh_low b need f (Some x) (Some y) (Some z) i j k e =
        let same : record { need = need; a = x; b = y; c = z; book = b } ≡ f = cc in
        subst (Owned sp need) same (record {
          low = record { a = (i x refl).0; b = (j y refl).0; c = (k z refl).0 };
          a = (i x refl).1;
          b = (j y refl).1;
          c = (k z refl).1;
        })
    fresh_low b need f None y z i j k e = let w : ◌≡◌ {A = ℕ} 0 1 = cc in absurd (omega arith)
    fresh_low b need f (Some x) None z i j k e = let w : ◌≡◌ {A = ℕ} 0 1 = cc in absurd (omega arith)
    fresh_low b need f (Some x) (Some y) None i j k e = let w : ◌≡◌ {A = ℕ} 0 1 = cc in absurd (omega arith)

  stock_low : (need : ℕ) (f : NewTables) (x : Result Book Reason) → opened_of h m sp ≡ x → map.stock_of h m sp need x ≡ Ok f → Owned sp need f
  unfolding map.stock_of map.fresh_of
  stock_low need f (Err r) o e = let z : ◌≡◌ {A = ℕ} 0 1 = cc in absurd (omega arith)
  stock_low need f (Ok b) o e = go (ltb b.free need) e
    where
      fits : opening.Fitting h sp.first sp.pages
      fits = (open_shows h m sp b o).names.fits

      end : sp.first + sp.pages ≤ 2 ^ 40
      end = omega (arith, small (sp.first + sp.pages - 1) fits.upto, fits.enough)

      go : (t : Bool) → cond t (Err NoRoom) (map.fresh_three b need (map.nth_of h m sp b need 0) (map.nth_of h m sp b need 1) (map.nth_of h m sp b need 2)) ≡ Ok f
          → Owned sp need f
      go true k = let z : ◌≡◌ {A = ℕ} 0 1 = cc in absurd (omega arith)
      go false k = fresh_low end b need f _ _ _ (nth_low end b need 0) (nth_low end b need 1) (nth_low end b need 2) k

  supply_low : (need : ℕ) (f : NewTables) → map.supply_of h m sp need ≡ Ok f → Owned sp need f
  unfolding map.supply_of
  supply_low need f e = go (eqb need 0) refl e
    where
      go : (t : Bool) → eqb need 0 ≡ t → cond t map.none_of (map.stock_of h m sp need (opened_of h m sp)) ≡ Ok f → Owned sp need f
      go true z k =
          let same : record { need = 0; a = 0; b = 0; c = 0; book = map.no_book } ≡ f = cc in
          let none = eqb-true need 0 z in
          subst (Owned sp need) same (record {
            low = record { a = omega arith; b = omega arith; c = omega arith };
            a = λ u. absurd (omega (arith, u, none));
            b = λ u. absurd (omega (arith, u, none));
            c = λ u. absurd (omega (arith, u, none));
          })
      go false z k = stock_low need f (opened_of h m sp) refl k

  module _ (q : Asked) (p : Mapping) where
    none_built : ◌≡◌ {A = ℕ} 0 1 → Buildable sp p
    none_built z = absurd (omega arith)

    made_low : (target level table : ℕ) (f : NewTables) (x : Option ℕ) → level < 4 → in_pool sp table ≡ true → Owned sp (level - target) f
        → map.made_of q target level table f x ≡ map.Go p → Buildable sp p
    unfolding map.made_of
    made_low target level table f None u t l e = none_built cc
    made_low target level table f (Some w) u t l e =
        let same : record { base = q.base; target = target; level = level; table = table; word = w; fresh = f } ≡ p = cc in
        subst (Buildable sp) same (record {
          level = u;
          fresh = l.low;
          table = t;
          a = λ v. l.a (omega (arith, v));
          b = λ v. l.b (omega (arith, v));
          c = λ v. l.c (omega (arith, v));
        })

    place_low : (target level table : ℕ) (s : Result NewTables PlanReason) → level < 4 → in_pool sp table ≡ true → ((f : NewTables) → s ≡ Ok f → Owned sp (level - target) f)
        → map.place_of q target level table s ≡ map.Go p → Buildable sp p
    unfolding map.place_of
    place_low target level table (Err y) u t l e = none_built cc
    place_low target level table (Ok f) u t l e = made_low target level table f (made_page target q.frame q.rights) u t (l f refl) e

    because_low : (target : ℕ) (w : Way) (y : Why) → (y ≡ why.Nothing → in_pool sp w.a ≡ true) → w.level < 4 → map.because_of h m sp q target w y ≡ map.Go p
        → Buildable sp p
    unfolding map.because_of
    because_low target w why.Nothing t u e =
        place_low target w.level w.a (map.spared_of w (map.supply_of h m sp (w.level - target))) u (t refl)
        (λ f k. supply_low (w.level - target) f (spared_same w (map.supply_of h m sp (w.level - target)) f k)) e
    because_low target w why.Page t u e = none_built cc
    because_low target w why.Table t u e = none_built cc
    because_low target w why.Stray t u e = none_built cc

    fitting_low : (target : ℕ) (x : Result (Unit {0}) Reason) → map.fitting_of h m sp q target x ≡ map.Go p → Buildable sp p
    unfolding map.fitting_of map.stopped_of
    fitting_low target (Err r) e = none_built cc
    fitting_low target (Ok tt) e = go (map.meets_of sp q.frame q.size) e
      where
        go : (b : Bool) → cond b (map.Refused FrameInPool) (map.stopped_of h m sp q target (way_of h m sp q.base target)) ≡ map.Go p → Buildable sp p
        go true k = none_built cc
        go false k =
            let w : Way = way_of h m sp q.base target in
            because_low target w w.why (way_in h m sp q.base target) (way_low h m sp q.base target) k

    fitting_fits : (target : ℕ) (x : Result (Unit {0}) Reason) → map.fitting_of h m sp q target x ≡ map.Go p → x ≡ Ok tt
    unfolding map.fitting_of
    fitting_fits target (Err r) e = let z : ◌≡◌ {A = ℕ} 0 1 = cc in absurd (omega arith)
    fitting_fits target (Ok tt) e = refl

    shaped_low : (x : Result ℕ PlanReason) → map.shaped_of h m sp q x ≡ map.Go p → Buildable sp p × (stands_of h sp ≡ Ok tt)
    unfolding map.shaped_of map.standing_of
    shaped_low (Err r) e = let z : ◌≡◌ {A = ℕ} 0 1 = cc in absurd (omega arith)
    shaped_low (Ok n) e = (fitting_low n (names_of h m sp) e, names_stands h m sp (fitting_fits n (names_of h m sp) e))

    pub map_low : map.decide_of h m sp q ≡ map.Go p → Buildable sp p × (stands_of h sp ≡ Ok tt)
    unfolding map.decide_of
    map_low e = shaped_low (map.allowed_of q) e

-- a page that lies in a window has such a number
pub held_low : (s : List ℕ) (origin x : ℕ) → holds s origin x ≡ true → x < 2 ^ 40
held_low s origin x e = (held s origin x e).small

-- Unmap ------------------------------------------------------------------------------------------------------------------------

-- no more tables become empty than lie between the page and the root
emptied_low : (h : ℕ → Bool) (m : ℕ → ℕ) (va : ℕ) (w : Way) → w.level < 4 → w.level + unmap.emptied_of h m va w < 4
unfolding unmap.emptied_of
emptied_low h m va w u =
    go (leb 3 w.level) (besides_of h m w.a (index_of w.level va) 512) (leb 2 w.level)
    (besides_of h m w.b (index_of (w.level + 1) va) 512) (leb 1 w.level) (besides_of h m w.c (index_of 2 va) 512) refl refl refl
  where
    go : (a : Bool) (x : Bool) (b : Bool) (y : Bool) (c : Bool) (z : Bool) → leb 3 w.level ≡ a → leb 2 w.level ≡ b → leb 1 w.level ≡ c
        → w.level + cond a 0 (cond x 0 (cond b 1 (cond y 1 (cond c 2 (cond z 2 3))))) < 4
    go true x b y c z ea eb ec = omega arith
    go false true b y c z ea eb ec = omega arith
    go false false true y c z ea eb ec = omega (arith, leb-false 3 w.level ea)
    go false false false true c z ea eb ec = omega (arith, leb-false 2 w.level eb)
    go false false false false true z ea eb ec = omega (arith, leb-false 2 w.level eb)
    go false false false false false true ea eb ec = omega (arith, leb-false 1 w.level ec)
    go false false false false false false ea eb ec = omega (arith, leb-false 1 w.level ec)

-- what a decision to go shows: the levels, and the index
pub record GoShows (va : ℕ) (r : Removal) : Type 0 where
  pub low : unmap.low r
  pub index : r.page.index ≡ index_of r.page.way.level va

module _ (h : ℕ → Bool) (m : ℕ → ℕ) (sp : Space) (va : ℕ) (r : Removal) where
  clash : ◌≡◌ {A = ℕ} 0 1 → GoShows va r
  clash z = absurd (omega arith)

  booked_fits : (s : PageEntry) (n : ℕ) → s.way.level + n < 4 → s.index ≡ index_of s.way.level va → (b : Book) → unmap.booked_of sp s n b ≡ Ok r → GoShows va r
  unfolding unmap.booked_of
  booked_fits s n u i b e = go (takes_of sp b n) e
    where
      go : (t : Bool) → cond t (Ok (record { page = s; empties = n; book = b })) (Err (Pool BadBook)) ≡ Ok r
          → GoShows va r
      go false k = clash cc
      go true k =
          let same : record { page = s; empties = n; book = b } ≡ r = cc in
          subst (GoShows va) same (record { low = u; index = i })

  opened_fits : (s : PageEntry) (n : ℕ) → s.way.level + n < 4 → s.index ≡ index_of s.way.level va → (x : Result Book Reason) → unmap.open_of sp s n x ≡ Ok r → GoShows va r
  unfolding unmap.open_of
  opened_fits s n u i (Ok b) e = booked_fits s n u i b e
  opened_fits s n u i (Err y) e = clash cc

  remove_fits : (s : PageEntry) (n : ℕ) → s.way.level + n < 4 → s.index ≡ index_of s.way.level va → unmap.remove_of h m sp s n ≡ Ok r → GoShows va r
  unfolding unmap.remove_of
  remove_fits s n u i e = go (eqb n 0) e
    where
      go : (t : Bool) → cond t (Ok (record { page = s; empties = 0; book = map.no_book })) (unmap.open_of sp s n (opened_of h m sp)) ≡ Ok r → GoShows va r
      go true k =
          let same : record { page = s; empties = 0; book = map.no_book } ≡ r = cc in
          subst (GoShows va) same (record { low = omega arith; index = i })
      go false k = opened_fits s n u i (opened_of h m sp) k

  sought_fits : (x : Result PageEntry PlanReason) → find_of h m sp va ≡ x → unmap.removing_of h m sp va x ≡ Ok r → GoShows va r
  unfolding unmap.removing_of
  sought_fits (Err y) ex e = clash cc
  sought_fits (Ok s) ex e =
      let k = found_at h m sp va s ex in
      remove_fits s (unmap.emptied_of h m va s.way) (emptied_low h m va s.way k.low) k.index e

  pub unmap_fits : unmap.decide_of h m sp va ≡ Ok r → GoShows va r
  unfolding unmap.decide_of
  unmap_fits e = sought_fits (find_of h m sp va) refl e

  -- and that the pool lies in the window
  pub unmap_room : unmap.decide_of h m sp va ≡ Ok r → room_of h sp.first sp.pages ≡ Ok tt
  unfolding unmap.decide_of unmap.removing_of
  unmap_room e = go (find_of h m sp va) refl e
    where
      go : (x : Result PageEntry PlanReason) → find_of h m sp va ≡ x → unmap.removing_of h m sp va x ≡ Ok r → room_of h sp.first sp.pages ≡ Ok tt
      go (Ok s) f k = names_room h m sp (found_at h m sp va s f).names
      go (Err y) f k = let z : ◌≡◌ {A = ℕ} 0 1 = cc in absurd (omega arith)
