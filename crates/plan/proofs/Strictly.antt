-- No page is writable and executable: what map and protect decide of such rights, for any bytes; and that nothing else is refused for them.
use Rattle.std.proofs.Common.{◌≡◌, ℕ, ◌-◌, ◌%◌, Bool, true, false, cond, not, ◌&&◌, eqb, ltb, leb, ◌≢◌, ◌↔◌, sym, refl, ap, ◌∙◌, true≢false, arith, Option, Result, Some, None, Ok, Err}
use Rattle.pool.specs.declared.Reason.{Reason as PoolReason}
use Rattle.plan.specs.declared.Reason.{Reason}
use Rattle.plan.specs.declared.unmaps.Removal.{Removal}
use Rattle.entry.specs.Entry.{frame_end, says}
use Rattle.entry.specs.Words.{made_page}
use Rattle.entry.specs.declared.Entry.{Entry}
use Rattle.entry.specs.declared.Entry.TheVariants as entry
use Rattle.entry.specs.declared.Rights.{Rights}
use Rattle.walk.specs.Walk.{canonical}
use Rattle.pool.specs.Book.{names_of, opened_of}
use Rattle.pool.specs.Stands.{takes_of}
use Rattle.pool.specs.declared.Book.{Book}
use Rattle.pool.specs.declared.Reason.TheVariants.{BadBook}
use Rattle.pool.specs.declared.Space.{Space}
use Rattle.plan.specs.declared.Reason.TheVariants.{Size, BaseUnaligned, FrameUnaligned, BaseRange, FrameRange, WriteExecute, Pool, FrameInPool, NoRoom, NothingStarts, Stray, BadList}
use Rattle.plan.specs.declared.descent.Way.{Way}
use Rattle.plan.specs.declared.descent.Why.{Why}
use Rattle.plan.specs.declared.descent.Why.TheVariants as why
use Rattle.plan.specs.declared.finding.PageEntry.{PageEntry}
use Rattle.plan.specs.declared.maps.Asked.{Asked}
use Rattle.plan.specs.declared.maps.Mapping.{Mapping}
use Rattle.plan.specs.declared.maps.NewTables.{NewTables}
use Rattle.plan.specs.declared.protects.Change.{Change}
use Rattle.plan.specs.Descend.{way_of}
use Rattle.plan.specs.Find as find
use Rattle.plan.specs.Find.{find_of}
use Rattle.plan.specs.Map as map
use Rattle.plan.specs.Protect as protect
use Rattle.plan.specs.Rights.{write_execute}
use Rattle.plan.specs.Unmap as unmap

-- WHICH RIGHTS THOSE ARE, by their fields: no other definition says it, so it is said here again
pub both_is : (r : Rights) → (write_execute r ≡ true) ↔ ((r.writable ≡ true) × (r.noexec ≡ false))
unfolding write_execute
both_is r = go r.writable r.noexec
  where
    go : (w x : Bool) → ((w && not x) ≡ true) ↔ ((w ≡ true) × (x ≡ false))
    go true true = (λ e. absurd (true≢false (sym e)), λ k. absurd (true≢false k.1))
    go true false = (λ e. (refl, refl), λ k. refl)
    go false x = (λ e. absurd (true≢false (sym e)), λ k. absurd (true≢false (sym k.0)))

-- what map is asked, where size, alignment and range are right
allowed_refused : (q : Asked) (n : ℕ) → map.shape_of q.size q.base q.frame ≡ Ok n → write_execute q.rights ≡ true → map.allowed_of q ≡ Err WriteExecute
unfolding map.allowed_of map.strict_of
allowed_refused q n e s = rw (e, s)

allowed_not_both : (q : Asked) (n : ℕ) → map.allowed_of q ≡ Ok n → write_execute q.rights ≡ false
unfolding map.allowed_of map.strict_of
allowed_not_both q n e = go (map.shape_of q.size q.base q.frame) (write_execute q.rights) refl e
  where
    go : (x : Result ℕ Reason) (b : Bool) → write_execute q.rights ≡ b → map.strict_of q.rights x ≡ Ok n → write_execute q.rights ≡ false
    go (Err y) b eb k = let z : ◌≡◌ {A = ℕ} 0 1 = cc in absurd (omega arith)
    go (Ok l) true eb k = let j = rw eb at k in let z : ◌≡◌ {A = ℕ} 0 1 = cc in absurd (omega arith)
    go (Ok l) false eb k = eb

module _ (h : ℕ → Bool) (m : ℕ → ℕ) (sp : Space) where
  pub map_refuses : (q : Asked) (n : ℕ) → map.shape_of q.size q.base q.frame ≡ Ok n → write_execute q.rights ≡ true
      → map.decide_of h m sp q ≡ map.Refused WriteExecute
  unfolding map.decide_of map.shaped_of
  map_refuses q n e s = rw (allowed_refused q n e s)

  pub map_strict : (q : Asked) (p : Mapping) → map.decide_of h m sp q ≡ map.Go p → write_execute q.rights ≡ false
  unfolding map.decide_of map.shaped_of
  map_strict q p e = go (map.allowed_of q) refl e
    where
      go : (x : Result ℕ Reason) → map.allowed_of q ≡ x → map.shaped_of h m sp q x ≡ map.Go p → write_execute q.rights ≡ false
      go (Err y) f k = let z : ◌≡◌ {A = ℕ} 0 1 = cc in absurd (omega arith)
      go (Ok n) f k = allowed_not_both q n f

  module _ (va : ℕ) (r : Rights) where
    pub protect_refuses : write_execute r ≡ true → protect.decide_of h m sp va r ≡ Err WriteExecute
    unfolding protect.decide_of
    protect_refuses s = rw s

    pub protect_searches : write_execute r ≡ false → protect.decide_of h m sp va r ≡ protect.changing_of m sp va r (find_of h m sp va)
    unfolding protect.decide_of
    protect_searches s = rw s

    pub protect_strict : (c : Change) → protect.decide_of h m sp va r ≡ Ok c
        → (write_execute r ≡ false) × (protect.changing_of m sp va r (find_of h m sp va) ≡ Ok c)
    unfolding protect.decide_of
    protect_strict c e = go (write_execute r) refl e
      where
        go : (b : Bool) → write_execute r ≡ b → cond b (Err WriteExecute) (protect.changing_of m sp va r (find_of h m sp va)) ≡ Ok c
            → (write_execute r ≡ false) × (protect.changing_of m sp va r (find_of h m sp va) ≡ Ok c)
        go true f k = let z : ◌≡◌ {A = ℕ} 0 1 = cc in absurd (omega arith)
        go false f k = (f, k)

-- FOR NO OTHER CAUSE is this reason given: of each step, that it never gives it ------------------------------------------------------

abbrev Never : Type 0
Never = ◌≡◌ {A = ℕ} 0 1

fits_never : (n size base frame : ℕ) → map.fits_of n size base frame ≡ Err WriteExecute → Never
unfolding map.fits_of
fits_never n size base frame e = go (eqb (base % size) 0) (eqb (frame % size) 0) (canonical base) (leb frame (frame_end - size)) e
  where
    go : (a b c d : Bool) → cond a (cond b (cond c (cond d (Ok n) (Err FrameRange)) (Err BaseRange)) (Err FrameUnaligned)) (Err BaseUnaligned) ≡ Err WriteExecute → Never
    go true true true true k = cc
    go true true true false k = cc
    go true true false d k = cc
    go true false c d k = cc
    go false b c d k = cc

shape_never : (size base frame : ℕ) → map.shape_of size base frame ≡ Err WriteExecute → Never
unfolding map.shape_of
shape_never size base frame e = go (eqb size 4096) (eqb size 2097152) (eqb size 1073741824) e
  where
    go : (a b c : Bool)
        → cond a (map.fits_of 0 4096 base frame) (cond b (map.fits_of 1 2097152 base frame) (cond c (map.fits_of 2 1073741824 base frame) (Err Size))) ≡ Err WriteExecute → Never
    go true b c k = fits_never 0 4096 base frame k
    go false true c k = fits_never 1 2097152 base frame k
    go false false true k = fits_never 2 1073741824 base frame k
    go false false false k = cc

allowed_only : (q : Asked) → map.allowed_of q ≡ Err WriteExecute → write_execute q.rights ≡ true
unfolding map.allowed_of map.strict_of
allowed_only q e = go (map.shape_of q.size q.base q.frame) (write_execute q.rights) refl refl e
  where
    go : (x : Result ℕ Reason) (b : Bool) → map.shape_of q.size q.base q.frame ≡ x → write_execute q.rights ≡ b → map.strict_of q.rights x ≡ Err WriteExecute
        → write_execute q.rights ≡ true
    go (Err y) b ex eb k = let z : Never = shape_never q.size q.base q.frame (ex ∙ k) in absurd (omega (arith, z))
    go (Ok n) true ex eb k = eb
    go (Ok n) false ex eb k = let j = rw eb at k in let z : Never = cc in absurd (omega (arith, z))

module _ (h : ℕ → Bool) (m : ℕ → ℕ) (sp : Space) where
  fresh_never : (b : Book) (need : ℕ) (x y z : Option ℕ) → map.fresh_three b need x y z ≡ Err WriteExecute → Never
  unfolding map.fresh_three
  fresh_never b need (Some x) (Some y) (Some z) e = cc
  fresh_never b need None y z e = cc
  fresh_never b need (Some x) None z e = cc
  fresh_never b need (Some x) (Some y) None e = cc

  stock_never : (need : ℕ) (x : Result Book PoolReason) → map.stock_of h m sp need x ≡ Err WriteExecute → Never
  unfolding map.stock_of map.fresh_of
  stock_never need (Err r) e = cc
  stock_never need (Ok b) e = go (ltb b.free need) e
    where
      go : (t : Bool) → cond t (Err NoRoom) (map.fresh_of h m sp b need) ≡ Err WriteExecute → Never
      go true k = cc
      go false k = fresh_never b need _ _ _ k

  supply_never : (need : ℕ) → map.supply_of h m sp need ≡ Err WriteExecute → Never
  unfolding map.supply_of
  supply_never need e = go (eqb need 0) e
    where
      go : (t : Bool) → cond t map.none_of (map.stock_of h m sp need (opened_of h m sp)) ≡ Err WriteExecute → Never
      go true k = cc
      go false k = stock_never need (opened_of h m sp) k

  spared_never : (w : Way) (s : Result NewTables Reason) → (s ≡ Err WriteExecute → Never) → map.spared_of w s ≡ Err WriteExecute → Never
  unfolding map.spared_of
  spared_never w (Err y) n e = n e
  spared_never w (Ok f) n e = go (map.apart_of w f) e
    where
      go : (t : Bool) → cond t (Ok f) (Err BadList) ≡ Err WriteExecute → Never
      go true k = cc
      go false k = cc

  module _ (q : Asked) where
    made_never : (target level table : ℕ) (f : NewTables) (x : Option ℕ) → map.made_of q target level table f x ≡ map.Refused WriteExecute → Never
    unfolding map.made_of
    made_never target level table f None e = cc
    made_never target level table f (Some w) e = cc

    place_never : (target level table : ℕ) (s : Result NewTables Reason) → (s ≡ Err WriteExecute → Never) → map.place_of q target level table s ≡ map.Refused WriteExecute → Never
    unfolding map.place_of
    place_never target level table (Err y) n e = let same : y ≡ WriteExecute = cc in n (ap Err same)
    place_never target level table (Ok f) n e = made_never target level table f (made_page target q.frame q.rights) e

    because_never : (target : ℕ) (w : Way) (y : Why) → map.because_of h m sp q target w y ≡ map.Refused WriteExecute → Never
    unfolding map.because_of
    because_never target w why.Nothing e = place_never target w.level w.a _ (spared_never w _ (supply_never (w.level - target))) e
    because_never target w why.Page e = cc
    because_never target w why.Table e = cc
    because_never target w why.Stray e = cc

    fitting_never : (target : ℕ) (x : Result (Unit {0}) PoolReason) → map.fitting_of h m sp q target x ≡ map.Refused WriteExecute → Never
    unfolding map.fitting_of map.stopped_of
    fitting_never target (Err r) e = cc
    fitting_never target (Ok tt) e = go (map.meets_of sp q.frame q.size) e
      where
        go : (b : Bool) → cond b (map.Refused FrameInPool) (map.stopped_of h m sp q target (way_of h m sp q.base target)) ≡ map.Refused WriteExecute → Never
        go true k = cc
        go false k = let w : Way = way_of h m sp q.base target in because_never target w w.why k

    pub map_only : map.decide_of h m sp q ≡ map.Refused WriteExecute → write_execute q.rights ≡ true
    unfolding map.decide_of map.shaped_of map.standing_of
    map_only e = go (map.allowed_of q) refl e
      where
        go : (x : Result ℕ Reason) → map.allowed_of q ≡ x → map.shaped_of h m sp q x ≡ map.Refused WriteExecute → write_execute q.rights ≡ true
        go (Err y) f k = let same : y ≡ WriteExecute = cc in allowed_only q (f ∙ ap Err same)
        go (Ok n) f k = let z : Never = fitting_never n (names_of h m sp) k in absurd (omega (arith, z))

  module _ (va : ℕ) where
    page_never : (w : Way) (x : Entry) → find.page_entry_of va w x ≡ Err WriteExecute → Never
    unfolding find.page_entry_of
    page_never w entry.Nothing e = cc
    page_never w (entry.Page f g) e = cc
    page_never w (entry.Table t g) e = cc

    found_because_never : (w : Way) (y : Why) → find.found_because_of va w y ≡ Err WriteExecute → Never
    unfolding find.found_because_of
    found_because_never w why.Stray e = cc
    found_because_never w why.Nothing e = cc
    found_because_never w why.Table e = cc
    found_because_never w why.Page e = go (find.starts_of w.level va) e
      where
        go : (b : Bool) → cond b (find.page_entry_of va w (says w.level w.word)) (Err NothingStarts) ≡ Err WriteExecute → Never
        go true k = page_never w (says w.level w.word) k
        go false k = cc

    found_never : (w : Way) → find.found_stopped_of va w ≡ Err WriteExecute → Never
    unfolding find.found_stopped_of
    found_never w e = go (leb w.level 3) e
      where
        go : (b : Bool) → cond b (find.found_because_of va w w.why) (Err Stray) ≡ Err WriteExecute → Never
        go true k = found_because_never w w.why k
        go false k = cc

    sought_never : (x : Result (Unit {0}) PoolReason) → find.sought_of h m sp va x ≡ Err WriteExecute → Never
    unfolding find.sought_of
    sought_never (Err r) e = cc
    sought_never (Ok tt) e = go (canonical va) e
      where
        go : (b : Bool) → cond b (find.found_stopped_of va (way_of h m sp va 4)) (Err BaseRange) ≡ Err WriteExecute → Never
        go true k = found_never (way_of h m sp va 4) k
        go false k = cc

    find_never : find_of h m sp va ≡ Err WriteExecute → Never
    unfolding find_of
    find_never e = sought_never (names_of h m sp) e

    pub protect_only : (r : Rights) → protect.decide_of h m sp va r ≡ Err WriteExecute → write_execute r ≡ true
    unfolding protect.decide_of protect.changing_of
    protect_only r e = go (write_execute r) refl e
      where
        sought_only : (x : Result PageEntry Reason) → find_of h m sp va ≡ x → protect.changing_of m sp va r x ≡ Err WriteExecute → Never
        sought_only (Ok s) f k = cc
        sought_only (Err y) f k = let same : y ≡ WriteExecute = cc in find_never (f ∙ ap Err same)

        go : (b : Bool) → write_execute r ≡ b → cond b (Err WriteExecute) (protect.changing_of m sp va r (find_of h m sp va)) ≡ Err WriteExecute
            → write_execute r ≡ true
        go true f k = f
        go false f k = let z : Never = sought_only (find_of h m sp va) refl k in absurd (omega (arith, z))

    booked_never : (s : PageEntry) (n : ℕ) (b : Book) → unmap.booked_of sp s n b ≡ Err WriteExecute → Never
    unfolding unmap.booked_of
    booked_never s n b e = go (takes_of sp b n) e
      where
        go : (t : Bool) → cond {A = Result Removal Reason} t (Ok (record { page = s; empties = n; book = b })) (Err (Pool BadBook)) ≡ Err WriteExecute → Never
        go true k = cc
        go false k = cc

    open_never : (s : PageEntry) (n : ℕ) (x : Result Book PoolReason) → unmap.open_of sp s n x ≡ Err WriteExecute → Never
    unfolding unmap.open_of
    open_never s n (Ok b) e = booked_never s n b e
    open_never s n (Err r) e = cc

    remove_never : (s : PageEntry) (n : ℕ) → unmap.remove_of h m sp s n ≡ Err WriteExecute → Never
    unfolding unmap.remove_of
    remove_never s n e = go (eqb n 0) e
      where
        go : (t : Bool) → cond {A = Result Removal Reason} t (Ok (record { page = s; empties = 0; book = map.no_book })) (unmap.open_of sp s n (opened_of h m sp)) ≡ Err WriteExecute → Never
        go true k = cc
        go false k = open_never s n (opened_of h m sp) k

    removing_never : (x : Result PageEntry Reason) → find_of h m sp va ≡ x → unmap.removing_of h m sp va x ≡ Err WriteExecute → Never
    unfolding unmap.removing_of
    removing_never (Ok s) f k = remove_never s (unmap.emptied_of h m va s.way) k
    removing_never (Err y) f k = let same : y ≡ WriteExecute = cc in find_never (f ∙ ap Err same)

    pub unmap_never : unmap.decide_of h m sp va ≢ Err WriteExecute
    unfolding unmap.decide_of
    unmap_never e = let z : Never = removing_never (find_of h m sp va) refl e in absurd (omega (arith, z))
