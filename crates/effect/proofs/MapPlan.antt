-- What map decides in a space that is whole, test by test; and what a plan shows.
use Prim.Native.Nat.{ℕ, zero, suc, ◌+◌, ◌-◌, ◌*◌, ◌%◌, ◌^◌, ◌<◌, ◌≤◌}
use mathlib.Core.Bool.{Bool, true, false, cond, ◌&&◌}
use mathlib.Core.Logic.{inl, inr, ◌≢◌}
use mathlib.Core.Path.{◌≡◌, refl, sym, ap, ◌∙◌}
use native.Mathlib.Decide.{dec_le}
use native.Mathlib.Omega.{arith}
use borrow.Author.Tests.{lt-ltb, le-ltb, le-leb, lt-leb, eq-eqb, ne_eqb}
use Rattle.std.proofs.Common.{Some, Ok, Err}
use lib.Dec.{leb, ltb}
use Rattle.entry.specs.Entry.{size_of}
use Rattle.entry.specs.Words.{fits, page_word, made_page}
use Rattle.entry.specs.declared.Entry.TheVariants.{Nothing}
use Rattle.walk.specs.Walk.{index_of}
use Rattle.tables.specs.Roles.{Role, left, entry_at}
use Rattle.tables.specs.Way.{Comes}
use Rattle.tables.proofs.Way.{comes_left}
use Rattle.pool.specs.Book.{book_of, page_at, listed_of}
use Rattle.pool.specs.Booked.{setting_of}
use Rattle.pool.specs.declared.Space.{Space}
use Rattle.pool.proofs.Listing.{listed_free}
use Rattle.plan.specs.declared.Reason.TheVariants.{Size, FrameInPool, NoRoom}
use Rattle.plan.specs.declared.descent.Way.{Way}
use Rattle.plan.specs.declared.maps.Asked.{Asked}
use Rattle.plan.specs.declared.maps.NewTables.{NewTables}
use Rattle.plan.specs.declared.maps.Mapping.{Mapping}
use Rattle.plan.specs.Map.{Go, Refused, fits_of, shape_of, allowed_of, meets_of, no_book, nth_of, fresh_three, fresh_of, stock_of, supply_of, spared_of, made_of, place_of, stopped_of, fitting_of, standing_of, shaped_of, decide_of}
use Rattle.plan.specs.Descend.{way_of}
use Rattle.effect.specs.MapDone.{Fitted}
use Rattle.effect.specs.MapRefused.{OfLevel, Meets, FrameApart}
use Rattle.effect.specs.Whole.{Whole}
use Rattle.effect.proofs.Wholes.{root_low, owned, book_names, book_opens}
use Rattle.effect.proofs.Trace.{Traced, traced}
use Rattle.plan.specs.Spare.{OnWay, last, second, third, fourth, Spared}
use Rattle.plan.proofs.Sparing.{spares}
use Rattle.plan.proofs.Shapes.{allowed_strict}

-- Sizes --------------------------------------------------------------------------------------------------------------------------

-- the tests of a page of level l
pub shape_of_level : (l : ℕ) (q : Asked) → OfLevel l q → shape_of q.size q.base q.frame ≡ fits_of l q.size q.base q.frame
unfolding shape_of size_of
shape_of_level zero q o = rw o.1
shape_of_level (suc zero) q o = rw o.1
shape_of_level (suc (suc zero)) q o = rw o.1
shape_of_level (suc (suc (suc l))) q o = absurd (omega (arith, o.0))

pub shape_of_none : (q : Asked) → ((l : ℕ) → l ≤ 2 → q.size ≢ size_of l) → shape_of q.size q.base q.frame ≡ Err Size
unfolding shape_of size_of
shape_of_none q n =
    rw (ne_eqb q.size 4096 (n 0 (omega arith)), ne_eqb q.size 2097152 (n 1 (omega arith)), ne_eqb q.size 1073741824 (n 2 (omega arith)))

pub size_small : (l size : ℕ) → l ≤ 2 → size ≡ size_of l → (0 < size) × (size ≤ 1073741824)
unfolding size_of
size_small zero size u e = (omega arith, omega arith)
size_small (suc zero) size u e = (omega arith, omega arith)
size_small (suc (suc zero)) size u e = (omega arith, omega arith)
size_small (suc (suc (suc l))) size u e = absurd (omega arith)

pub allowed_fits : (l : ℕ) (q : Asked) → Fitted l q → allowed_of q ≡ Ok l
unfolding fits_of
allowed_fits l q f =
    let s = size_small l q.size f.level f.size_is in
    let shape : shape_of q.size q.base q.frame ≡ Ok l =
    shape_of_level l q (f.level, f.size_is)
    ∙ rw (eq-eqb (q.base % q.size) 0 f.base_aligned, eq-eqb (q.frame % q.size) 0 f.frame_aligned, f.base_fits, le-leb q.frame (2 ^ 52 - q.size) (omega (arith, f.frame_fits))) in
    allowed_strict q l shape f.strict

-- the frame and the pool
pub meets_true : (sp : Space) (q : Asked) → Meets sp q → meets_of sp q.frame q.size ≡ true
unfolding meets_of
meets_true sp q k = rw (lt-ltb _ _ k.0, lt-ltb _ _ k.1)

pub meets_false : (h : ℕ → Bool) (sp : Space) (q : Asked) → FrameApart h sp q → meets_of sp q.frame q.size ≡ false
unfolding meets_of
meets_false h sp q (inl u) = rw (le-ltb (sp.first * 4096) (q.frame + q.size) (omega arith))
meets_false h sp q (inr u) = rw (le-ltb q.frame ((sp.first + sp.pages) * 4096) (omega arith)) (go (ltb (sp.first * 4096) (q.frame + q.size)))
  where
    go : (b : Bool) → (b && false) ≡ false
    go true = refl
    go false = refl

-- the page's word
page_made : (l : ℕ) (q : Asked) → Fitted l q → made_page l q.frame q.rights ≡ Some (page_word l q.frame q.rights)
unfolding made_page fits
page_made l q f =
    let s = size_small l q.size f.level f.size_is in
    let a : q.frame % size_of l ≡ 0 = ap (λ x. q.frame % x) (sym f.size_is) ∙ f.frame_aligned in
    rw (le-leb l 2 f.level, eq-eqb (q.frame % size_of l) 0 a, lt-ltb q.frame (2 ^ 52) (omega (arith, f.frame_fits)))

-- Pages for the missing tables -----------------------------------------------------------------------------------------------------

-- the oldest free pages, as many as are needed
pub record Supplied (m : ℕ → ℕ) (sp : Space) (need : ℕ) (f : NewTables) : Type 0 where
  pub need_is : f.need ≡ need
  pub room : need ≤ (book_of m sp).free
  pub first : 0 < need → f.a ≡ page_at m sp 0
  pub second : 1 < need → f.b ≡ page_at m sp 1
  pub third : 2 < need → f.c ≡ page_at m sp 2
  pub book_is : 0 < need → f.book ≡ book_of m sp

nth : (ℕ → ℕ) → Space → ℕ → ℕ → ℕ
nth m sp need j = cond (leb need j) 0 (page_at m sp j)

nth_is : (m : ℕ → ℕ) (sp : Space) (need j : ℕ) → j < need → nth m sp need j ≡ page_at m sp j
unfolding nth
nth_is m sp need j u = rw (lt-leb need j u)

-- WHAT A PLAN SHOWS, in a space that is whole
pub record Planned (h : ℕ → Bool) (sp : Space) (m : ℕ → ℕ) (q : Asked) (p : Mapping) : Type 0 where
  pub fitted : Fitted p.target q
  pub apart : FrameApart h sp q
  pub base_is : p.base ≡ q.base
  pub low : p.level < 4
  pub above : p.target ≤ p.level
  pub comes : Comes (setting_of h sp) m q.base (suc p.level) p.table
  pub nothing : entry_at m p.level p.table (index_of p.level q.base) ≡ Nothing
  pub word_is : p.word ≡ page_word p.target q.frame q.rights
  pub supplied : Supplied m sp (p.level - p.target) p.fresh

module _ {h : ℕ → Bool} {sp : Space} {m : ℕ → ℕ} {role : ℕ → Role} (w : Whole h sp m role) where
  nth_listed : (need j : ℕ) → need ≤ (book_of m sp).free → nth_of h m sp (book_of m sp) need j ≡ Some (nth m sp need j)
  unfolding nth_of nth
  nth_listed need j u = go (dec_le need j)
    where
      go : Dec (need ≤ j) → cond (leb need j) (Some 0) (listed_of h m sp (book_of m sp) j) ≡ Some (cond (leb need j) 0 (page_at m sp j))
      go (yes v) = rw (le-leb need j v)
      go (no v) =
          rw (lt-leb need j (omega arith))
          (listed_free w.booked (owned w) h (λ p a b. (w.sound.built.home p (w.sound.built.whole p a b)).held) j (omega arith))

  -- enough of them, or too few
  pub supplies : (need : ℕ) → need ≤ (book_of m sp).free → (f : NewTables) × (supply_of h m sp need ≡ Ok f) × Supplied m sp need f
  unfolding supply_of stock_of fresh_of fresh_three
  supplies zero u = (
    record { need = 0; a = 0; b = 0; c = 0; book = no_book },
    refl,
    record {
      need_is = refl;
      room = u;
      first = λ v. absurd (omega arith);
      second = λ v. absurd (omega arith);
      third = λ v. absurd (omega arith);
      book_is = λ v. absurd (omega arith);
    },
  )
  supplies (suc n) u = (
    record { need = suc n; a = nth m sp (suc n) 0; b = nth m sp (suc n) 1; c = nth m sp (suc n) 2; book = book_of m sp },
    rw (ne_eqb (suc n) 0 (λ e. omega arith), book_opens w, le-ltb (book_of m sp).free (suc n) u, nth_listed (suc n) 0 u, nth_listed (suc n) 1 u, nth_listed (suc n) 2 u),
    record {
      need_is = refl;
      room = u;
      first = nth_is m sp (suc n) 0;
      second = nth_is m sp (suc n) 1;
      third = nth_is m sp (suc n) 2;
      book_is = λ v. refl;
    },
  )

  pub lacks : (need : ℕ) → (book_of m sp).free < need → supply_of h m sp need ≡ Err NoRoom
  unfolding supply_of stock_of
  lacks need u = rw (ne_eqb need 0 (λ e. omega arith), book_opens w, lt-ltb (book_of m sp).free need u)

  -- the free pages differ, and no table of the way is free
  module _ (va target : ℕ) (x : Way) (t : Traced (setting_of h sp) m va target x) where
    on_live : (p : ℕ) → OnWay x p → (l : ℕ) × (left (role p) ≡ suc l)
    on_live p last = (_, comes_left w.sound.built t.comes)
    on_live p (second u) = (_, comes_left w.sound.built (t.second u).comes)
    on_live p (third u) = (_, comes_left w.sound.built (t.third u).comes)
    on_live p (fourth u) = (_, comes_left w.sound.built (t.fourth u).comes)

    free_off : (p j : ℕ) → p ≡ page_at m sp j → j < (book_of m sp).free → ¬ OnWay x p
    free_off p j e u o = let k = on_live p o in omega (arith, k.1, ap left (ap role e ∙ w.booked.lists.frees j u))

    two_free : (p q i j : ℕ) → p ≡ page_at m sp i → q ≡ page_at m sp j → i < (book_of m sp).free → j < (book_of m sp).free → i ≢ j → p ≢ q
    two_free p q i j e f u v d k = d (w.booked.lists.once i j (omega arith) (omega arith) (sym e ∙ k ∙ f))

    supply_spared : (need : ℕ) (f : NewTables) → Supplied m sp need f → Spared x f
    supply_spared need f s = record {
      first_off = λ u. free_off f.a 0 (s.first (more u)) (room (more u));
      second_off = λ u. free_off f.b 1 (s.second (more u)) (room (more u));
      third_off = λ u. free_off f.c 2 (s.third (more u)) (room (more u));
      two = λ u. two_free f.a f.b 0 1 (s.first (omega (arith, more u))) (s.second (more u)) (room (omega (arith, more u))) (room (more u)) (λ e. omega arith);
      ends = λ u. two_free f.a f.c 0 2 (s.first (omega (arith, more u))) (s.third (more u)) (room (omega (arith, more u))) (room (more u)) (λ e. omega arith);
      three = λ u. two_free f.b f.c 1 2 (s.second (omega (arith, more u))) (s.third (more u)) (room (omega (arith, more u))) (room (more u)) (λ e. omega arith);
    }
      where
        more : {n : ℕ} → n < f.need → n < need
        more u = omega (arith, u, s.need_is)

        room : {n : ℕ} → n < need → n < (book_of m sp).free
        room u = omega (arith, u, s.room)

  -- The decision ---------------------------------------------------------------------------------------------------------------------

  module _ (q : Asked) (l : ℕ) (f : Fitted l q) where
    fitted_decides : decide_of h m sp q ≡ cond (meets_of sp q.frame q.size) (Refused FrameInPool) (stopped_of h m sp q l (way_of h m sp q.base l))
    unfolding decide_of shaped_of standing_of fitting_of
    fitted_decides = rw (allowed_fits l q f, book_names w)

    pub meets_decides : Meets sp q → decide_of h m sp q ≡ Refused FrameInPool
    meets_decides k = fitted_decides ∙ rw (meets_true sp q k)

    module _ (k : FrameApart h sp q) where
      pub apart_decides : decide_of h m sp q ≡ stopped_of h m sp q l (way_of h m sp q.base l)
      apart_decides = fitted_decides ∙ rw (meets_false h sp q k)

      -- the way of the base
      pub base_traced : Traced (setting_of h sp) m q.base l (way_of h m sp q.base l)
      base_traced =
          traced w.sound.built w.booked q.base l f.base_fits (root_low w) (inl (omega (arith, f.level)))

      -- it stops where nothing is, and there are pages for the tables that are missing
      pub room_decides : (x : Way) → Traced (setting_of h sp) m q.base l x → l ≤ x.level
          → entry_at m x.level x.a (index_of x.level q.base) ≡ Nothing → (s : NewTables) → supply_of h m sp (x.level - l) ≡ Ok s → Supplied m sp (x.level - l) s
          → (p : Mapping) × (place_of q l x.level x.a (spared_of x (supply_of h m sp (x.level - l))) ≡ Go p) × Planned h sp m q p
      unfolding place_of made_of
      room_decides x t u n s e o = (
        record { base = q.base; target = l; level = x.level; table = x.a; word = page_word l q.frame q.rights; fresh = s },
        rw (e, spares x s (supply_spared q.base l x t (x.level - l) s o), page_made l q f),
        record { fitted = f; apart = k; base_is = refl; low = t.low; above = u; comes = t.comes; nothing = n; word_is = refl; supplied = o },
      )
