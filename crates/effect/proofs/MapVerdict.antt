-- Each cause makes map refuse with its reason; and where there is no cause there is a plan.
use Prim.Native.Nat.{ℕ, zero, suc, ◌+◌, ◌-◌, ◌*◌, ◌%◌, ◌^◌, ◌<◌, ◌≤◌}
use mathlib.Core.Bool.{Bool, true, false}
use mathlib.Core.Logic.{◌⊎◌, inl, inr, ◌≢◌}
use mathlib.Core.Path.{◌≡◌, refl, sym, ap, ◌∙◌, subst}
use native.Mathlib.Decide.{ℕ_discrete, dec_le, dec_lt}
use native.Mathlib.Omega.{arith}
use borrow.Author.Tests.{le-leb, lt-leb, eq-eqb, ne_eqb}
use Rattle.entry.specs.Entry.{size_of, says}
use Rattle.entry.specs.declared.Entry.TheVariants.{Nothing, Table}
use Rattle.walk.specs.Walk.{canonical, index_of}
use Rattle.tables.specs.Roles.{Setting, Role, entry_at}
use Rattle.tables.specs.Way.{Comes, begin, onto}
use Rattle.tables.proofs.Way.{comes_top, comes_same}
use Rattle.tables.proofs.OneWrite.{nothing_plain}
use Rattle.tables.specs.Overlap.{Stop, AtSomething, at_nothing_above, at_page_above, at_table_there}
use Rattle.tables.proofs.Overlap.{overlap}
use Rattle.pool.specs.Book.{book_of}
use Rattle.pool.specs.Booked.{setting_of}
use Rattle.pool.specs.declared.Space.{Space}
use Rattle.plan.specs.declared.Reason.{Reason}
use Rattle.plan.specs.declared.Reason.TheVariants.{Size, BaseUnaligned, FrameUnaligned, BaseRange, FrameRange, WriteExecute, FrameInPool, Overlap, NoRoom}
use Rattle.plan.specs.declared.descent.Way.{Way}
use Rattle.plan.specs.declared.descent.Why.{Why}
use Rattle.plan.specs.declared.maps.Asked.{Asked}
use Rattle.plan.specs.declared.maps.Mapping.{Mapping}
use Rattle.plan.specs.Map.{Placed, Go, Refused, fits_of, strict_of, allowed_of, supply_of, spared_of, place_of, because_of, stopped_of, shaped_of, decide_of}
use Rattle.plan.specs.Descend.{way_of}
use Rattle.plan.specs.Rights.{write_execute}
use Rattle.effect.specs.MapDone.{Fitted, Misses}
use Rattle.effect.specs.MapRefused.{OfLevel, Meets, FrameApart, SomeMapped, Cause, no_size, base_unaligned, frame_unaligned, base_range, frame_high, write_execute_lem, frame_in_pool, mapped, no_room}
use Rattle.effect.specs.Whole.{Whole}
use Rattle.effect.proofs.MapPlan.{shape_of_level, shape_of_none, size_small, Planned, supplies, lacks, meets_decides, apart_decides, base_traced, room_decides}
use Rattle.effect.proofs.Trace.{Because, at_nothing, at_page, at_table, Traced}

-- A walk stops once --------------------------------------------------------------------------------------------------------------

-- it does not go on below an entry that says nothing
no_further : {σ : Setting} {m : ℕ → ℕ} {va n p j t : ℕ} → Comes σ m va n p → n ≤ j → Comes σ m va (suc j) t → entry_at m j t (index_of j va) ≡ Nothing → ⊥
no_further (begin e f u) v d x = omega (arith, comes_top d)
no_further {σ} {m} {va} {n} {p} {j} {t} (onto r g c e) v d x = go (ℕ_discrete n j) (λ u. no_further c u d x)
  where
    go : Dec (n ≡ j) → (suc n ≤ j → ⊥) → ⊥
    go (yes y) ih =
        let same : r ≡ t = comes_same c (subst (λ i. Comes σ m va (suc i) t) (sym y) d) in
        nothing_plain x p g (rw (← y, ← same) e)
    go (no y) ih = ih (omega arith)

stops_once : {σ : Setting} {m : ℕ → ℕ} {va j t k s : ℕ} → Comes σ m va (suc j) t → entry_at m j t (index_of j va) ≡ Nothing
    → Comes σ m va (suc k) s → entry_at m k s (index_of k va) ≡ Nothing → j ≡ k
stops_once {j = j} {k = k} c e d f = go (dec_lt j k) (dec_lt k j)
  where
    go : Dec (j < k) → Dec (k < j) → j ≡ k
    go (yes u) v = absurd (no_further c (omega arith) d f)
    go (no u) (yes v) = absurd (no_further d (omega arith) c e)
    go (no u) (no v) = omega arith

-- Every case, told apart -----------------------------------------------------------------------------------------------------------

sized : (q : Asked) → ((l : ℕ) × OfLevel l q) ⊎ ((l : ℕ) → l ≤ 2 → q.size ≢ size_of l)
sized q = go (ℕ_discrete q.size (size_of 0)) (ℕ_discrete q.size (size_of 1)) (ℕ_discrete q.size (size_of 2))
  where
    go : Dec (q.size ≡ size_of 0) → Dec (q.size ≡ size_of 1) → Dec (q.size ≡ size_of 2) → ((l : ℕ) × OfLevel l q) ⊎ ((l : ℕ) → l ≤ 2 → q.size ≢ size_of l)
    go (yes e) y z = inl (0, (omega arith, e))
    go (no x) (yes e) z = inl (1, (omega arith, e))
    go (no x) (no y) (yes e) = inl (2, (omega arith, e))
    go (no x) (no y) (no z) = inr none
      where
        none : (l : ℕ) → l ≤ 2 → q.size ≢ size_of l
        none zero u = x
        none (suc zero) u = y
        none (suc (suc zero)) u = z
        none (suc (suc (suc l))) u = absurd (omega arith)

apart_or_meets : (h : ℕ → Bool) (sp : Space) (q : Asked) → FrameApart h sp q ⊎ Meets sp q
apart_or_meets h sp q = go (dec_lt (sp.first * 4096) (q.frame + q.size)) (dec_lt q.frame ((sp.first + sp.pages) * 4096))
  where
    go : Dec (sp.first * 4096 < q.frame + q.size) → Dec (q.frame < (sp.first + sp.pages) * 4096) → FrameApart h sp q ⊎ Meets sp q
    go (no u) v = inl (inl (omega arith))
    go (yes u) (no v) = inl (inr (omega arith))
    go (yes u) (yes v) = inr (u, v)

-- what is decided where the tests of numbers hold: by how the way of the base ends
data Ending (h : ℕ → Bool) (sp : Space) (m : ℕ → ℕ) (q : Asked) (l : ℕ) : Placed → Type 0 where
  bare : (x : Way) → l ≤ x.level → Traced (setting_of h sp) m q.base l x → entry_at m x.level x.a (index_of x.level q.base) ≡ Nothing
      → Ending h sp m q l (place_of q l x.level x.a (spared_of x (supply_of h m sp (x.level - l))))
  occupied : SomeMapped h sp m q → Ending h sp m q l (Refused Overlap)

-- WHAT IS DECIDED: a refusal for its cause, or a plan
pub data MapVerdict (h : ℕ → Bool) (sp : Space) (m : ℕ → ℕ) (q : Asked) : Placed → Type 0 where
  refuses : (r : Reason) → Cause h sp m q r → MapVerdict h sp m q (Refused r)
  goes : (p : Mapping) → Planned h sp m q p → MapVerdict h sp m q (Go p)

module _ {h : ℕ → Bool} {sp : Space} {m : ℕ → ℕ} {role : ℕ → Role} (w : Whole h sp m role) (q : Asked) where
  module _ (l : ℕ) (f : Fitted l q) (c : FrameApart h sp q) where
    aligned : q.base % size_of l ≡ 0
    aligned = ap (λ x. q.base % x) (sym f.size_is) ∙ f.base_aligned

    -- nothing on the way: nothing is mapped there
    bare_unmapped : (level table : ℕ) → l ≤ level → Comes (setting_of h sp) m q.base (suc level) table
        → entry_at m level table (index_of level q.base) ≡ Nothing → ¬ SomeMapped h sp m q
    bare_unmapped level table u d e k = (overlap w.sound aligned (at_nothing_above level table u d e)).1 (rw f.size_is at k)

    -- a page or a table on the way: something is
    overlapping : (s : Stop (setting_of h sp) m q.base l) → AtSomething s → SomeMapped h sp m q
    overlapping s t = rw f.size_is ((overlap w.sound aligned s).0 t)

    ending_of : (x : Way) → Traced (setting_of h sp) m q.base l x → Ending h sp m q l (stopped_of h m sp q l x)
    unfolding stopped_of because_of
    ending_of x t = go t.because
      where
        by : {y : Why} → x.why ≡ y → Ending h sp m q l (because_of h m sp q l x y) → Ending h sp m q l (because_of h m sp q l x x.why)
        by e k = subst (λ (y : Why). Ending h sp m q l (because_of h m sp q l x y)) (sym e) k

        go : Because m l x → Ending h sp m q l (because_of h m sp q l x x.why)
        go (at_nothing y (inr u) e) = absurd (omega (arith, f.level))
        go (at_nothing y (inl u) e) = by y (bare x u t (ap (says x.level) (sym t.word) ∙ e))
        go (at_page a g y (inr u) e) = absurd (omega (arith, f.level))
        go (at_page a g y (inl u) e) =
            by y (occupied (overlapping (at_page_above x.level x.a a g u t.comes (ap (says x.level) (sym t.word) ∙ e)) tt))
        go (at_table s g y u e) =
            by y (occupied (overlapping (at_table_there x.a s g (subst (λ n. Comes (setting_of h sp) m q.base (suc n) x.a) u t.comes)
            (subst (λ n. entry_at m n x.a (index_of n q.base) ≡ Table s g) u (ap (says x.level) (sym t.word) ∙ e))) tt))

    ending : Ending h sp m q l (decide_of h m sp q)
    ending = rw (apart_decides w q l f c) (ending_of (way_of h m sp q.base l) (base_traced w q l f c))

    overlap_refuses : SomeMapped h sp m q → decide_of h m sp q ≡ Refused Overlap
    overlap_refuses k = go (decide_of h m sp q) ending
      where
        go : (d : Placed) → Ending h sp m q l d → d ≡ Refused Overlap
        go d (bare x u t e) = absurd (bare_unmapped x.level x.a u t.comes e k)
        go d (occupied k') = refl

    room_refuses : (n : ℕ) → ¬ SomeMapped h sp m q → Misses (setting_of h sp) m q.base l n → (book_of m sp).free < n → decide_of h m sp q ≡ Refused NoRoom
    unfolding place_of spared_of
    room_refuses n none k u = go (decide_of h m sp q) ending
      where
        go : (d : Placed) → Ending h sp m q l d → d ≡ Refused NoRoom
        go d (bare x v t e) =
            let y : x.level ≡ l + n = stops_once t.comes e k.comes k.nothing in
            let z : x.level - l ≡ n = omega arith in
            rw (z, lacks w n u)
        go d (occupied k') = absurd (none k')

    fitted_verdict : MapVerdict h sp m q (decide_of h m sp q)
    unfolding place_of spared_of
    fitted_verdict = go (decide_of h m sp q) ending
      where
        go : (d : Placed) → Ending h sp m q l d → MapVerdict h sp m q d
        go d (occupied k) = refuses Overlap (mapped l f c k)
        go d (bare x v t e) = supply (dec_le (x.level - l) (book_of m sp).free)
          where
            supply : Dec (x.level - l ≤ (book_of m sp).free) → MapVerdict h sp m q (place_of q l x.level x.a (spared_of x (supply_of h m sp (x.level - l))))
            supply (yes u) =
                let s = supplies w (x.level - l) u in
                let r = room_decides w q l f c x t v e s.0 s.1 s.2 in
                rw r.1 (goes r.0 r.2)
            supply (no u) =
                let few : (book_of m sp).free < x.level - l = omega arith in
                let y : x.level ≡ l + (x.level - l) = omega arith in
                rw (lacks w (x.level - l) few)
                (refuses NoRoom (no_room l (x.level - l) f c (bare_unmapped x.level x.a v t.comes e)
                (record {
                  table = x.a;
                  comes = subst (λ n. Comes (setting_of h sp) m q.base (suc n) x.a) y t.comes;
                  nothing = subst (λ n. entry_at m n x.a (index_of n q.base) ≡ Nothing) y e;
                }) few))

  -- A CAUSE IS A REFUSAL
  pub cause_refuses : (r : Reason) → Cause h sp m q r → decide_of h m sp q ≡ Refused r
  unfolding decide_of shaped_of allowed_of strict_of fits_of
  cause_refuses r (no_size n) = rw (shape_of_none q n)
  cause_refuses r (base_unaligned l o a) = rw (shape_of_level l q o, ne_eqb (q.base % q.size) 0 a)
  cause_refuses r (frame_unaligned l o a b) = rw (shape_of_level l q o, eq-eqb (q.base % q.size) 0 a, ne_eqb (q.frame % q.size) 0 b)
  cause_refuses r (base_range l o a b u) =
      rw (shape_of_level l q o, eq-eqb (q.base % q.size) 0 a, eq-eqb (q.frame % q.size) 0 b, u)
  cause_refuses r (frame_high l o a b u v) =
      let s = size_small l q.size o.0 o.1 in
      rw (shape_of_level l q o, eq-eqb (q.base % q.size) 0 a, eq-eqb (q.frame % q.size) 0 b, u, lt-leb q.frame (2 ^ 52 - q.size) (omega arith))
  cause_refuses r (write_execute_lem l o a b u v x) =
      let s = size_small l q.size o.0 o.1 in
      rw (shape_of_level l q o, eq-eqb (q.base % q.size) 0 a, eq-eqb (q.frame % q.size) 0 b, u, le-leb q.frame (2 ^ 52 - q.size) (omega arith), x)
  cause_refuses r (frame_in_pool l f k) = meets_decides w q l f k
  cause_refuses r (mapped l f c k) = overlap_refuses l f c k
  cause_refuses r (no_room l n f c none k u) = room_refuses l f c n none k u

  because : (r : Reason) → Cause h sp m q r → MapVerdict h sp m q (decide_of h m sp q)
  because r c = rw (cause_refuses r c) (refuses r c)

  -- EVERY CASE IS ONE OF THESE
  pub verdict : MapVerdict h sp m q (decide_of h m sp q)
  verdict = size_go (sized q)
    where
      fitted_go : (l : ℕ) → Fitted l q → FrameApart h sp q ⊎ Meets sp q → MapVerdict h sp m q (decide_of h m sp q)
      fitted_go l f (inl c) = fitted_verdict l f c
      fitted_go l f (inr k) = because FrameInPool (frame_in_pool l f k)

      level_go : (l : ℕ) → OfLevel l q → Dec (q.base % q.size ≡ 0) → Dec (q.frame % q.size ≡ 0) → (c : Bool) → canonical q.base ≡ c → Dec (q.frame + q.size ≤ 2 ^ 52)
          → (x : Bool) → write_execute q.rights ≡ x → MapVerdict h sp m q (decide_of h m sp q)
      level_go l o (no a) b c e d x s = because BaseUnaligned (base_unaligned l o a)
      level_go l o (yes a) (no b) c e d x s = because FrameUnaligned (frame_unaligned l o a b)
      level_go l o (yes a) (yes b) false e d x s = because BaseRange (base_range l o a b e)
      level_go l o (yes a) (yes b) true e (no d) x s = because FrameRange (frame_high l o a b e (omega arith))
      level_go l o (yes a) (yes b) true e (yes d) true s = because WriteExecute (write_execute_lem l o a b e d s)
      level_go l o (yes a) (yes b) true e (yes d) false s =
          fitted_go l (record { level = o.0; size_is = o.1; base_aligned = a; frame_aligned = b; base_fits = e; frame_fits = d; strict = s }) (apart_or_meets h sp q)

      size_go : ((l : ℕ) × OfLevel l q) ⊎ ((l : ℕ) → l ≤ 2 → q.size ≢ size_of l) → MapVerdict h sp m q (decide_of h m sp q)
      size_go (inr n) = because Size (no_size n)
      size_go (inl k) =
          level_go k.0 k.1 (ℕ_discrete (q.base % q.size) 0) (ℕ_discrete (q.frame % q.size) 0) (canonical q.base) refl (dec_le (q.frame + q.size) (2 ^ 52))
          (write_execute q.rights) refl
