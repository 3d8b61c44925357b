-- WHERE AN OPERATION DOES NOT WRITE: in pages that are neither of the subtree of a table on its way, nor new, nor the book's.
use Prim.Native.Nat.{ℕ, suc, ◌+◌, ◌-◌, ◌^◌, ◌<◌, ◌≤◌}
use mathlib.Core.Bool.{Bool, true, false, cond}
use mathlib.Core.List.{List, [], ◌∷◌, ◌++◌, append-nil, append_assoc}
use mathlib.Core.Logic.{◌⊎◌, inl, inr, ◌≢◌}
use mathlib.Core.Path.{◌≡◌, refl, sym, ap, ◌∙◌, subst, subst₂}
use native.Mathlib.Decide.{ℕ_discrete}
use native.Mathlib.Omega.{arith}
use borrow.Author.Tests.{leb-false}
use Rattle.std.proofs.Common.{Result, Ok, Err}
use Rattle.plan.specs.declared.Reason.{Reason}
use lib.Dec.{leb}
use Rattle.word.specs.Memory.{at}
use Rattle.word.specs.Writes.{Write, write, after, zeros, Every, none}
use Rattle.word.proofs.Writes.{every_one, every_append, every_map, every_zeros, after_append, after_other}
use Rattle.entry.specs.Words.{with_rights}
use Rattle.entry.specs.declared.Rights.{Rights}
use Rattle.entry.specs.declared.Entry.TheVariants.{Table}
use Rattle.walk.specs.Walk.{index_of}
use Rattle.walk.proofs.Digits.{index_lt}
use Rattle.tables.specs.Roles.{Setting, Role, free, table, left, entry_at, Plain}
use Rattle.tables.specs.Way.{Comes, begin, onto}
use Rattle.tables.proofs.Way.{comes_top, comes_same, comes_left}
use Rattle.tables.proofs.OneWrite.{nothing_plain, page_plain}
use Rattle.pool.specs.Book.{book_of, page_at, ticket_in}
use Rattle.pool.specs.Booked.{setting_of}
use Rattle.pool.specs.declared.Space.{Space}
use Rattle.pool.specs.declared.Book.{Book}
use Rattle.pool.specs.Changes.{aside_writes}
use Rattle.pool.proofs.Proper.{aside_proper}
use Rattle.plan.specs.Find.{find_of}
use Rattle.plan.specs.Map as map
use Rattle.plan.specs.Map.{grow_of, next_of, link_of, reached0, reached1, reached2, reached3, build_of}
use Rattle.plan.specs.Unmap as unmap
use Rattle.plan.specs.Unmap.{cut_writes, book1, book2}
use Rattle.plan.specs.Protect as protect
use Rattle.plan.specs.declared.finding.PageEntry.{PageEntry}
use Rattle.plan.specs.declared.building.TableReached.{TableReached}
use Rattle.plan.specs.declared.maps.Asked.{Asked}
use Rattle.plan.specs.declared.maps.Mapping.{Mapping}
use Rattle.plan.specs.declared.unmaps.Removal.{Removal}
use Rattle.plan.specs.declared.protects.Change.{Change}
use Rattle.plan.proofs.Found.{found_at}
use Rattle.plan.proofs.Strictly.{protect_strict}
use Rattle.effect.specs.Whole.{Whole}
use Rattle.effect.specs.MapDone.{MapDone}
use Rattle.effect.proofs.Located.{Located, located}
use Rattle.effect.proofs.MapBook.{book_writes_proper}
use Rattle.effect.proofs.MapBuilt.{next_above, page_word_small}
use Rattle.effect.proofs.MapInPool.{link_lt}
use Rattle.effect.proofs.MapPlan.{Planned, size_small}
use Rattle.effect.proofs.ProtectDone.{with_rights_lt}
use Rattle.effect.proofs.UnmapInPool.{UnmapWent}
use Rattle.effect.proofs.WayInPool.{entry_in_pool}
use Rattle.verus.specs.Trees.{UsedBy, itself, below}
use Rattle.verus.specs.Order.{InBook, FramedBySubtrees, KeepsOutside, InnerFirst}
use Rattle.verus.proofs.Invariant.{used_low, used_live}

-- The way ----------------------------------------------------------------------------------------------------------------------------

module _ {σ : Setting} {m : ℕ → ℕ} {va : ℕ} where
  level_same : {k l s t p : ℕ} → k ≡ l → Comes σ m va (suc k) s → Comes σ m va (suc l) t → UsedBy m k s p → UsedBy m l t p
  level_same {t = t} {p = p} e c d x =
      subst₂ (λ n y. UsedBy m n y p) e (comes_same c (subst (λ n. Comes σ m va (suc n) t) (sym e) d)) x

  -- what a table of the way uses, each table of the way above it uses
  way_lifts : {k l s t p : ℕ} → Comes σ m va (suc k) s → Comes σ m va (suc l) t → k ≤ l → UsedBy m k s p → UsedBy m l t p
  way_lifts (begin e f u) d v x = level_same (omega (arith, comes_top d)) (begin e f u) d x
  way_lifts {k} {l} {s} (onto r g c e) d v x = elim (ℕ_discrete k l) [
    | yes z ↦ level_same z (onto r g c e) d x
    | no z ↦ way_lifts c d (omega arith) (below (index_of (suc k) va) s g (index_lt (suc k) va) e x)
  ]

  -- the way goes no further than an entry that names no table
  way_ends : {k l s t : ℕ} → Comes σ m va (suc l) t → Comes σ m va (suc k) s → Plain (entry_at m k s (index_of k va)) → k ≤ l
  way_ends (begin e f u) d n = omega (arith, comes_top d)
  way_ends {k} {l} {s} {t} (onto r g c e) d n = elim (ℕ_discrete k (suc l)) [
    | yes z ↦ absurd (n t g (subst₂ (λ x y. entry_at m x y (index_of x va) ≡ Table t g) (sym z) (comes_same c (subst (λ x. Comes σ m va (suc x) s) z d)) e))
    | no z ↦ omega (arith, way_ends c d n)
  ]

-- Map --------------------------------------------------------------------------------------------------------------------------------

module _ {h : ℕ → Bool} {sp : Space} {m : ℕ → ℕ} {role : ℕ → Role} (w : Whole h sp m role) {q : Asked} {p : Mapping} (k : Planned h sp m q p) where
  -- the table where the way stops, a page that is taken, or the book
  abbrev Touched : ℕ → Type 0
  Touched x = (x ≡ p.table) ⊎ (((j : ℕ) × (j < p.level - p.target) × (x ≡ page_at m sp j)) ⊎ InBook sp x)

  grow_touches : (a : ℕ) (s : TableReached) → (p.target < s.level → Touched a) → Touched s.table
      → Every Touched (grow_of p.base p.target a s) × Touched (next_of p.target a s).table
  unfolding grow_of next_of
  grow_touches a s f t = go (leb s.level p.target) refl
    where
      go : (b : Bool) → leb s.level p.target ≡ b
          → Every Touched (cond b [] (zeros a 512 ++ (write s.table (index_of s.level p.base) (link_of a) ∷ [])))
          × Touched (cond b s (record { level = s.level - 1; table = a })).table
      go true e = (none, t)
      go false e =
          let new = f (leb-false s.level p.target e) in
          (every_append (zeros a 512) _ (every_zeros a 512 new (omega arith)) (every_one s.table (index_of s.level p.base) (link_of a) t (index_lt s.level p.base) (link_lt a)), new)

  first : Every Touched (grow_of p.base p.target p.fresh.a (reached0 p)) × Touched (reached1 p).table
  first = grow_touches p.fresh.a (reached0 p) (λ u. inr (inl (0, omega arith, k.supplied.first (omega arith)))) (inl refl)

  second : Every Touched (grow_of p.base p.target p.fresh.b (reached1 p)) × Touched (reached2 p).table
  second = grow_touches p.fresh.b (reached1 p)
      (λ u. let e = next_above p.target p.fresh.a (reached0 p) u in inr (inl (1, omega arith, k.supplied.second (omega arith)))) first.1

  third : Every Touched (grow_of p.base p.target p.fresh.c (reached2 p)) × Touched (reached3 p).table
  third = grow_touches p.fresh.c (reached2 p)
      (λ u.
      let e = next_above p.target p.fresh.b (reached1 p) u in
      let f = next_above p.target p.fresh.a (reached0 p) (omega arith) in
      inr (inl (2, omega arith, k.supplied.third (omega arith))))
      second.1

  word_small : p.word < 2 ^ 64
  word_small =
      let s = size_small p.target q.size k.fitted.level k.fitted.size_is in
      subst (λ x. x < 2 ^ 64) (sym k.word_is) (page_word_small p.target q.frame q.rights (omega (arith, k.fitted.frame_fits, s.0)))

  touched : Every Touched (map.writes_of sp p)
  unfolding map.writes_of build_of
  touched =
      every_append _ _
      (every_append _ _ first.0 (every_append _ _ second.0 (every_append _ _ third.0
      (every_one (reached3 p).table (index_of (reached3 p).level p.base) p.word third.1 (index_lt (reached3 p).level p.base) word_small))))
      (every_map (λ x o. inr (inr o)) _ (book_writes_proper sp p.fresh.book p.fresh.need))

  -- MAP writes to one table that was there, the last of its way
  pub map_framed : (d : MapDone h sp m role q p) → FramedBySubtrees (setting_of h sp) sp m role d.role' (map.writes_of sp p) q.base
  map_framed d l t x c unused same other i u = after_other m (map.writes_of sp p) x i u (every_map apart _ touched)
    where
      apart : (y : ℕ) → Touched y → y ≢ x
      apart y (inl e) z = unused (subst (UsedBy m l t) (sym e ∙ z) (way_lifts k.comes c (way_ends c k.comes (nothing_plain k.nothing)) itself))
      apart y (inr (inl (j, v, e))) z =
          let there : page_at m sp j ≡ x = sym e ∙ z in
          let was : role x ≡ free = ap role (sym there) ∙ w.booked.lists.frees j (omega (arith, k.supplied.room)) in
          let new = d.taken.tables j (omega (arith, k.supplied.need_is)) in
          let is : d.role' x ≡ table new.0 new.1 new.2 = ap d.role' (sym there) ∙ new.3 in
          let still : d.role' x ≡ free = same was in
          let n : ◌≡◌ {A = ℕ} 0 1 = cc in omega arith
      apart y (inr (inr o)) z = other (subst (InBook sp) z o)

-- Unmap ------------------------------------------------------------------------------------------------------------------------------

module _ {h : ℕ → Bool} {sp : Space} {m : ℕ → ℕ} {role : ℕ → Role} (w : Whole h sp m role) (va : ℕ) (r : Removal) (g : UnmapWent h m sp va r) where
  k : Located (setting_of h sp) m role va r.page
  k = located w g.found

  abbrev L : ℕ
  L = r.page.way.level

  -- the book, or a table of the way: at level d, up to l, above l
  abbrev On : ℕ → ℕ → Type 0
  On d x = InBook sp x ⊎ Comes (setting_of h sp) m va (suc d) x

  abbrev UpTo : ℕ → ℕ → Type 0
  UpTo l x = InBook sp x ⊎ ((d : ℕ) × (d ≤ l) × Comes (setting_of h sp) m va (suc d) x)

  abbrev From : ℕ → ℕ → Type 0
  From l x = InBook sp x ⊎ ((d : ℕ) × (l < d) × Comes (setting_of h sp) m va (suc d) x)

  low_part : (d l : ℕ) (xs : List Write) → d ≤ l → Every (On d) xs → Every (UpTo l) xs
  low_part d l xs u = every_map (λ x o. go x o) xs
    where
      go : (x : ℕ) → On d x → UpTo l x
      go x (inl o) = inl o
      go x (inr c) = inr (d, u, c)

  high_part : (d l : ℕ) (xs : List Write) → l < d → Every (On d) xs → Every (From l) xs
  high_part d l xs u = every_map (λ x o. go x o) xs
    where
      go : (x : ℕ) → On d x → From l x
      go x (inl o) = inl o
      go x (inr c) = inr (d, u, c)

  cut_on : (j d parent index child : ℕ) (b : Book) → index < 512 → (j < r.empties → Comes (setting_of h sp) m va (suc d) parent × (child < 2 ^ 64))
      → Every (On d) (cut_writes sp j r.empties parent index child b)
  unfolding cut_writes
  cut_on j d parent index child b u v = go (leb r.empties j) refl
    where
      go : (t : Bool) → leb r.empties j ≡ t → Every (On d) (cond t [] (write parent index 0 ∷ aside_writes sp b child))
      go true e = none
      go false e =
          let o = v (leb-false r.empties j e) in
          every_append (write parent index 0 ∷ []) _ (every_one parent index 0 (inr o.0) u (omega arith)) (every_map (λ x z. inl z) _ (aside_proper sp b child o.1))

  abbrev A : List Write
  A = write r.page.way.a (index_of L va) 0 ∷ []

  abbrev C0 : List Write
  C0 = cut_writes sp 0 r.empties r.page.way.b (index_of (L + 1) va) r.page.way.a r.book

  abbrev C1 : List Write
  C1 = cut_writes sp 1 r.empties r.page.way.c (index_of (L + 2) va) r.page.way.b (book1 sp r)

  abbrev C2 : List Write
  C2 = cut_writes sp 2 r.empties r.page.way.d (index_of (L + 3) va) r.page.way.c (book2 sp r)

  on_a : Every (On L) A
  on_a = every_one r.page.way.a (index_of L va) 0 (inr k.comes) (index_lt L va) (omega arith)

  on0 : Every (On (suc L)) C0
  on0 = cut_on 0 (suc L) r.page.way.b _ r.page.way.a r.book (index_lt _ va)
      (λ u. ((k.traced.second (omega (arith, g.below 0 u))).comes, omega (arith, (entry_in_pool g.found).small 0 (g.below 0 u))))

  on1 : Every (On (suc (suc L))) C1
  on1 = cut_on 1 (suc (suc L)) r.page.way.c _ r.page.way.b (book1 sp r) (index_lt _ va)
      (λ u. ((k.traced.third (omega (arith, g.below 1 u))).comes, omega (arith, (entry_in_pool g.found).small 1 (g.below 1 u))))

  on2 : Every (On (suc (suc (suc L)))) C2
  on2 = cut_on 2 (suc (suc (suc L))) r.page.way.d _ r.page.way.c (book2 sp r) (index_lt _ va)
      (λ u. ((k.traced.fourth (omega (arith, g.below 2 u))).comes, omega (arith, (entry_in_pool g.found).small 2 (g.below 2 u))))

  module _ (l t : ℕ) (c : Comes (setting_of h sp) m va (suc l) t) where
    parts : (inner outer : List Write) → unmap.writes_of sp va r ≡ inner ++ outer → Every (UpTo l) inner → Every (From l) outer → InnerFirst sp m (unmap.writes_of sp va r) l t
    parts inner outer e low high = record {
      inner = inner;
      outer = outer;
      split = e;
      outside = λ q unused other i u. after_other m inner q i u (every_map (λ x o. lower q x unused other o) _ low);
      inside = λ q used i u. ap (λ n. n (at q i)) (ap (after m) e ∙ after_append m inner outer) ∙ after_other (after m inner) outer q i u (every_map (λ x o. higher q x used o) _ high);
    }
      where
        lower : (q x : ℕ) → ¬ UsedBy m l t q → ¬ InBook sp q → UpTo l x → x ≢ q
        lower q x unused other (inl o) z = other (subst (InBook sp) z o)
        lower q x unused other (inr (d, u, o)) z = unused (subst (UsedBy m l t) z (way_lifts o c u itself))

        higher : (q x : ℕ) → UsedBy m l t q → From l x → x ≢ q
        higher q x used (inl o) z =
            let live = used_live w.sound.built (comes_left w.sound.built c) used in
            omega (arith, live.1, ap left (w.booked.in_book x o.0 o.1), ap (λ y. left (role y)) z)
        higher q x used (inr (d, u, o)) z =
            omega (arith, used_low w.sound.built (comes_left w.sound.built c) used, comes_left w.sound.built o, ap (λ y. left (role y)) z)

    -- UNMAP writes within the subtree of a table on its way first, and above it then
    pub unmap_framed : InnerFirst sp m (unmap.writes_of sp va r) l t
    unfolding unmap.writes_of
    unmap_framed = go (ℕ_discrete l L) (ℕ_discrete l (suc L)) (ℕ_discrete l (suc (suc L)))
      where
        above : L ≤ l
        above = way_ends c k.comes (page_plain _ _ k.entry)

        go : Dec (l ≡ L) → Dec (l ≡ suc L) → Dec (l ≡ suc (suc L)) → InnerFirst sp m (A ++ (C0 ++ (C1 ++ C2))) l t
        go (yes e) x y = parts A (C0 ++ (C1 ++ C2)) refl (low_part L l A (omega arith) on_a)
            (every_append C0 _ (high_part (suc L) l C0 (omega arith) on0) (every_append C1 _ (high_part (suc (suc L)) l C1 (omega arith) on1) (high_part (suc (suc (suc L))) l C2 (omega arith) on2)))
        go (no n) (yes e) y = parts (A ++ C0) (C1 ++ C2) (sym (append_assoc A C0 (C1 ++ C2)))
            (every_append A _ (low_part L l A (omega arith) on_a) (low_part (suc L) l C0 (omega arith) on0))
            (every_append C1 _ (high_part (suc (suc L)) l C1 (omega arith) on1) (high_part (suc (suc (suc L))) l C2 (omega arith) on2))
        go (no n) (no n') (yes e) = parts (A ++ (C0 ++ C1)) C2 (ap (λ y. A ++ y) (sym (append_assoc C0 C1 C2)) ∙ sym (append_assoc A (C0 ++ C1) C2))
            (every_append A _ (low_part L l A (omega arith) on_a) (every_append C0 _ (low_part (suc L) l C0 (omega arith) on0) (low_part (suc (suc L)) l C1 (omega arith) on1)))
            (high_part (suc (suc (suc L))) l C2 (omega arith) on2)
        go (no n) (no n') (no n'') = parts (A ++ (C0 ++ (C1 ++ C2))) [] (sym (append-nil (A ++ (C0 ++ (C1 ++ C2)))))
            (every_append A _ (low_part L l A above on_a) (every_append C0 _ (low_part (suc L) l C0 (omega (arith, above)) on0)
            (every_append C1 _ (low_part (suc (suc L)) l C1 (omega (arith, above)) on1) (low_part (suc (suc (suc L))) l C2 (omega (arith, above)) on2))))
            none

-- Protect ----------------------------------------------------------------------------------------------------------------------------

module _ {h : ℕ → Bool} {sp : Space} {m : ℕ → ℕ} {role : ℕ → Role} (w : Whole h sp m role) (va : ℕ) (rights : Rights) where
  -- PROTECT writes one word, in the last table of its way
  pub protect_framed : (c : Change) → protect.decide_of h m sp va rights ≡ Ok c → KeepsOutside (setting_of h sp) m (protect.writes_of c) va
  unfolding protect.changing_of protect.change_of protect.writes_of
  protect_framed c e = go (find_of h m sp va) refl (protect_strict h m sp va rights c e).1
    where
      one : (s : PageEntry) → Located (setting_of h sp) m role va s → (v : ℕ) → v < 2 ^ 64
          → KeepsOutside (setting_of h sp) m (write s.way.a (index_of s.way.level va) v ∷ []) va
      one s k v small l t q d unused i u =
          after_other m _ q i u (every_one s.way.a (index_of s.way.level va) v
          (λ z. unused (subst (UsedBy m l t) z (way_lifts k.comes d (way_ends d k.comes (page_plain _ _ k.entry)) itself))) (index_lt s.way.level va) small)

      go : (x : Result PageEntry Reason) → find_of h m sp va ≡ x → protect.changing_of m sp va rights x ≡ Ok c → KeepsOutside (setting_of h sp) m (protect.writes_of c) va
      go (Err y) f j = let z : ◌≡◌ {A = ℕ} 0 1 = cc in absurd (omega arith)
      go (Ok s) f j =
          let same : protect.change_of va s rights (ticket_in (book_of m sp)) ≡ c = cc in
          subst (λ (x : Change). KeepsOutside (setting_of h sp) m (protect.writes_of x) va) same
          (one s (located w (found_at h m sp va s f)) (with_rights s.way.word rights) (with_rights_lt s.way.word rights))
