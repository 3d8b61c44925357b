-- Windows after the lists of a plan, as its functions leave them.
use Rattle.std.proofs.Common.{◌≡◌, ℕ, ◌+◌, ◌-◌, ◌<◌, ◌≤◌, Bool, true, false, cond, leb, List, [], ◌∷◌, refl, ap, ◌∙◌, subst, arith, leb-false, leb-true, Ok}
use Rattle.word.specs.Memory.{holds}
use Rattle.word.specs.Writes.{Write, Wrote, write, up_to}
use Rattle.word.proofs.Writes.{holds_carried}
use Rattle.word.proofs.Budget.{wrote_then}
use Rattle.walk.specs.Walk.{index_of}
use Rattle.plan.specs.declared.maps.Mapping.{Mapping}
use Rattle.plan.specs.declared.building.TableReached.{TableReached}
use Rattle.pool.specs.Book.{in_pool}
use Rattle.pool.specs.Stands.{stands_of}
use Rattle.pool.specs.declared.Space.{Space}
use Rattle.pool.specs.declared.Book.{Book}
use Rattle.plan.specs.declared.unmaps.Removal.{Removal}
use Rattle.plan.specs.Unmap.{cut_book, cut_writes, book2, writes_of}
use Rattle.plan.specs.Map.{next_of, grow_of, reached0, reached1, reached2, reached3, build_of, Buildable}

-- Map -------------------------------------------------------------------------------------------------------------------------

-- a way that goes on stays below the root
pub next_low : (target p : ℕ) (s : TableReached) → s.level < 4 → (next_of target p s).level < 4
unfolding next_of
next_low target p s u = go (leb s.level target)
  where
    go : (b : Bool) → (cond b s (record { level = s.level - 1; table = p })).level < 4
    go true = u
    go false = omega arith

-- a space that makes sense does so after any writes
pub stands_wrote : (sp : Space) (xs : List Write) (l r : ℕ) (s t : List ℕ) → Wrote sp.origin xs l r s t → stands_of (holds s sp.origin) sp ≡ Ok tt
    → stands_of (holds t sp.origin) sp ≡ Ok tt
stands_wrote sp xs l r s t f e = rw (f.bytes, holds_carried s sp.origin (up_to l xs)) e

-- a way that has gone on has come to a page of the pool, and has fewer levels to go
module _ (sp : Space) (target p : ℕ) (s : TableReached) where
  next_in : in_pool sp s.table ≡ true → (target < s.level → in_pool sp p ≡ true) → in_pool sp (next_of target p s).table ≡ true
  unfolding next_of
  next_in t k = go (leb s.level target) refl
    where
      go : (b : Bool) → leb s.level target ≡ b → in_pool sp (cond b s (record { level = s.level - 1; table = p })).table ≡ true
      go true e = t
      go false e = k (leb-false s.level target e)

  next_less : (n : ℕ) → target ≤ n → n < (next_of target p s).level → n + 1 < s.level
  unfolding next_of
  next_less n v = go (leb s.level target) refl
    where
      go : (b : Bool) → leb s.level target ≡ b → n < (cond b s (record { level = s.level - 1; table = p })).level → n + 1 < s.level
      go true e u = absurd (omega (arith, u, v, leb-true s.level target e))
      go false e u = omega (arith, u)

-- where what is built is the pool's, so is each table that the way comes to, and each page that it grows by
module _ (sp : Space) (m : Mapping) (k : Buildable sp m) where
  first_in : in_pool sp (reached1 m).table ≡ true
  first_in = next_in sp m.target m.fresh.a (reached0 m) k.table k.a

  b_in : m.target < (reached1 m).level → in_pool sp m.fresh.b ≡ true
  b_in u = k.b (next_less sp m.target m.fresh.a (reached0 m) m.target (omega arith) u)

  second_in : in_pool sp (reached2 m).table ≡ true
  second_in = next_in sp m.target m.fresh.b (reached1 m) first_in b_in

  c_in : m.target < (reached2 m).level → in_pool sp m.fresh.c ≡ true
  c_in u =
      let v = next_less sp m.target m.fresh.b (reached1 m) m.target (omega arith) u in
      k.c (omega (arith, next_less sp m.target m.fresh.a (reached0 m) (m.target + 1) (omega arith) v))

  pub second_grows : (s : TableReached) → s ≡ reached1 m → m.target < s.level → (in_pool sp m.fresh.b ≡ true) × (in_pool sp s.table ≡ true)
  second_grows s e u = (b_in (rw e at u), rw e first_in)

  pub third_grows : (s : TableReached) → s ≡ reached2 m → m.target < s.level → (in_pool sp m.fresh.c ≡ true) × (in_pool sp s.table ≡ true)
  third_grows s e u = (c_in (rw e at u), rw e second_in)

  pub last_in : (s : TableReached) → s ≡ reached3 m → in_pool sp s.table ≡ true
  last_in s e = rw e (next_in sp m.target m.fresh.c (reached2 m) second_in c_in)

  pub last_low : (s : TableReached) → s ≡ reached3 m → s.level < 4
  last_low s e =
      rw e (next_low m.target m.fresh.c (reached2 m) (next_low m.target m.fresh.b (reached1 m) (next_low m.target m.fresh.a (reached0 m) k.level)))

-- the tables and the page, as the functions of map write them
pub build_wrote : (m : Mapping) (origin n0 n1 n2 n3 n4 : ℕ) (x0 x1 x2 x3 x4 : List ℕ) (s1 s2 s3 : TableReached) (i : ℕ) → m.level < 4
    → s1 ≡ next_of m.target m.fresh.a (reached0 m) → s2 ≡ next_of m.target m.fresh.b s1 → s3 ≡ next_of m.target m.fresh.c s2
    → Wrote origin (grow_of m.base m.target m.fresh.a (reached0 m)) n0 n1 x0 x1
    → Wrote origin (grow_of m.base m.target m.fresh.b s1) n1 n2 x1 x2
    → Wrote origin (grow_of m.base m.target m.fresh.c s2) n2 n3 x2 x3
    → (s3.level < 4 → i ≡ index_of s3.level m.base) → Wrote origin (write s3.table i m.word ∷ []) n3 n4 x3 x4
    → Wrote origin (build_of m) n0 n4 x0 x4
unfolding build_of
build_wrote m origin n0 n1 n2 n3 n4 x0 x1 x2 x3 x4 s1 s2 s3 i u e1 e2 e3 f1 f2 f3 g f4 =
    let l1 : s1.level < 4 = rw e1 (next_low m.target m.fresh.a (reached0 m) u) in
    let l2 : s2.level < 4 = rw e2 (next_low m.target m.fresh.b s1 l1) in
    let l3 : s3.level < 4 = rw e3 (next_low m.target m.fresh.c s2 l2) in
    let c2 : s2 ≡ reached2 m = e2 ∙ ap (next_of m.target m.fresh.b) e1 in
    let c3 : s3 ≡ reached3 m = e3 ∙ ap (next_of m.target m.fresh.c) c2 in
    let h2 = subst (λ (s : TableReached). Wrote origin (grow_of m.base m.target m.fresh.b s) n1 n2 x1 x2) e1 f2 in
    let h3 = subst (λ (s : TableReached). Wrote origin (grow_of m.base m.target m.fresh.c s) n2 n3 x2 x3) c2 f3 in
    let h4 = subst (λ (k : ℕ). Wrote origin (write s3.table k m.word ∷ []) n3 n4 x3 x4) (g l3) f4 in
    let k4 = subst (λ (s : TableReached). Wrote origin (write s.table (index_of s.level m.base) m.word ∷ []) n3 n4 x3 x4) c3 h4 in
    wrote_then origin _ _ n0 n1 n4 x0 x1 x4 f1 (wrote_then origin _ _ n1 n2 n4 x1 x2 x4 h2 (wrote_then origin _ _ n2 n3 n4 x2 x3 x4 h3 k4))

-- Unmap -----------------------------------------------------------------------------------------------------------------------

-- the page's entry and the tables that became empty, as the functions of unmap write them
pub cuts_wrote : (sp : Space) (va : ℕ) (r : Removal) (n0 n1 n2 n3 n4 : ℕ) (x0 x1 x2 x3 x4 : List ℕ) (b1 b2 : Book) (i : ℕ) → i ≡ index_of r.page.way.level va
    → Wrote sp.origin (write r.page.way.a i 0 ∷ []) n0 n1 x0 x1
    → b1 ≡ cut_book sp 0 r.empties r.book → b2 ≡ cut_book sp 1 r.empties b1
    → Wrote sp.origin (cut_writes sp 0 r.empties r.page.way.b (index_of (r.page.way.level + 1) va) r.page.way.a r.book) n1 n2 x1 x2
    → Wrote sp.origin (cut_writes sp 1 r.empties r.page.way.c (index_of (r.page.way.level + 2) va) r.page.way.b b1) n2 n3 x2 x3
    → Wrote sp.origin (cut_writes sp 2 r.empties r.page.way.d (index_of (r.page.way.level + 3) va) r.page.way.c b2) n3 n4 x3 x4
    → Wrote sp.origin (writes_of sp va r) n0 n4 x0 x4
unfolding writes_of
cuts_wrote sp va r n0 n1 n2 n3 n4 x0 x1 x2 x3 x4 b1 b2 i g f1 e1 e2 f2 f3 f4 =
    let c2 : b2 ≡ book2 sp r = e2 ∙ ap (cut_book sp 1 r.empties) e1 in
    let h1 = subst (λ (k : ℕ). Wrote sp.origin (write r.page.way.a k 0 ∷ []) n0 n1 x0 x1) g f1 in
    let h3 =
    subst (λ (b : Book). Wrote sp.origin (cut_writes sp 1 r.empties r.page.way.c (index_of (r.page.way.level + 2) va) r.page.way.b b) n2 n3 x2 x3) e1 f3 in
    let h4 =
    subst (λ (b : Book). Wrote sp.origin (cut_writes sp 2 r.empties r.page.way.d (index_of (r.page.way.level + 3) va) r.page.way.c b) n3 n4 x3 x4) c2 f4 in
    wrote_then _ _ _ n0 n1 n4 x0 x1 x4 h1 (wrote_then _ _ _ n1 n2 n4 x1 x2 x4 f2 (wrote_then _ _ _ n2 n3 n4 x2 x3 x4 h3 h4))

-- the page's entry alone, where no table becomes empty
pub cuts_none : (sp : Space) (va : ℕ) (r : Removal) (n0 n1 : ℕ) (x0 x1 : List ℕ) (i : ℕ) → r.empties ≡ 0 → i ≡ index_of r.page.way.level va
    → Wrote sp.origin (write r.page.way.a i 0 ∷ []) n0 n1 x0 x1 → Wrote sp.origin (writes_of sp va r) n0 n1 x0 x1
unfolding writes_of cut_writes
cuts_none sp va r n0 n1 x0 x1 i e g f = simp e (subst (λ (k : ℕ). Wrote sp.origin (write r.page.way.a k 0 ∷ []) n0 n1 x0 x1) g f)
