-- Every edit keeps the discipline of `world`, with the words of the pages that are set aside as the frozen ones: whatever walks and caches
-- hold, they may go on through a table that was unlinked, since nothing writes there before the report.
use Prim.Native.Nat.{ℕ, suc, ◌/◌}
use mathlib.Core.List.{[], ◌∷◌}
use mathlib.Core.Logic.{◌≢◌}
use mathlib.Core.Path.{◌≡◌, refl, sym, ap, ◌∙◌, subst}
use native.Mathlib.Decide.{ℕ_discrete}
use native.Mathlib.Omega.{arith}
use Rattle.word.specs.Memory.{set, at}
use Rattle.word.proofs.Writes.{page_of}
use Rattle.word.proofs.Set.{set_at, set_other}
use Rattle.entry.specs.Entry.{says, both, everything}
use Rattle.entry.specs.declared.Rights.{Rights}
use Rattle.entry.specs.declared.Entry.TheVariants.{Nothing, Table}
use Rattle.walk.specs.Walk.{index_of, start}
use Rattle.walk.specs.declared.Place.TheVariants.{Going}
use Rattle.walk.proofs.Digits.{index_lt}
use Rattle.world.specs.Events.{write}
use Rattle.world.specs.Walker.{cell, Reads, On}
use Rattle.world.proofs.Rules.{obeys_nil, obeys_weaken, obeys_cuts, obeys_ends, obeys_unseen}
use Rattle.tables.specs.Walks.{Position}
use Rattle.tables.proofs.Ties.{reads_walk, on_way, Through, through}
use Rattle.tables.specs.Roles.{Setting, Role, free, aside, table, unlinked, left, entry_at, Built, Bare, Plain}
use Rattle.tables.specs.Way.{Comes}
use Rattle.tables.proofs.Way.{comes_left}
use Rattle.tables.specs.OneWrite.{LiveEntry}
use Rattle.tables.proofs.OneWrite.{at_page, nothing_plain}
use Rattle.tables.proofs.Reach.{walk_reads_tables, reads_bare, way_comes}
use Rattle.tables.specs.Discipline.{Aside, walker_of, ObeysOf}
use Rattle.tables.proofs.Walks.{laws_of}

-- no walk reads word x
abbrev pub Unread : Setting → ℕ → (ℕ → ℕ) → Type 0
Unread σ x m = (va : ℕ) → ¬ Reads (walker_of σ) m va ((walker_of σ).start va) x

module _ {σ : Setting} {m : ℕ → ℕ} {role : ℕ → Role} (b : Built σ m role) where
  -- What a walk reads after an entry of a table, it reads through a table that the entry names.
  record Goes (q l i va x : ℕ) : Type 0 where
    child : ℕ
    grants : Rights
    names : entry_at m l q i ≡ Table child grants
    rights : Rights
    reads_on : Reads (walker_of σ) m va (record { levels = l; place = Going child rights }) x

  goes_on : {q l i : ℕ} → LiveEntry role q l i → (va : ℕ) (p : Position) → On (walker_of σ) m va p (record { levels = 4; place = start σ.cr3 va })
      → (walker_of σ).reads va p ≡ cell (at q i) → (x : ℕ) → Reads (walker_of σ) m va ((walker_of σ).step m va p) x → Goes q l i va x
  goes_on {q} {l} {i} s va p o e x r = record {
    child = t.child;
    grants = t.grants;
    names = subst (λ k. says k (m (at q i)) ≡ Table t.child t.grants) level t.says_table;
    rights = both t.rights t.grants;
    reads_on = subst (λ k. Reads (walker_of σ) m va (record { levels = k; place = Going t.child (both t.rights t.grants) }) x) level t.reads_on;
  }
    where
      t : Through σ.window (λ va. σ.cr3) (λ va. va) m va p (at q i) x
      t = through σ.window (λ va. σ.cr3) (λ va. va) m va p (at q i) x e r

      place : p ≡ record { levels = suc t.level; place = Going t.table t.rights }
      place = t.at_table

      comes : Comes σ m va (suc t.level) t.table
      comes = way_comes (λ x. Unit {0}) t.table t.rights
          (on_way σ.window (λ va. σ.cr3) (λ va. va) m va _ (subst (λ y. On (walker_of σ) m va y (record { levels = 4; place = start σ.cr3 va })) place o)) refl

      level : t.level ≡ l
      level =
          let same : t.table ≡ q = at_page t.table (index_of t.level va) q i (index_lt t.level va) s.fits t.is_entry in
          omega (arith, comes_left b comes, s.live, ap (λ y. left (role y)) same)

  -- an entry of a table is not aside
  live_thawed : {q l i : ℕ} → LiveEntry role q l i → ¬ Aside role (at q i)
  live_thawed {q} {l} {i} s e = omega (arith, s.live, ap left (ap role (sym (page_of q i s.fits)) ∙ e))

  -- A WRITE OVER NOTHING OR A PAGE cuts nothing: the edits 2, 3 and 4, and the link of 1.
  pub plain_obeys : {q l i : ℕ} → LiveEntry role q l i → (v : ℕ) → Plain (entry_at m l q i) → ObeysOf σ role m (write (at q i) v ∷ []) role
  plain_obeys {q} {l} {i} s v was =
      obeys_ends (walker_of σ) (laws_of σ) (Aside role) (Aside role) m (at q i) v []
      (λ va p o e x r. let g = goes_on s va p o e x r in was g.child g.grants g.names) (live_thawed s) (obeys_nil (walker_of σ) (laws_of σ) (Aside role) (set m (at q i) v))

  -- 1. a free page becomes a table: no page is set aside by it, and none that was is touched
  pub link_obeys : {q l i : ℕ} → LiveEntry role q l i → (v p : ℕ) → entry_at m l q i ≡ Nothing → role p ≡ free
      → ObeysOf σ role m (write (at q i) v ∷ []) (set role p (table l q i))
  link_obeys {q} {l} {i} s v p was new =
      obeys_weaken (walker_of σ) (laws_of σ) (write (at q i) v ∷ []) (Aside role) (Aside role) (Aside (set role p (table l q i))) (Aside role) m (λ x h. h)
      (λ x h. set_other role p (table l q i) (x / 512) (λ e. let z : ◌≡◌ {A = ℕ} 0 1 = cc in omega arith) ∙ h) (plain_obeys s v (nothing_plain was))

  -- 5. A TABLE THAT IS UNLINKED is set aside, and so what is cut off is frozen.
  pub unlink_obeys : {q l i : ℕ} → LiveEntry role q l i → (v p : ℕ) → entry_at m l q i ≡ Table p everything → Bare m l p
      → ObeysOf σ role m (write (at q i) v ∷ []) (set role p unlinked)
  unlink_obeys {q} {l} {i} s v p was bare =
      obeys_cuts (walker_of σ) (laws_of σ) (Aside role) (Aside (set role p unlinked)) (Aside (set role p unlinked)) m (at q i) v [] more cut out
      (obeys_nil (walker_of σ) (laws_of σ) (Aside (set role p unlinked)) (set m (at q i) v))
    where
      old : role p ≡ table l q i
      old = (b.down q l i p everything s.live s.fits was).0

      more : (x : ℕ) → Aside role x → Aside (set role p unlinked) x
      more x h = elim (ℕ_discrete p (x / 512)) [ yes d ↦ set_at role p unlinked (x / 512) d | no d ↦ set_other role p unlinked (x / 512) d ∙ h ]

      cut : (va : ℕ) (y : Position) → On (walker_of σ) m va y (record { levels = 4; place = start σ.cr3 va }) → (walker_of σ).reads va y ≡ cell (at q i)
          → (x : ℕ) → Reads (walker_of σ) m va ((walker_of σ).step m va y) x → Aside (set role p unlinked) x
      cut va y o e x r =
          let g = goes_on s va y o e x r in
          let same : Table g.child g.grants ≡ Table p everything = sym g.names ∙ was in
          let child : g.child ≡ p = cc in
          let reads_on = subst (λ t. Reads (walker_of σ) m va (record { levels = l; place = Going t g.rights }) x) child g.reads_on in
          set_at role p unlinked (x / 512)
          (sym (reads_walk σ.window (λ va. σ.cr3) (λ va. va) (λ x. x / 512 ≡ p) m va l (Going p g.rights) x (reads_bare σ.window m va l p g.rights bare) reads_on))

      out : ¬ Aside (set role p unlinked) (at q i)
      out e =
          let apart : p ≢ q = λ d. omega (arith, s.live, ap left old, ap (λ x. left (role x)) d) in
          let here : set role p unlinked q ≡ aside = ap (set role p unlinked) (sym (page_of q i s.fits)) ∙ e in
          omega (arith, s.live, ap left (sym (set_other role p unlinked q apart) ∙ here))

  -- NO WALK READS a word of a page that is free, set aside, or the book's.
  pub unread : (x : ℕ) → left (role (x / 512)) ≡ 0 → Unread σ x m
  unread x n va r =
      reads_walk σ.window (λ va. σ.cr3) (λ va. va) (λ y. y ≢ x) m va 4 (start σ.cr3 va) x
      (walk_reads_tables b (λ y. y ≢ x) (λ q l i h u e. omega (arith, n, h, ap (λ y. left (role y)) (sym (page_of q i u) ∙ ap (λ y. y / 512) e))) va) r refl

  -- 6. A WRITE WHERE NO WALK COMES, and not aside.
  pub unseen_obeys : (a v : ℕ) → left (role (a / 512)) ≡ 0 → role (a / 512) ≢ aside → ObeysOf σ role m (write a v ∷ []) role
  unseen_obeys a v n k = obeys_unseen (walker_of σ) (laws_of σ) (Aside role) (Aside role) m a v [] (unread a n) k (obeys_nil (walker_of σ) (laws_of σ) (Aside role) (set m a v))
