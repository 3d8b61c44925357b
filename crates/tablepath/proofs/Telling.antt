-- WHEN A SHOOTDOWN IS DONE: the last period is built and keeps the discipline, a half-done walk that is left was on its way since the shootdown began,
-- and so was a page that an address has had, or the address is told.
use Prim.Native.Nat.{ℕ, ◌*◌}
use mathlib.Core.Bool.{Bool}
use mathlib.Core.List.{List, ◌∷◌, ◌++◌}
use mathlib.Core.Logic.{◌⊎◌, inl, inr}
use mathlib.Core.Path.{◌≡◌, refl, sym, ap, ◌∙◌, subst}
use native.Mathlib.Omega.{arith}
use Rattle.entry.specs.Entry.{everything}
use Rattle.entry.specs.declared.Rights.{Rights}
use Rattle.walk.specs.declared.Found.{Found}
use Rattle.walk.specs.declared.Found.TheVariants.{Page}
use Rattle.walk.specs.declared.Place.{Place}
use Rattle.walk.specs.declared.Place.TheVariants.{Going, Ended}
use Rattle.world.specs.Events.{Among, All}
use Rattle.world.proofs.Events.{among_map, among_with, among_all}
use Rattle.world.specs.Walker.{meaning, On}
use Rattle.tables.specs.Walks.{Position, SamePrefix}
use Rattle.tables.proofs.Walks.{one_space_meaning}
use Rattle.world.specs.Reports.{Period, last, next, Caches, SafeIn, WasOn, Untold, Meant, MeantLike}
use Rattle.tables.specs.Roles.{Role, Apart}
use Rattle.tables.specs.Way.{Comes}
use Rattle.tables.proofs.Meaning.{never_in_pool}
use Rattle.tables.specs.Discipline.{walker_of}
use Rattle.pool.specs.Book.{book_of, ticket_of}
use Rattle.pool.specs.Booked.{setting_of}
use Rattle.pool.specs.declared.Space.{Space}
use Rattle.effect.specs.Whole.{Whole}
use Rattle.tablepath.specs.Calls.{means, Call, PoolWord, Act, Reached}
use Rattle.tablepath.specs.Nights.{Night, done, history, last_began, last_since, front, joined, Some, lately, due, uncovered, IsPage, IsHalf, Unmaps, Hits, Given}
use Rattle.tablepath.proofs.Serving.{IsBuilt}
use Rattle.tablepath.proofs.Running.{reached_built, reached_thawed}
use Rattle.tablepath.proofs.Did.{saw_means}
use Rattle.tablepath.proofs.Ways.{Beneath, saw_comes}
use Rattle.tablepath.proofs.Lasting.{Tracks, page_lasts, way_lasts, some_beneath}
use Rattle.tablepath.proofs.Periods.{Later, later_lasts}
use Rattle.tablepath.proofs.OnTables.{on_everything, on_comes, comes_on}
use Rattle.tablepath.proofs.Facts.{Facts, coming, split_calls, facts_done}

module _ (h : ℕ → Bool) (sp : Space) where
  -- the last period of a night -----------------------------------------------------------------------------------------------------------

  pub last_built : (N : Night) → Facts h sp N → All (last_began N) (last_since N) (IsBuilt h sp)
  last_built N f = reached_built h sp (ticket_of (book_of (last_began N) sp)) (last_began N) f.role f.whole (omega arith) (uncovered N) (last_since N) f.reached.0

  pub last_thawed : (N : Night) → Facts h sp N → SafeIn (walker_of (setting_of h sp)) (last (history N))
  last_thawed N f = reached_thawed h sp (ticket_of (book_of (last_began N) sp)) (last_began N) f.role f.whole (omega arith) (uncovered N) (last_since N) f.reached.0

  -- a page of which no byte is one of the pool's
  abbrev pub OutsidePool : Found → Type 0
  OutsidePool o = (base size frame : ℕ) (r : Rights) → o ≡ Page base size frame r → Apart (setting_of h sp) frame size

  pub means_outside : (m : ℕ → ℕ) → IsBuilt h sp m → (va : ℕ) (o : Found) → meaning (walker_of (setting_of h sp)) m va ≡ o → OutsidePool o
  means_outside m b va o e base size frame r d = never_in_pool b.1 va base size frame r (sym (one_space_meaning h (4096 * sp.root) m va) ∙ e ∙ d)

  pub meant_outside : (N : Night) → Facts h sp N → (va : ℕ) (o : Found) → Meant (walker_of (setting_of h sp)) (last (history N)) va o → OutsidePool o
  meant_outside N f va o a = let t = among_all (last_since N) (last_began N) (IsBuilt h sp) _ (last_built N f) a in means_outside t.0 t.1 va o t.2

  -- the page's words are none of the pool's
  pub given_outside : (C : Caches Position Found) (N : Night) (a : ℕ) (g : Given h sp C N a) → OutsidePool (Page g.base g.size g.frame g.rights) → ¬ PoolWord sp a
  given_outside C N a g o u = go (o g.base g.size g.frame g.rights refl)
    where
      go : Apart (setting_of h sp) g.frame g.size → ⊥
      go (inl v) = omega (arith, g.upto)
      go (inr v) = omega (arith, g.from)

  -- A HALF-DONE WALK that was on its way in a period was so in a later one, or a page was unmapped before that whose addresses share its prefix.
  pub half_later : (q r : Period ℕ) (cs ds : List Act) (k : Later h sp q r cs) (role : ℕ → Role) (w : Whole h sp q.began role)
      (reached : Reached h sp (ticket_of (book_of q.began sp)) q.began (cs ++ ds) q.since) → All q.began q.since (IsBuilt h sp) → All r.began r.since (IsBuilt h sp)
      → (va : ℕ) (p : Position) → IsHalf p.place → WasOn (walker_of (setting_of h sp)) q va p
      → WasOn (walker_of (setting_of h sp)) r va p ⊎ ((vb : ℕ) × Hits h sp (Unmaps h sp) cs vb × SamePrefix p.levels va vb)
  unfolding IsHalf
  half_later q r cs ds k role w reached built built' va p half a = go p.place refl half
    where
      go : (y : Place) → p.place ≡ y → IsHalf y → WasOn (walker_of (setting_of h sp)) r va p ⊎ ((vb : ℕ) × Hits h sp (Unmaps h sp) cs vb × SamePrefix p.levels va vb)
      go (Ended x) i j = absurd j
      go (Going t g) i j = elim way [
        | inl b ↦ inl (among_map r.since r.began _ _
            (λ x c. subst (λ (y : Position). On (walker_of (setting_of h sp)) x va y ((walker_of (setting_of h sp)).start va)) (sym is) (comes_on c.0.1 c.1))
            (among_with r.since r.began (IsBuilt h sp) _ built' b))
        | inr b ↦ inr (some_beneath h sp cs p.levels va b)
      ]
        where
          at_table : p ≡ record { levels = p.levels; place = Going t g }
          at_table = ap (λ y. record { levels = p.levels; place = y }) i

          on : Among q.began q.since (λ x. On (walker_of (setting_of h sp)) x va (record { levels = p.levels; place = Going t g }) ((walker_of (setting_of h sp)).start va))
          on = subst (λ (y : Position). Among q.began q.since (λ x. On (walker_of (setting_of h sp)) x va y ((walker_of (setting_of h sp)).start va))) at_table a

          all_rights : g ≡ everything
          all_rights = let t' = among_all q.since q.began (IsBuilt h sp) _ built on in on_everything t'.1.1 va p.levels t g t'.2

          is : p ≡ record { levels = p.levels; place = Going t everything }
          is = at_table ∙ ap (λ y. record { levels = p.levels; place = Going t y }) all_rights

          way : Among r.began r.since (λ x. Comes (setting_of h sp) x va p.levels t) ⊎ Some (λ a. Beneath h sp a.call a.saw p.levels va) cs
          way = later_lasts h sp q r cs ds k role w reached (λ x. Comes (setting_of h sp) x va p.levels t) _ (λ x y s b c. saw_comes h sp x y s b c) (way_lasts h sp _ va p.levels t)
              (among_map q.since q.began _ _ (λ x o. on_comes (setting_of h sp) x va p.levels t g o) on)

  -- When a shootdown is done ---------------------------------------------------------------------------------------------------------------

  module _ (N : Night) (T : ℕ → Type 0) (D : List Act) (Ds : List (List Act)) (e : due N ≡ D ∷ Ds) (f : Facts h sp N) where
    told_of : (H : Call → (ℕ → ℕ) → ℕ → Type 0) → ((va : ℕ) → Hits h sp H (front (due N)) va → T va) → (va : ℕ) → Hits h sp H D va → T va
    told_of H told va k = told va (subst (λ l. Hits h sp H (front l) va) (sym e) k)

    -- a half-done walk that it leaves was on its way since it began
    pub half_told : ((va : ℕ) → Hits h sp (Unmaps h sp) (front (due N)) va → T va) → (va : ℕ) (p : Position) → IsHalf p.place → Untold (walker_of (setting_of h sp)) T va p
        → WasOn (walker_of (setting_of h sp)) (last (history N)) va p → WasOn (walker_of (setting_of h sp)) (next (history N)) va p
    unfolding history last
    half_told told va p half untold a = elim later [ inl b ↦ b | inr c ↦ absurd (untold c.0 (told_of (Unmaps h sp) told c.0 c.1) (refl, c.2)) ]
      where
        later : WasOn (walker_of (setting_of h sp)) (next (history N)) va p ⊎ ((vb : ℕ) × Hits h sp (Unmaps h sp) D vb × SamePrefix p.levels va vb)
        later = half_later (last (history N)) (next (history N)) D (joined Ds ++ lately N) (coming h sp N D Ds e f).later f.role f.whole (split_calls h sp N T D Ds e f).0
            (last_built N f) (last_built (done N T) (facts_done h sp N T D Ds e f)) va p half a

    -- and a page that an address has had, it has had since it began, or it is told
    pub page_told : (kind : Found → Found) (H : Call → (ℕ → ℕ) → ℕ → Type 0) → Tracks h sp kind H → ((va : ℕ) → Hits h sp H (front (due N)) va → T va) → (va : ℕ) (o : Found) → IsPage o
        → MeantLike (walker_of (setting_of h sp)) kind (last (history N)) va o → MeantLike (walker_of (setting_of h sp)) kind (next (history N)) va o ⊎ T va
    page_told kind H tracks told va o page a = elim lasts [
      | inl b ↦ inl (among_map (next (history N)).since (next (history N)).began _ _ (λ x d. ap kind (one_space_meaning h (4096 * sp.root) x va) ∙ d) b)
      | inr b ↦ inr (told_of H told va b)
    ]
      where
        lasts : Among (next (history N)).began (next (history N)).since (λ x. kind (means h sp x va) ≡ kind o) ⊎ Hits h sp H D va
        lasts = later_lasts h sp (last (history N)) (next (history N)) D (joined Ds ++ lately N) (coming h sp N D Ds e f).later f.role f.whole (split_calls h sp N T D Ds e f).0
            (λ x. kind (means h sp x va) ≡ kind o) _ (λ x y s b d. ap kind (saw_means h sp x y s b va) ∙ d) (page_lasts h sp kind H tracks _ va o page)
            (among_map (last_since N) (last_began N) _ _ (λ x d. sym (ap kind (one_space_meaning h (4096 * sp.root) x va)) ∙ d) a)
