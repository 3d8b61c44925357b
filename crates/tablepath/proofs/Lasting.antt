-- ALONG A RUN: what was so at some moment of it is so at its end, or one of its calls made it otherwise. Pages that addresses have, and tables
-- that walks come to.
use Prim.Native.Nat.{ℕ, ◌≤◌}
use mathlib.Core.Bool.{Bool}
use mathlib.Core.List.{List, [], ◌∷◌, ◌++◌}
use mathlib.Core.Logic.{◌⊎◌, inl, inr}
use mathlib.Core.Path.{◌≡◌, refl, sym, ap, ◌∙◌, subst}
use native.Mathlib.Omega.{arith}
use Rattle.entry.specs.declared.Rights.{Rights}
use Rattle.walk.specs.declared.Found.{Found}
use Rattle.walk.specs.declared.Found.TheVariants.{Page, Nothing, Outside, NoAddress}
use Rattle.world.specs.Events.{after, All}
use Rattle.world.proofs.Events.{after_append, all_first, all_map, all_append}
use Rattle.tables.specs.Walks.{SamePrefix}
use Rattle.tables.specs.Roles.{Role}
use Rattle.tables.specs.Way.{Comes}
use Rattle.pool.specs.Book.{book_of, ticket_of}
use Rattle.pool.specs.Booked.{setting_of}
use Rattle.pool.specs.declared.Space.{Space}
use Rattle.effect.specs.Whole.{Whole}
use Rattle.tablepath.specs.Calls.{means, Call, Within, Saw, Act, act_writes, wrote, Runs, UpTo}
use Rattle.tablepath.specs.Nights.{Some, Unmaps, Protects, Hit, Hits, IsPage, but_rights}
use Rattle.tablepath.proofs.Running.{act_served, act_whole, act_ticket}
use Rattle.tablepath.proofs.Did.{Did, same, mapped, gone, changed, Stirs, act_stirs}
use Rattle.tablepath.proofs.Ways.{Beneath, act_ways}

module _ (h : ℕ → Bool) (sp : Space) where
  -- P lasts over every call, but where E
  abbrev pub Lasts : ℕ → ((ℕ → ℕ) → Type 0) → (Act → Type 0) → Type 0
  Lasts n P E = (m : ℕ → ℕ) (role : ℕ → Role) → Whole h sp m role → n ≤ ticket_of (book_of m sp) → (a : Act) → Saw sp m a.saw → Within n a.call
      → All m (act_writes h sp a) (λ y. P y → P (after m (act_writes h sp a)) ⊎ E a)

  pub run_lasts : (n : ℕ) (P : (ℕ → ℕ) → Type 0) (E : Act → Type 0) → Lasts n P E
      → (m : ℕ → ℕ) (role : ℕ → Role) (cs : List Act) → Whole h sp m role → n ≤ ticket_of (book_of m sp) → Runs h sp m cs → UpTo n cs
      → All m (wrote h sp cs) (λ y. P y → P (after m (wrote h sp cs)) ⊎ Some E cs)
  unfolding wrote Runs UpTo Some All after
  run_lasts n P E f m role [] w u r t = λ p. inl p
  run_lasts n P E f m role (a ∷ cs) w u r t =
      let rest = run_lasts n P E f next (act_served h sp n m role w u a r.0 t.0).role cs (act_whole h sp n m role w u a r.0 t.0) (act_ticket h sp n m role w u a r.0 t.0) r.1 t.1 in
      all_append (act_writes h sp a) (wrote h sp cs) m (λ y. P y → P end ⊎ (E a ⊎ Some E cs))
      (all_map (act_writes h sp a) m _ _ (λ y g p. early (g p) (all_first (wrote h sp cs) next _ rest)) (f m role w u a r.0 t.0))
      (all_map (wrote h sp cs) next _ _ (λ y g p. late (g p)) rest)
    where
      next : ℕ → ℕ
      next = after m (act_writes h sp a)

      end : ℕ → ℕ
      end = after m (act_writes h sp a ++ wrote h sp cs)

      late : P (after next (wrote h sp cs)) ⊎ Some E cs → P end ⊎ (E a ⊎ Some E cs)
      late (inl p) = inl (subst P (sym (after_append (act_writes h sp a) (wrote h sp cs) m)) p)
      late (inr e) = inr (inr e)

      early : P next ⊎ E a → (P next → P (after next (wrote h sp cs)) ⊎ Some E cs) → P end ⊎ (E a ⊎ Some E cs)
      early (inl p) g = late (g p)
      early (inr e) g = inr (inl e)

  -- WHICH CALLS TO LOOK AT, if pages of one kind are as good as one another: unmap, and protect where it changes the kind
  pub record Tracks (kind : Found → Found) (H : Call → (ℕ → ℕ) → ℕ → Type 0) : Type 0 where
    pub unmaps : (c : Call) (s : ℕ → ℕ) (va : ℕ) → Unmaps h sp c s va → H c s va
    pub protects : (c : Call) (s : ℕ → ℕ) (va : ℕ) → Protects h sp c s va → H c s va ⊎ ((base size frame : ℕ) (r r' : Rights) → kind (Page base size frame r) ≡ kind (Page base size frame r'))
    pub pages : (o : Found) → IsPage o → ¬ (kind Nothing ≡ kind o)

  pub exactly : Tracks (λ o. o) (Hit h sp)
  unfolding IsPage
  exactly = record { unmaps = λ c s va t. inl t; protects = λ c s va t. inl (inr t); pages = λ o page e. subst IsPage (sym e) page }

  pub but_rights_lem : Tracks but_rights (Unmaps h sp)
  unfolding but_rights
  but_rights_lem = record { unmaps = λ c s va t. t; protects = λ c s va t. inr (λ base size frame r r'. refl); pages = no_page }
    where
      no_page : (o : Found) → IsPage o → ¬ (but_rights Nothing ≡ but_rights o)
      no_page (Page base size frame r) page e = let z : ◌≡◌ {A = ℕ} 0 1 = unfold but_rights in cc in omega arith
      no_page Nothing page e = unfold IsPage in page
      no_page Outside page e = unfold IsPage in page
      no_page NoAddress page e = unfold IsPage in page

  -- THE PAGE THAT AN ADDRESS HAS, it has on, or a call touched it.
  module _ (kind : Found → Found) (H : Call → (ℕ → ℕ) → ℕ → Type 0) (tracks : Tracks kind H) where
    pub page_lasts : (n va : ℕ) (o : Found) → IsPage o → Lasts n (λ x. kind (means h sp x va) ≡ kind o) (λ a. H a.call a.saw va)
    page_lasts n va o page m role w u a saw within = all_map (act_writes h sp a) m _ _ (λ y q e. moment y q e) s.moments
      where
        s : Stirs h sp a.call a.saw m (act_writes h sp a)
        s = act_stirs h sp n m role w u a saw within

        End : Type 0
        End = (kind (means h sp (after m (act_writes h sp a)) va) ≡ kind o) ⊎ H a.call a.saw va

        go : (c : Call) → kind (means h sp m va) ≡ kind o → Did h sp a.saw va c (means h sp m va) (means h sp (after m (act_writes h sp a)) va)
            → (kind (means h sp (after m (act_writes h sp a)) va) ≡ kind o) ⊎ H c a.saw va
        go c e (same f) = inl (ap kind f ∙ e)
        go c e (mapped k d f g) = absurd (tracks.pages o page (sym (ap kind f) ∙ e))
        go c e (gone t f g) = inr (tracks.unmaps c a.saw va t)
        go c e (changed {base = base} {size} {frame} {had} {now} t f g) = elim (tracks.protects c a.saw va t) [
          | inl x ↦ inr x
          | inr x ↦ inl (ap kind g ∙ x base size frame now had ∙ sym (ap kind f) ∙ e)
        ]

        moment : (y : ℕ → ℕ) → ((vb : ℕ) → means h sp y vb ≡ means h sp m vb) ⊎ ((vb : ℕ) → means h sp y vb ≡ means h sp (after m (act_writes h sp a)) vb)
            → kind (means h sp y va) ≡ kind o → End
        moment y (inl q) e = go a.call (sym (ap kind (q va)) ∙ e) (s.did va)
        moment y (inr q) e = inl (sym (ap kind (q va)) ∙ e)

  -- THE TABLE THAT A WALK COMES TO, it comes to on, or a call unmapped an address of the walk's prefix.
  pub way_lasts : (n va j t : ℕ) → Lasts n (λ x. Comes (setting_of h sp) x va j t) (λ a. Beneath h sp a.call a.saw j va)
  way_lasts n va j t m role w u a saw within = all_map (act_writes h sp a) m _ _ (λ y f c. f va j t c) (act_ways h sp n m role w u a saw within)

  pub some_beneath : (cs : List Act) (j va : ℕ) → Some (λ a. Beneath h sp a.call a.saw j va) cs → (vb : ℕ) × Hits h sp (Unmaps h sp) cs vb × SamePrefix j va vb
  unfolding Some
  some_beneath [] j va s = absurd s
  some_beneath (a ∷ cs) j va (inl b) = (b.0, inl b.1, b.2)
  some_beneath (a ∷ cs) j va (inr s) = let b = some_beneath cs j va s in (b.0, inr b.1, b.2)
