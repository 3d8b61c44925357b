-- EVERY OPERATION KEEPS THE ENTRIES AS WE WRITE THEM, though none needs it: unmap, protect and told (map: MapDone.antt).
use Prim.Native.Nat.{ℕ, ◌+◌, ◌^◌, ◌<◌}
use mathlib.Core.Bool.{Bool, true, false, cond}
use mathlib.Core.List.{[], ◌∷◌}
use mathlib.Core.Logic.{◌⊎◌, inl, inr}
use mathlib.Core.Path.{◌≡◌, refl, sym, ap, ◌∙◌, subst}
use native.Mathlib.Omega.{arith}
use borrow.Author.Tests.{leb-false}
use Rattle.std.proofs.Common.{Result, Ok, Err}
use Rattle.plan.specs.declared.Reason.{Reason}
use lib.Dec.{leb}
use Rattle.word.specs.Writes.{write, after}
use Rattle.entry.specs.Clean.{Clean}
use Rattle.entry.specs.Words.{with_rights}
use Rattle.entry.specs.declared.Rights.{Rights}
use Rattle.entry.proofs.Clean.{zero_clean, rights_clean}
use Rattle.walk.specs.Walk.{index_of}
use Rattle.walk.proofs.Digits.{index_lt}
use Rattle.tables.specs.Roles.{Role, left, Live, Exact}
use Rattle.tables.proofs.Unseen.{shift_left}
use Rattle.pool.specs.Book.{book_of, due_of, ticket_of, ticket_in}
use Rattle.pool.specs.Booked.{setting_of, released}
use Rattle.pool.specs.Changes.{aside_writes, release_writes}
use Rattle.pool.specs.declared.Space.{Space}
use Rattle.pool.specs.declared.Book.{Book}
use Rattle.pool.proofs.Proper.{aside_proper, release_proper}
use Rattle.pool.proofs.Releasing.{release_shifted}
use Rattle.plan.specs.Find.{find_of}
use Rattle.plan.specs.Unmap as unmap
use Rattle.plan.specs.Unmap.{cut_writes, book1, book2}
use Rattle.plan.specs.Protect as protect
use Rattle.plan.specs.declared.finding.PageEntry.{PageEntry}
use Rattle.plan.specs.declared.unmaps.Removal.{Removal}
use Rattle.plan.specs.declared.protects.Change.{Change}
use Rattle.plan.proofs.Strictly.{protect_strict}
use Rattle.plan.proofs.Found.{found_at}
use Rattle.effect.specs.UnmapDone.{SetAside, UnmapDone}
use Rattle.effect.specs.ToldDone.{ToldDone}
use Rattle.effect.specs.Whole.{Whole}
use Rattle.effect.proofs.Located.{Located, located}
use Rattle.effect.proofs.ToldDone.{told}
use Rattle.effect.proofs.UnmapInPool.{UnmapWent, unmap_went}
use Rattle.effect.proofs.WayInPool.{entry_in_pool}
use Rattle.effect.proofs.Words.{Each, no_more, each_append, each_one, each_elsewhere, after_has}

module _ {h : ℕ → Bool} {sp : Space} {m : ℕ → ℕ} {role : ℕ → Role} (w : Whole h sp m role) (exact : Exact m role) where
  -- UNMAP
  pub unmap_exact : (va : ℕ) (r : Removal) → unmap.decide_of h m sp va ≡ Ok r → (d : UnmapDone h sp m role va r) → Exact (after m (unmap.writes_of sp va r)) d.role'
  unfolding unmap.writes_of cut_writes
  unmap_exact va r e d x l i live u = after_has {q = x} {P = Clean l} (unmap.writes_of sp va r) m i u each (exact x l i (was (d.fate x)) u)
    where
      was : (d.role' x ≡ role x) ⊎ SetAside sp role d.role' (after m (unmap.writes_of sp va r)) (ticket_of (book_of m sp)) (ticket_of (book_of m sp) + r.empties) x → Live role x l
      was (inl same) = ap left (sym same) ∙ live
      was (inr s) = absurd (omega (arith, live, ap left s.is))

      g : UnmapWent h m sp va r
      g = unmap_went h m sp va r e

      cut : (j parent index child : ℕ) (b : Book) → index < 512 → (j < r.empties → child < 2 ^ 64) → Each x (Clean l) (cut_writes sp j r.empties parent index child b)
      cut j parent index child b v small = go (leb r.empties j) refl
        where
          go : (t : Bool) → leb r.empties j ≡ t → Each x (Clean l) (cond t [] (write parent index 0 ∷ aside_writes sp b child))
          go true f = no_more
          go false f =
              each_append (write parent index 0 ∷ []) _ (each_one parent index 0 v (λ z. zero_clean l))
              (each_elsewhere (λ y o z. omega (arith, live, ap left (d.whole.booked.in_book y o.0 o.1), ap (λ k. left (d.role' k)) z)) _
              (aside_proper sp b child (small (leb-false r.empties j f))))

      each : Each x (Clean l) (unmap.writes_of sp va r)
      each =
          each_append (write r.page.way.a (index_of r.page.way.level va) 0 ∷ []) _ (each_one _ _ 0 (index_lt r.page.way.level va) (λ z. zero_clean l))
          (each_append _ _ (cut 0 _ _ _ r.book (index_lt _ va) (λ v. omega (arith, (entry_in_pool g.found).small 0 (g.below 0 v))))
          (each_append _ _ (cut 1 _ _ _ (book1 sp r) (index_lt _ va) (λ v. omega (arith, (entry_in_pool g.found).small 1 (g.below 1 v))))
          (cut 2 _ _ _ (book2 sp r) (index_lt _ va) (λ v. omega (arith, (entry_in_pool g.found).small 2 (g.below 2 v))))))

  -- PROTECT
  pub protect_exact : (va : ℕ) (rights : Rights) (c : Change) → protect.decide_of h m sp va rights ≡ Ok c → Exact (after m (protect.writes_of c)) role
  unfolding protect.changing_of protect.change_of protect.writes_of
  protect_exact va rights c e = go (find_of h m sp va) refl (protect_strict h m sp va rights c e).1
    where
      one : (s : PageEntry) → Located (setting_of h sp) m role va s
          → Exact (after m (write s.way.a (index_of s.way.level va) (with_rights s.way.word rights) ∷ [])) role
      one s k x l i live u =
          after_has {q = x} {P = Clean l} (write s.way.a (index_of s.way.level va) (with_rights s.way.word rights) ∷ []) m i u
          (each_one s.way.a (index_of s.way.level va) _ (index_lt s.way.level va) (λ z.
          let level : s.way.level ≡ l = omega (arith, live, k.live, ap (λ y. left (role y)) z) in
          subst (λ y. Clean y (with_rights s.way.word rights)) level
          (rights_clean s.way.level s.way.word rights k.low
          (subst (Clean s.way.level) (sym k.traced.word) (exact s.way.a s.way.level (index_of s.way.level va) k.live (index_lt s.way.level va))))))
          (exact x l i live u)

      go : (y : Result PageEntry Reason) → find_of h m sp va ≡ y → protect.changing_of m sp va rights y ≡ Ok c → Exact (after m (protect.writes_of c)) role
      go (Err y) f j = let z : ◌≡◌ {A = ℕ} 0 1 = cc in absurd (omega arith)
      go (Ok s) f j =
          let same : protect.change_of va s rights (ticket_in (book_of m sp)) ≡ c = cc in
          subst (λ (y : Change). Exact (after m (protect.writes_of y)) role) same (one s (located w (found_at h m sp va s f)))

  -- TOLD
  pub told_exact : (t k : ℕ) → due_of (book_of m sp) t ≡ Ok k → Exact (after m (release_writes sp (book_of m sp) k)) (released m sp k role)
  told_exact t k e x l i live u = after_has {q = x} {P = Clean l} (release_writes sp (book_of m sp) k) m i u each (exact x l i was u)
    where
      d : ToldDone h sp m role t k
      d = told w t k e

      was : Live role x l
      was = sym (shift_left role (released m sp k role) (release_shifted w.booked k d.enough) x) ∙ live

      each : Each x (Clean l) (release_writes sp (book_of m sp) k)
      each = each_elsewhere (λ y o z. omega (arith, was, ap left (w.booked.in_book y o.0 o.1), ap (λ v. left (role v)) z)) _ (release_proper sp (book_of m sp) k)
