-- Shootdowns on the small walker, computed: what is dropped and what is held on, what may be written then, and what comes of telling too little.
use mathlib.Core.Path.{◌≡◌, refl, subst}
use mathlib.Core.List.{List, [], ◌∷◌}
use mathlib.Core.Logic.{◌⊎◌, inl, inr}
use Prim.Native.Nat.{ℕ, zero, suc, ◌/◌, ◌≤◌}
use native.Mathlib.Omega.{arith}
use native.Mathlib.Decide.{ℕ_discrete}
use Rattle.word.specs.Memory.{set}
use Rattle.world.specs.Events.{Event, write, happen, after, Among, All}
use Rattle.world.specs.Walker.{meaning, run, Gives, Reads, ReadsIn, Below, BelowIn}
use Rattle.world.proofs.Ways.{nowhere_cell, below_reads}
use Rattle.world.specs.Held.{None, still, starts, steps, Can}
use Rattle.world.specs.Discipline.{Cuts, Grow, Safe}
use Rattle.world.specs.Reports.{History, first, happens, begins, done, oldest, younger, each_longer, now, underway, last, Thawed, Caches, Finishes, Held, Disciplined, Tells, Enough}
use Rattle.world.proofs.Tiny.{Spot, entry, onward, next, tiny, tiny_laws}
use Rattle.world.proofs.Sanity.{memory, same_cell, last_reads, last_below, root_free, root_only}
use Rattle.world.proofs.Reports.{answers_all, reaches_none}

-- all that a walk has found may be kept, a table or a page
abbrev caches : Caches Spot ℕ
caches = record { half = λ p. ¬ (p.levels ≡ 0); finished = λ p. p.levels ≡ 0; page = λ o. Unit {0} }

finishes : Finishes tiny caches
unfolding ReadsIn onward
finishes = record {
  rests = λ p e m va x r. subst (λ k. ReadsIn tiny m va k p x) e r;
  stays = λ p e m va. rw e;
  gives = λ p e va o g. tt;
}

-- The root's word is cleared, so that both addresses mean nothing; a shootdown of T begins, and is done.
abbrev cleared : History ℕ ℕ
cleared = happens (first memory) (write 1000 0)

abbrev shot : (ℕ → Type 0) → History ℕ ℕ
shot T = done (begins cleared) T

-- the table that was cut off is written, with page 9
abbrev reused : (ℕ → Type 0) → History ℕ ℕ
reused T = happens (shot T) (write 2000 18)

-- a walk of va that began before: after one step, and after two
early : (va : ℕ) → Held tiny caches cleared va (record { levels = 1; table = 2000 })
unfolding Held now happen set ℕ_discrete onward entry
early va = still (steps {p = record { levels = 2; table = 1000 }} starts)

found : Held tiny caches cleared 1 (record { levels = 0; table = 6 })
unfolding Held now happen set ℕ_discrete onward entry
found = still (steps {p = record { levels = 1; table = 2000 }} (steps {p = record { levels = 2; table = 1000 }} starts))

-- TOLD OF ADDRESS 0: what address 1 found is held on, and may be given.
spared : Held tiny caches (shot (λ t. t ≡ 0)) 1 (record { levels = 0; table = 6 })
unfolding Held
spared = still (inr (inr refl, apart, found))
  where
    apart : (t : ℕ) → t ≡ 0 → ¬ (1 ≡ t)
    apart t e a = omega arith

-- The table may be written then. No walk and no cache gives for address 0 what was there, or reads it.
unread : ¬ (⊥ ⊎ Cuts tiny (set memory 1000 0) 2000 2000)
unfolding set ℕ_discrete
unread (inl f) = f
unread (inr c) =
    omega (arith, root_only (set memory 1000 0) refl c.0 2000 (below_reads tiny tiny_laws (set memory 1000 0) c.0 2 (record { levels = 2; table = 1000 }) 2000 2000 c.1))

reused_keeps : (T : ℕ → Type 0) → Disciplined tiny (reused T)
unfolding Disciplined Safe now last underway oldest each_longer after happen set ℕ_discrete
reused_keeps T = (((tt, (root_free memory refl, tt)), tt), (unread, tt))

reused_tells : Tells tiny caches (reused (λ t. t ≡ 0))
unfolding Tells
reused_tells = (tt, λ va p h u w. absurd (u 0 refl (prefix va p h)))
  where
    above : (n va : ℕ) → ¬ (n ≡ 0) → tiny.Alike n va 0
    above zero va h = absurd (h refl)
    above (suc n) va h = tt

    prefix : (va : ℕ) (p : Spot) → caches.half p → tiny.Alike p.levels va 0
    prefix va p h = above p.levels va h

reused_gives_nothing : (p : Spot) (o : ℕ) → Held tiny caches (reused (λ t. t ≡ 0)) 0 p → Gives tiny 0 p o → o ≡ 0
unfolding Enough last now underway oldest each_longer after happen All run set ℕ_discrete onward entry
reused_gives_nothing =
    answers_all tiny tiny_laws caches finishes (λ o. o) (reused (λ t. t ≡ 0)) (reused_keeps (λ t. t ≡ 0)) reused_tells 0 (tt, λ o k m. inr refl) (λ o. o ≡ 0) (refl, refl)

reused_not_read : (va : ℕ) (p : Spot) → Held tiny caches (reused (λ t. t ≡ 0)) va p → ¬ Reads tiny (now (reused (λ t. t ≡ 0))) va p 2000
unfolding last now underway oldest each_longer after happen All set ℕ_discrete
reused_not_read va =
    reaches_none tiny tiny_laws caches finishes (reused (λ t. t ≡ 0)) (reused_keeps (λ t. t ≡ 0)) reused_tells va 2000
    (λ r. omega (arith, root_only (set memory 1000 0) refl va 2000 r), λ r. omega (arith, root_only (set (set memory 1000 0) 2000 18) refl va 2000 r))

-- TOLD OF NOTHING: a half-done walk is kept, and ends with page 9, which address 0 never meant.
half_way : caches.half (record { levels = 1; table = 2000 })
half_way e = let z : ◌≡◌ {A = ℕ} 1 0 = e in omega arith

stale : Held tiny caches (reused (λ t. ⊥)) 0 (record { levels = 0; table = 9 })
unfolding Held now happen set ℕ_discrete onward entry
stale = steps {p = record { levels = 1; table = 2000 }} (still (still (inr (inl half_way, λ t e a. e, early 0))))

stale_never : ¬ Among memory (write 1000 0 ∷ (write 2000 18 ∷ [])) (λ m. meaning tiny m 0 ≡ 9)
unfolding Among happen run onward entry set ℕ_discrete
stale_never (inl e) = omega arith
stale_never (inr (inl e)) = omega arith
stale_never (inr (inr e)) = omega arith

-- OVERLAPPING: a second shootdown begins before the first is done; when both are done, the last period is since the second began.
abbrev overlapping : History ℕ ℕ
overlapping = done (happens (done (happens (begins (happens (begins (first memory)) (write 2000 0))) (write 1000 0)) (λ t. t ≡ 0)) (write 7000 2)) (λ t. t ≡ 1)

overlapping_last : last overlapping ≡ record { began = set memory 2000 0; since = write 1000 0 ∷ (write 7000 2 ∷ []) }
unfolding last underway oldest younger each_longer now happen
overlapping_last = refl

-- AFTER A MAP a walk that goes on from an upper entry of before may still find nothing. The table at 2000 is emptied and unlinked; another one,
-- at 1500, is filled and linked; address 0 means page 7; and what was held of the first table leads to nothing, until a shootdown.
abbrev remapped : List (Event ℕ)
remapped = write 2000 0 ∷ (write 2001 0 ∷ (write 1000 0 ∷ (write 1500 14 ∷ (write 1000 3000 ∷ []))))

remapped_means : meaning tiny (after memory remapped) 0 ≡ 7
unfolding after happen run onward entry set ℕ_discrete
remapped_means = refl

remapped_still : Can tiny memory remapped (None tiny) 0 (record { levels = 0; table = 0 })
unfolding Can happen onward entry set ℕ_discrete
remapped_still =
    steps {p = record { levels = 1; table = 2000 }} (still (still (still (still (still (steps {p = record { levels = 2; table = 1000 }} starts))))))

-- the discipline is kept: only the root's word cuts anything off, and that is the table which it names
leaf_cuts : (m : ℕ → ℕ) (a x : ℕ) → ¬ (1000 ≡ a) → ¬ Cuts tiny m a x
unfolding BelowIn next onward entry
leaf_cuts m a x n c = go c.0 c.1
  where
    go : (va : ℕ) → ¬ Below tiny m va (record { levels = 2; table = 1000 }) a x
    go va (inl b) = n (same_cell 1000 a b.0)
    go va (inr b) = last_below m va (onward m va 2 1000).table a x b

root_cuts : (m : ℕ → ℕ) (x : ℕ) → m 1000 / 2 ≡ 2000 → Cuts tiny m 1000 x → 2000 ≤ x
unfolding BelowIn next onward entry
root_cuts m x e c = go c.0 c.1
  where
    go : (va : ℕ) → Below tiny m va (record { levels = 2; table = 1000 }) 1000 x → 2000 ≤ x
    go va (inl b) = omega (arith, last_reads m va 1999 x (subst (λ t. ReadsIn tiny m va 1 (record { levels = 1; table = t }) x) e b.1))
    go va (inr b) = absurd (last_below m va (m 1000 / 2) 1000 x b)

root_cuts_none : (m : ℕ → ℕ) (x : ℕ) → m 1000 / 2 ≡ 0 → ¬ Cuts tiny m 1000 x
unfolding BelowIn ReadsIn next onward entry
root_cuts_none m x e c = go c.0 c.1
  where
    none : (va : ℕ) → ¬ ReadsIn tiny m va 1 (record { levels = 1; table = 0 }) x
    none va (inl f) = nowhere_cell x f
    none va (inr f) = f

    go : (va : ℕ) → ¬ Below tiny m va (record { levels = 2; table = 1000 }) 1000 x
    go va (inl b) = none va (subst (λ t. ReadsIn tiny m va 1 (record { levels = 1; table = t }) x) e b.1)
    go va (inr b) = last_below m va (m 1000 / 2) 1000 x b

-- the memory after the third write, and what is frozen after each
abbrev unlinked : ℕ → ℕ
unlinked = set (set (set memory 2000 0) 2001 0) 1000 0

abbrev Frozen₂ : ℕ → Type 0
Frozen₂ = Grow tiny (Grow tiny Thawed memory 2000) (set memory 2000 0) 2001

abbrev Frozen₃ : ℕ → Type 0
Frozen₃ = Grow tiny Frozen₂ (set (set memory 2000 0) 2001 0) 1000

frozen₂ : (x : ℕ) → ¬ Frozen₂ x
frozen₂ x (inl (inl f)) = f
frozen₂ x (inl (inr c)) = leaf_cuts memory 2000 x (λ e. omega arith) c
frozen₂ x (inr c) = leaf_cuts (set memory 2000 0) 2001 x (λ e. omega arith) c

frozen₃ : (x : ℕ) → Frozen₃ x → 2000 ≤ x
unfolding set ℕ_discrete
frozen₃ x (inl f) = absurd (frozen₂ x f)
frozen₃ x (inr c) = root_cuts (set (set memory 2000 0) 2001 0) x refl c

frozen₄ : (x : ℕ) → Grow tiny Frozen₃ unlinked 1500 x → 2000 ≤ x
frozen₄ x (inl f) = frozen₃ x f
frozen₄ x (inr c) = absurd (leaf_cuts unlinked 1500 x (λ e. omega arith) c)

remapped_safe : Safe tiny Thawed memory remapped
unfolding Safe set ℕ_discrete
remapped_safe = (first_write, (frozen₂ 2001, ((λ f. omega (arith, frozen₃ 1000 f)), ((λ f. omega (arith, frozen₄ 1500 f)), (last_write, tt)))))
  where
    first_write : ¬ Grow tiny Thawed memory 2000 2000
    first_write (inl f) = f
    first_write (inr c) = leaf_cuts memory 2000 2000 (λ e. omega arith) c

    last_write : ¬ Grow tiny (Grow tiny Frozen₃ unlinked 1500) (set unlinked 1500 14) 1000 1000
    last_write (inl f) = omega (arith, frozen₄ 1000 f)
    last_write (inr c) = root_cuts_none (set unlinked 1500 14) 1000 refl c
