-- The discipline can be kept, and without it the theorem is false: runs of the small walker, computed.
use mathlib.Core.Path.{◌≡◌, refl, subst}
use mathlib.Core.List.{List, [], ◌∷◌, ◌++◌}
use mathlib.Core.Logic.{◌⊎◌, inl, inr}
use Prim.Native.Nat.{ℕ, suc, ◌+◌, ◌/◌}
use native.Mathlib.Omega.{arith}
use native.Mathlib.Decide.{ℕ_discrete}
use Rattle.word.specs.Memory.{set}
use Rattle.world.specs.Events.{Event, write, mark, happen, after, Among}
use Rattle.world.specs.Walker.{cell, meaning, run, Reads, ReadsIn, Below, BelowIn}
use Rattle.world.proofs.Ways.{nowhere_cell, rested_gives}
use Rattle.world.specs.Held.{Can, None, still, starts, steps, shares}
use Rattle.world.specs.Discipline.{Safe, Cuts}
use Rattle.world.proofs.Discipline.{interleaving}
use Rattle.world.specs.Turns.{Turn, tick, event, events, Idle, at_start, places}
use Rattle.world.proofs.Turns.{each_walk}
use Rattle.world.specs.Reports.{Thawed}
use Rattle.world.specs.OneChange.{OneChange}
use Rattle.world.proofs.OneChange.{change_one, change_then_quiet, quiet_more, quiet_nil, unseen_same_meaning}
use Rattle.world.proofs.Tiny.{entry, onward, next, tiny, tiny_laws}

-- a table at 2000, with page 5 for address 0 and page 6 for address 1
abbrev pub memory : ℕ → ℕ
memory = set (set (set (λ x. 0) 1000 4000) 2000 10) 2001 12

-- walk 0 is of address 0, and walk 1 of address 1
abbrev who : ℕ → ℕ
who i = i

-- THE GOOD RUN. Walk 0 reads the root's word; the machine marks it; the code clears it, so that address 0 means nothing; walk 1 begins; walk 0
-- goes on through the table that was cut off, and ends with page 5, which was there when it began. Walk 1 finds nothing.
abbrev opening : List (Turn ℕ)
opening = tick 0 ∷ (event (mark 1000 4001) ∷ (event (write 1000 0) ∷ []))

abbrev good : List (Turn ℕ)
good = opening ++ (tick 1 ∷ (tick 0 ∷ (tick 1 ∷ [])))

good_ends_0 : places tiny who memory (at_start tiny who) good 0 ≡ record { levels = 0; table = 5 }
unfolding places set happen ℕ_discrete onward entry
good_ends_0 = refl

good_ends_1 : places tiny who memory (at_start tiny who) good 1 ≡ record { levels = 0; table = 0 }
unfolding places set happen ℕ_discrete onward entry
good_ends_1 = refl

pub same_cell : (a b : ℕ) → cell a ≡ cell b → a ≡ b
same_cell a b e = cc

-- At the last level a walk reads one cell, and nothing below it.
pub last_reads : (m : ℕ → ℕ) (va t x : ℕ) → ReadsIn tiny m va 1 (record { levels = 1; table = suc t }) x → suc t + va ≡ x
unfolding ReadsIn next entry
last_reads m va t x (inl e) = same_cell (suc t + va) x e
last_reads m va t x (inr r) = absurd r

pub last_below : (m : ℕ → ℕ) (va t a x : ℕ) → ¬ BelowIn tiny m va 1 (record { levels = 1; table = t }) a x
unfolding BelowIn ReadsIn
last_below m va t a x (inl b) = b.1
last_below m va t a x (inr b) = b

-- Where the root's word names the table at 2000 no walk reads the root a second time, so it may be written.
pub root_free : (m : ℕ → ℕ) → m 1000 / 2 ≡ 2000 → ¬ (⊥ ⊎ Cuts tiny m 1000 1000)
unfolding BelowIn onward entry
root_free m e (inl f) = f
root_free m e (inr c) = go c.0 c.1
  where
    go : (va : ℕ) → ¬ Below tiny m va (record { levels = 2; table = 1000 }) 1000 1000
    go va (inl b) = omega (arith, last_reads m va 1999 1000 (subst (λ t. ReadsIn tiny m va 1 (record { levels = 1; table = t }) 1000) e b.1))
    go va (inr b) = last_below m va (m 1000 / 2) 1000 1000 b

good_safe : Safe tiny Thawed memory (events good)
unfolding Safe events set ℕ_discrete
good_safe = (refl, (root_free (set memory 1000 4001) refl, tt))

-- its moment lies before the clearing
good_moment_0 : Among memory (mark 1000 4001 ∷ (write 1000 0 ∷ [])) (λ m'. meaning tiny m' 0 ≡ 5)
unfolding events Idle after
good_moment_0 =
    each_walk tiny tiny_laws who [] (opening ++ (tick 1 ∷ (tick 0 ∷ []))) (tick 1 ∷ []) Thawed memory good_safe 0 tt (omega arith, tt) 5
    (rw good_ends_0 (rested_gives tiny tiny_laws 0 _ refl))

-- walk 1 began after it: the only moment of its run is the one where it means nothing
good_moment_1 : meaning tiny (set (set memory 1000 4001) 1000 0) 1 ≡ 0
unfolding events Idle Among after happen
good_moment_1 =
    each_walk tiny tiny_laws who opening (tick 1 ∷ (tick 0 ∷ (tick 1 ∷ []))) [] Thawed memory good_safe 1 (omega arith, tt) tt 0
    (rw good_ends_1 (rested_gives tiny tiny_laws 1 _ refl))

-- THE BAD RUN. The same, but the code writes into the table that it cut off before walk 0 has ended: page 9, which address 0 never meant.
abbrev bad : List (Turn ℕ)
bad = tick 0 ∷ (event (write 1000 0) ∷ (event (write 2000 18) ∷ (tick 0 ∷ [])))

bad_ends : places tiny who memory (at_start tiny who) bad 0 ≡ record { levels = 0; table = 9 }
unfolding places set happen ℕ_discrete onward entry
bad_ends = refl

bad_never : ¬ Among memory (events bad) (λ m'. meaning tiny m' 0 ≡ 9)
unfolding Among events run onward entry set happen ℕ_discrete
bad_never (inl e) = omega arith
bad_never (inr (inl e)) = omega arith
bad_never (inr (inr e)) = omega arith

bad_refused : (F : ℕ → Type 0) → ¬ Safe tiny F memory (events bad)
unfolding events Idle after
bad_refused F s = bad_never (each_walk tiny tiny_laws who [] bad [] F memory s 0 tt tt 9 (rw bad_ends (rested_gives tiny tiny_laws 0 _ refl)))

-- THE SELF-MAP. The root's word names the root itself. One write over it is enough for an answer that was never the meaning, and no cell was
-- frozen before: so a write is asked of the cells that it freezes itself.
abbrev looped : ℕ → ℕ
looped = set memory 1000 2000

abbrev over : List (Turn ℕ)
over = tick 0 ∷ (event (write 1000 4000) ∷ (tick 0 ∷ []))

over_ends : places tiny who looped (at_start tiny who) over 0 ≡ record { levels = 0; table = 2000 }
unfolding places set happen ℕ_discrete onward entry
over_ends = refl

over_never : ¬ Among looped (events over) (λ m'. meaning tiny m' 0 ≡ 2000)
unfolding Among events run onward entry set happen ℕ_discrete
over_never (inl e) = omega arith
over_never (inr e) = omega arith

over_refused : (F : ℕ → Type 0) → ¬ Safe tiny F looped (events over)
unfolding events Idle after
over_refused F s = over_never (each_walk tiny tiny_laws who [] over [] F looped s 0 tt tt 2000 (rw over_ends (rested_gives tiny tiny_laws 0 _ refl)))

-- THROUGH A CACHE. A walk of address 0 reads the root's word, and a cache keeps that. The word is cleared. A walk of address 1 goes on from
-- what the cache has, and ends with page 6: the meaning since the last report, though no more when that walk began.
clearing : List (Event ℕ)
clearing = write 1000 0 ∷ []

cached : Can tiny memory clearing (None tiny) 1 (record { levels = 0; table = 6 })
unfolding Can clearing happen set ℕ_discrete onward entry
cached = steps {p = record { levels = 1; table = 2000 }} (shares {va = 0} tt (still (steps {p = record { levels = 2; table = 1000 }} starts)))

clearing_safe : Safe tiny Thawed memory clearing
unfolding Safe clearing set ℕ_discrete
clearing_safe = (root_free memory refl, tt)

cached_moment : Among memory clearing (λ m'. meaning tiny m' 1 ≡ 6)
cached_moment = interleaving tiny tiny_laws clearing Thawed memory clearing_safe 1 (record { levels = 0; table = 6 }) 6 cached (rested_gives tiny tiny_laws 1 _ refl)

cached_late : meaning tiny (after memory clearing) 1 ≡ 0
unfolding after clearing happen run set ℕ_discrete onward entry
cached_late = refl

-- where the root's word is 0 no walk reads another cell
pub root_only : (m : ℕ → ℕ) → m 1000 / 2 ≡ 0 → (va x : ℕ) → Reads tiny m va (record { levels = 2; table = 1000 }) x → 1000 ≡ x
unfolding ReadsIn next onward entry
root_only m e va x (inl f) = same_cell 1000 x f
root_only m e va x (inr r) = go (subst (λ t. ReadsIn tiny m va 1 (record { levels = 1; table = t }) x) e r)
  where
    go : ReadsIn tiny m va 1 (record { levels = 1; table = 0 }) x → 1000 ≡ x
    go (inl f) = absurd (nowhere_cell x f)
    go (inr f) = absurd f

-- ONE CHANGE: the root's word is cleared, and then a cell is written that no walk reads.
unmapped : OneChange tiny memory (write 1000 0 ∷ (write 7000 2 ∷ []))
unfolding after happen set ℕ_discrete
unmapped = change_then_quiet tiny tiny_laws (write 1000 0 ∷ []) (write 7000 2 ∷ []) memory (change_one tiny tiny_laws memory 1000 0)
    (quiet_more tiny tiny_laws (write 7000 2) [] (set memory 1000 0)
    (unseen_same_meaning tiny tiny_laws (set memory 1000 0) 7000 2 (λ va r. omega (arith, root_only (set memory 1000 0) refl va 7000 r))) (quiet_nil tiny tiny_laws _))
