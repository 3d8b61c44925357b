-- FROM A MOMENT ON at which nothing waits: what comes later in the night is a run of calls, whatever shootdowns begin or are done in it. So a page that is
-- set aside is not written until its report. Statements: specs/Shown.antt.
use Prim.Native.Nat.{ℕ}
use mathlib.Core.Bool.{Bool}
use mathlib.Core.List.{List, [], ◌∷◌, ◌++◌}
use mathlib.Core.Path.{◌≡◌, refl, sym, ap, ◌∙◌, subst}
use native.Mathlib.Omega.{arith}
use Rattle.world.specs.Events.{Event, happen, after}
use Rattle.world.proofs.Events.{after_more}
use Rattle.world.specs.Reports.{now}
use Rattle.world.proofs.Reports.{last_ends}
use Rattle.pool.specs.Book.{book_of, ticket_of}
use Rattle.pool.specs.declared.Space.{Space}
use Rattle.effect.specs.Whole.{Whole}
use Rattle.tablepath.specs.Calls.{Act, UpTo}
use Rattle.tablepath.specs.Nights.{Night, history, last_began, last_since, uncovered, untold_kept, waiting, Honest, Telling, Complete, Onward, same, called, happened, begun, ended}
use Rattle.tablepath.specs.Shown.{NightWhole, NightUnwritten, UnlinkedUnwritten}
use Rattle.tablepath.proofs.Running.{Ran, reached_ran, reached_whole}
use Rattle.tablepath.proofs.Beside.{unwritten, unwritten_since}
use Rattle.tablepath.proofs.Periods.{upto_front, upto_rest}
use Rattle.tablepath.proofs.Facts.{Facts, Reaching, reach_none, reach_calls, reach_event}
use Rattle.tablepath.proofs.Nights.{night_facts, night_fits}

module _ (h : ℕ → Bool) (sp : Space) where
  pub night_whole : (N : Night) → Honest h sp untold_kept N → Complete h sp N → NightWhole h sp N
  night_whole N k c empty = (ran.role, subst (λ x. Whole h sp x ran.role) (last_ends (history N)) whole)
    where
      f : Facts h sp N
      f = night_facts h sp N k c

      ran : Ran h sp (ticket_of (book_of (last_began N) sp)) (last_began N) (uncovered N)
      ran = reached_ran h sp (ticket_of (book_of (last_began N) sp)) (last_began N) f.role f.whole (omega arith) (uncovered N) (last_since N) f.reached.0

      whole : Whole h sp (after (last_began N) (last_since N)) ran.role
      whole = reached_whole h sp (ticket_of (book_of (last_began N) sp)) (last_began N) f.role f.whole (omega arith) (uncovered N) (last_since N) f.reached.0 (f.reached.1 ∙ empty)

  -- what was so far
  pub honest_before : {N M : Night} {cs : List Act} {gs : List (Event ℕ)} → Onward N M cs gs → Honest h sp untold_kept M → Honest h sp untold_kept N
  unfolding Honest
  honest_before same k = k
  honest_before (called o a) k = honest_before o k.0
  honest_before (happened o e) k = honest_before o k.0
  honest_before (begun o) k = honest_before o k.0
  honest_before (ended o T) k = honest_before o k.0

  pub complete_before : {N M : Night} {cs : List Act} {gs : List (Event ℕ)} → Onward N M cs gs → Complete h sp M → Complete h sp N
  unfolding Telling
  complete_before same c = c
  complete_before (called o a) c = complete_before o c
  complete_before (happened o e) c = complete_before o c
  complete_before (begun o) c = complete_before o c
  complete_before (ended o T) c = complete_before o c.0

  onward_ends : {N M : Night} {cs : List Act} {gs : List (Event ℕ)} → Onward N M cs gs → after (now (history N)) gs ≡ now (history M)
  unfolding history now after
  onward_ends same = refl
  onward_ends (called o a) = onward_ends o
  onward_ends {N} (happened {gs = gs} o e) = after_more gs e (now (history N)) ∙ ap (λ x. happen x e) (onward_ends o)
  onward_ends (begun o) = onward_ends o
  onward_ends (ended o T) = onward_ends o

  -- A RUN, where reports go no further than n
  pub onward_reached : (n : ℕ) {N M : Night} {cs : List Act} {gs : List (Event ℕ)} → Onward N M cs gs → Honest h sp untold_kept M → Complete h sp M → waiting h sp N ≡ [] → UpTo n cs
      → Reaching h sp n (now (history N)) cs gs (waiting h sp M)
  unfolding Honest Telling history now waiting UpTo
  onward_reached n {N} same k c empty u = subst (Reaching h sp n (now (history N)) [] []) (sym empty) (reach_none h sp n (now (history N)))
  onward_reached n {N} (called {M} {cs} {gs} o a) k c empty u =
      reach_calls h sp n (now (history N)) cs gs (waiting h sp M) (onward_reached n o k.0 c empty (upto_front n cs (a ∷ []) u)) (now (history M)) (onward_ends o) a k.1
      (upto_rest n cs (a ∷ []) u).0
  onward_reached n {N} (happened {M} {cs} {gs} o e) k c empty u =
      let x = night_fits h sp M k.0 c e k.1 in
      subst (Reaching h sp n (now (history N)) cs (gs ++ (e ∷ []))) (sym x.left_over)
      (reach_event h sp n (now (history N)) cs gs (waiting h sp M) (onward_reached n o k.0 c empty u) (now (history M)) (onward_ends o) e x.rest x.order x.others)
  onward_reached n (begun o) k c empty u = onward_reached n o k.0 c empty u
  onward_reached n (ended o T) k c empty u = onward_reached n o k.0 c.0 empty u

  module _ (N M : Night) (honest : Honest h sp untold_kept M) (complete : Complete h sp M) where
    pub night_unwritten : NightUnwritten h sp N M
    night_unwritten cs gs o empty p k i numbered upto u =
        let w = night_whole N (honest_before o honest) (complete_before o complete) empty in
        unwritten h sp k (now (history N)) w.0 w.1 (omega (arith, numbered.1, numbered.3)) cs gs (onward_reached k o honest complete empty upto).0 p k i (omega arith) numbered u

    pub unlinked_unwritten : UnlinkedUnwritten h sp N M
    unlinked_unwritten cs es fs o empty upto x reads none =
        let w = night_whole N (honest_before o honest) (complete_before o complete) empty in
        unwritten_since h sp (ticket_of (book_of (now (history N)) sp)) (now (history N)) w.0 w.1 (omega arith) cs es fs
        (onward_reached (ticket_of (book_of (now (history N)) sp)) o honest complete empty upto).0 x reads none
