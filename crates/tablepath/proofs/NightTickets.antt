-- THE TICKETS OF A NIGHT: what a covered call handed out may be reported, and what a report releases nothing that is held reads. Statements: specs/Shown.antt.
use Prim.Native.Nat.{ℕ, ◌≤◌}
use mathlib.Core.Bool.{Bool}
use mathlib.Core.List.{List, [], ◌∷◌, ◌++◌}
use mathlib.Core.Logic.{◌⊎◌, inl, inr}
use mathlib.Core.Path.{◌≡◌, subst}
use native.Mathlib.Omega.{arith}
use Rattle.world.specs.Events.{after}
use Rattle.world.specs.Reports.{now, last, next}
use Rattle.world.proofs.Reports.{last_ends}
use Rattle.pool.specs.Book.{book_of, ticket_of}
use Rattle.pool.specs.Booked.{Numbered}
use Rattle.pool.specs.declared.Space.{Space}
use Rattle.effect.specs.Whole.{Whole}
use Rattle.tablepath.specs.Calls.{Saw, Act, wrote, Reached}
use Rattle.tablepath.specs.Tickets.{Handed}
use Rattle.tablepath.specs.Nights.{Night, dusk, calls, happens, begins, done, history, last_began, last_since, front, joined, Some, lately, due, covered, uncovered, untold_kept, waiting, code_sees, Honest, Telling, Complete}
use Rattle.tablepath.specs.Gone.{Links}
use Rattle.tablepath.specs.Shown.{CoveredTicket, UncoveredTicket, TicketCovers, ReleasedUnread}
use Rattle.tablepath.proofs.Marking.{saw_back, saw_whole}
use Rattle.tablepath.proofs.Serving.{numbered_aside}
use Rattle.tablepath.proofs.Running.{Ran, reached_ran, saw_keeps, saw_ticket}
use Rattle.tablepath.proofs.Periods.{runs_front, upto_front, later_ran, saw_later}
use Rattle.tablepath.proofs.Facts.{Facts, coming, split_calls, reach_saw}
use Rattle.tablepath.proofs.Nights.{night_facts}
use Rattle.tablepath.proofs.TableGone.{spare_unread}
use Rattle.tablepath.proofs.Numbering.{run_tickets, run_earlier}

some_split : (E : Act → Type 0) (cs ds : List Act) → Some E (cs ++ ds) → Some E cs ⊎ Some E ds
unfolding Some
some_split E [] ds s = inr s
some_split E (a ∷ cs) ds (inl x) = inl (inl x)
some_split E (a ∷ cs) ds (inr x) = elim (some_split E cs ds x) [ inl y ↦ inl (inr y) | inr y ↦ inr y ]

module _ (h : ℕ → Bool) (sp : Space) where
  pub uncovered_ticket : (N : Night) → Honest h sp untold_kept N → Complete h sp N → UncoveredTicket h sp N
  uncovered_ticket N k c t s =
      let f = night_facts h sp N k c in
      (run_tickets h sp (ticket_of (book_of (last_began N) sp)) (last_began N) f.role (uncovered N) f.whole (omega arith) f.reached.0.runs f.reached.0.upto t s).0

  pub ticket_covers : (N : Night) → Honest h sp untold_kept N → Complete h sp N → TicketCovers h sp N
  ticket_covers N k c t u none j v s =
      let x = uncovered_ticket N k c j s in
      let same : j ≡ t = omega (arith, x, u, v) in
      none (subst (λ i. Some (λ a. Handed h a.saw sp a.call i) (uncovered N)) same s)

  pub covered_ticket : (N : Night) → Honest h sp untold_kept N → Complete h sp N → CoveredTicket h sp N
  unfolding Honest Telling covered history last Some
  covered_ticket (dusk m) k c t s = absurd s
  covered_ticket (calls N a) k c t s = covered_ticket N k.0 c t s
  covered_ticket (happens N e) k c t s = covered_ticket N k.0 c t s
  covered_ticket (begins N) k c t s = covered_ticket N k.0 c t s
  covered_ticket (done N T) (k, D, Ds, e) c t s = go (covered_ticket N k c.0 t) (some_split _ (covered N) (front (due N)) s)
    where
      f : Facts h sp N
      f = night_facts h sp N k c.0

      n : ℕ
      n = ticket_of (book_of (last_began N) sp)

      r : Reached h sp n (last_began N) (D ++ (joined Ds ++ lately N)) (last_since N)
      r = (split_calls h sp N T D Ds e f).0

      ran : Ran h sp n (last_began N) D
      ran = later_ran h sp (last (history N)) (next (history N)) D (joined Ds ++ lately N) (coming h sp N D Ds e f).later f.role f.whole r

      same : ticket_of (book_of (after (last_began N) (wrote h sp D)) sp) ≡ ticket_of (book_of (next (history N)).began sp)
      same = saw_ticket h sp ran.whole (saw_later h sp (last (history N)) (next (history N)) D (joined Ds ++ lately N) (coming h sp N D Ds e f).later f.role f.whole r)

      go : (Some (λ a. Handed h a.saw sp a.call t) (covered N) → t ≤ n) → Some (λ a. Handed h a.saw sp a.call t) (covered N) ⊎ Some (λ a. Handed h a.saw sp a.call t) (front (due N))
          → t ≤ ticket_of (book_of (next (history N)).began sp)
      go before (inl x) = omega (arith, before x, same, ran.ticket)
      go before (inr x) =
          let b = run_tickets h sp n (last_began N) f.role D f.whole (omega arith) (runs_front h sp D (joined Ds ++ lately N) (last_began N) r.runs)
          (upto_front n D (joined Ds ++ lately N) r.upto) t (subst (λ l. Some (λ a. Handed h a.saw sp a.call t) (front l)) e x) in
          omega (arith, b.1, same)

  pub released_unread : (N : Night) → Honest h sp untold_kept N → Complete h sp N → ReleasedUnread h sp N
  released_unread N k c p j numbered u = spare_unread h sp p N k c (inr (numbered_aside f.whole.booked p j before.0)) before.1
    where
      f : Facts h sp N
      f = night_facts h sp N k c

      n : ℕ
      n = ticket_of (book_of (last_began N) sp)

      ran : Ran h sp n (last_began N) (uncovered N)
      ran = reached_ran h sp n (last_began N) f.role f.whole (omega arith) (uncovered N) (last_since N) f.reached.0

      saw : Saw sp (after (last_began N) (wrote h sp (uncovered N))) (code_sees h sp N)
      saw = reach_saw h sp n (last_began N) (uncovered N) (last_since N) (waiting h sp N) f.reached (now (history N)) (last_ends (history N))

      before : Numbered (last_began N) sp p j × ¬ Some (Links h sp p) (uncovered N)
      before = run_earlier h sp n (last_began N) f.role (uncovered N) f.whole (omega arith) f.reached.0.runs f.reached.0.upto p j
          ((saw_keeps h sp (seen_whole_now) (saw_back sp saw)).numbers p j numbered) u
        where
          seen_whole_now : Whole h sp (code_sees h sp N) ran.role
          seen_whole_now = saw_whole h sp saw ran.whole
