-- NUMBERS AND TICKETS ALONG A RUN: no ticket falls, a call hands out the ticket of the moment after it, and a page with a number below the first ticket had
-- that number from the beginning, so that no call linked it.
use Prim.Native.Nat.{ℕ, ◌<◌, ◌≤◌}
use mathlib.Core.Bool.{Bool}
use mathlib.Core.List.{List, [], ◌∷◌, ◌++◌}
use mathlib.Core.Logic.{inl, inr}
use mathlib.Core.Path.{◌≡◌, sym, ap, ◌∙◌, subst}
use native.Mathlib.Omega.{arith}
use Rattle.word.specs.Writes as word
use Rattle.world.specs.Events.{Event, after}
use Rattle.world.proofs.Events.{after_append}
use Rattle.tables.specs.Roles.{Role, free}
use Rattle.tables.proofs.Clearing.{events_after}
use Rattle.pool.specs.Book.{book_of, ticket_of}
use Rattle.pool.specs.Booked.{Numbered}
use Rattle.pool.specs.declared.Space.{Space}
use Rattle.effect.specs.Whole.{Whole}
use Rattle.tablepath.specs.Calls.{Within, call_writes, Saw, Act, act_writes, wrote, Runs, UpTo}
use Rattle.tablepath.specs.Tickets.{Handed}
use Rattle.tablepath.specs.Nights.{Some}
use Rattle.tablepath.specs.Gone.{Links}
use Rattle.tablepath.proofs.Marking.{saw_back}
use Rattle.tablepath.proofs.Serving.{numbered_aside}
use Rattle.tablepath.proofs.Says.{map_says}
use Rattle.tablepath.proofs.Moments.{handed_now}
use Rattle.tablepath.proofs.Running.{act_served, act_whole, act_ticket, seen_whole, saw_act, saw_keeps, saw_ticket}
use Rattle.tablepath.proofs.Periods.{within_less}

module _ (h : ℕ → Bool) (sp : Space) where
  module _ (n : ℕ) (m : ℕ → ℕ) (role : ℕ → Role) (w : Whole h sp m role) (u : n ≤ ticket_of (book_of m sp)) (a : Act) (saw : Saw sp m a.saw) (within : Within n a.call) where
    abbrev es : List (Event ℕ)
    es = act_writes h sp a

    -- the memories after it, as it was planned and as it is
    saw_end : Saw sp (word.after a.saw (call_writes h a.saw sp a.call)) (after m es)
    saw_end = subst (λ x. Saw sp x (after m es)) (events_after a.saw _) (saw_act h sp n m role w u a saw within)

    act_rises : ticket_of (book_of m sp) ≤ ticket_of (book_of (after m es) sp)
    act_rises = act_ticket h sp (ticket_of (book_of m sp)) m role w (omega arith) a saw (within_less n (ticket_of (book_of m sp)) a.call u within)

    -- A CALL HANDS OUT THE TICKET OF THE MOMENT AFTER IT.
    pub handed_then : (t : ℕ) → Handed h a.saw sp a.call t → t ≡ ticket_of (book_of (after m (act_writes h sp a)) sp)
    handed_then t k =
        handed_now (seen_whole h sp n m role w u a saw within) a.call t k ∙ saw_ticket h sp (act_served h sp n m role w u a saw within).whole saw_end

    -- A PAGE WITH A NUMBER BELOW THE TICKET had it before, and the call did not link it.
    act_earlier : (p k : ℕ) → Numbered (after m es) sp p k → k < ticket_of (book_of m sp) → Numbered m sp p k × ¬ Links h sp p a
    act_earlier p k e v = ((saw_keeps h sp seen (saw_back sp saw)).numbers p k was, links)
      where
        seen : Whole h sp a.saw role
        seen = seen_whole h sp n m role w u a saw within

        planned : Numbered (word.after a.saw (call_writes h a.saw sp a.call)) sp p k
        planned = (saw_keeps h sp (act_whole h sp n m role w u a saw within) (saw_back sp saw_end)).numbers p k e

        was : Numbered a.saw sp p k
        was = (act_served h sp n m role w u a saw within).earlier p k planned (omega (arith, saw_ticket h sp w saw))

        links : ¬ Links h sp p a
        links l =
            let d = (map_says seen l.asked).made l.tables l.is_done in
            let is_free : role p ≡ free = ap role (sym l.is_page) ∙ seen.booked.lists.frees l.number (omega (arith, l.taken, d.fewer)) in
            let z : ◌≡◌ {A = ℕ} 0 1 = cc (is_free, numbered_aside seen.booked p k was) in
            omega arith

  -- A run -----------------------------------------------------------------------------------------------------------------------------------

  pub run_rises : (n : ℕ) (m : ℕ → ℕ) (role : ℕ → Role) (cs : List Act) → Whole h sp m role → n ≤ ticket_of (book_of m sp) → Runs h sp m cs → UpTo n cs
      → ticket_of (book_of m sp) ≤ ticket_of (book_of (after m (wrote h sp cs)) sp)
  unfolding wrote Runs UpTo after
  run_rises n m role [] w u r t = omega arith
  run_rises n m role (a ∷ cs) w u r t =
      let next = run_rises n (after m (act_writes h sp a)) (act_served h sp n m role w u a r.0 t.0).role cs (act_whole h sp n m role w u a r.0 t.0)
      (act_ticket h sp n m role w u a r.0 t.0) r.1 t.1 in
      let list : ticket_of (book_of (after m (act_writes h sp a ++ wrote h sp cs)) sp) ≡ ticket_of (book_of (after (after m (act_writes h sp a)) (wrote h sp cs)) sp) = ap (λ x. ticket_of (book_of x sp)) (after_append (act_writes h sp a) (wrote h sp cs) m) in
      omega (arith, act_rises n m role w u a r.0 t.0, next, list)

  -- what the calls handed out lies between the first ticket and the last
  pub run_tickets : (n : ℕ) (m : ℕ → ℕ) (role : ℕ → Role) (cs : List Act) → Whole h sp m role → n ≤ ticket_of (book_of m sp) → Runs h sp m cs → UpTo n cs
      → (j : ℕ) → Some (λ a. Handed h a.saw sp a.call j) cs → (ticket_of (book_of m sp) ≤ j) × (j ≤ ticket_of (book_of (after m (wrote h sp cs)) sp))
  unfolding wrote Runs UpTo Some
  run_tickets n m role [] w u r t j s = absurd s
  run_tickets n m role (a ∷ cs) w u r t j s = elim s [
    | inl k ↦ let e = handed_then n m role w u a r.0 t.0 j k in (omega (arith, rises), omega (arith, list, rest))
    | inr k ↦ let b = run_tickets n (after m (act_writes h sp a)) served cs whole above r.1 t.1 j k in (omega (arith, rises, b.0), omega (arith, list, b.1))
  ]
    where
      served : ℕ → Role
      served = (act_served h sp n m role w u a r.0 t.0).role

      whole : Whole h sp (after m (act_writes h sp a)) served
      whole = act_whole h sp n m role w u a r.0 t.0

      above : n ≤ ticket_of (book_of (after m (act_writes h sp a)) sp)
      above = act_ticket h sp n m role w u a r.0 t.0

      rises : ticket_of (book_of m sp) ≤ ticket_of (book_of (after m (act_writes h sp a)) sp)
      rises = act_rises n m role w u a r.0 t.0

      rest : ticket_of (book_of (after m (act_writes h sp a)) sp) ≤ ticket_of (book_of (after (after m (act_writes h sp a)) (wrote h sp cs)) sp)
      rest = run_rises n (after m (act_writes h sp a)) served cs whole above r.1 t.1

      list : ticket_of (book_of (after m (act_writes h sp a ++ wrote h sp cs)) sp) ≡ ticket_of (book_of (after (after m (act_writes h sp a)) (wrote h sp cs)) sp)
      list = ap (λ x. ticket_of (book_of x sp)) (after_append (act_writes h sp a) (wrote h sp cs) m)

  -- OF TWO TICKETS that are handed out in a run the later one is no smaller.
  pub handed_later : (n : ℕ) (m : ℕ → ℕ) (role : ℕ → Role) (a : Act) (cs : List Act) → Whole h sp m role → n ≤ ticket_of (book_of m sp) → Runs h sp m (a ∷ cs)
      → UpTo n (a ∷ cs) → (i j : ℕ) → Handed h a.saw sp a.call i → Some (λ b. Handed h b.saw sp b.call j) cs → i ≤ j
  unfolding Runs UpTo
  handed_later n m role a cs w u r t i j k s =
      let later = run_tickets n (after m (act_writes h sp a)) (act_served h sp n m role w u a r.0 t.0).role cs (act_whole h sp n m role w u a r.0 t.0)
      (act_ticket h sp n m role w u a r.0 t.0) r.1 t.1 j s in
      omega (arith, handed_then n m role w u a r.0 t.0 i k, later.0)

  pub run_earlier : (n : ℕ) (m : ℕ → ℕ) (role : ℕ → Role) (cs : List Act) → Whole h sp m role → n ≤ ticket_of (book_of m sp) → Runs h sp m cs → UpTo n cs
      → (p k : ℕ) → Numbered (after m (wrote h sp cs)) sp p k → k < ticket_of (book_of m sp) → Numbered m sp p k × ¬ Some (Links h sp p) cs
  unfolding wrote Runs UpTo Some after
  run_earlier n m role [] w u r t p k e v = (e, λ x. x)
  run_earlier n m role (a ∷ cs) w u r t p k e v =
      let rest = run_earlier n (after m (act_writes h sp a)) (act_served h sp n m role w u a r.0 t.0).role cs (act_whole h sp n m role w u a r.0 t.0)
      (act_ticket h sp n m role w u a r.0 t.0) r.1 t.1 p k (subst (λ x. Numbered x sp p k) (after_append (act_writes h sp a) (wrote h sp cs) m) e)
      (omega (arith, act_rises n m role w u a r.0 t.0)) in
      let one = act_earlier n m role w u a r.0 t.0 p k rest.0 v in
      (one.0, λ x. elim x [ inl y ↦ one.1 y | inr y ↦ rest.1 y ])
