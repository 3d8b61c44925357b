-- THE STATE OF A WHOLE SPACE: it is never refused, and each number is what it says; right after unmap and protect it answers their ticket.
use Prim.Native.Nat.{ℕ}
use mathlib.Core.List.{List}
use mathlib.Core.Path.{◌≡◌, refl, ap, ◌∙◌}
use native.Mathlib.Omega.{arith}
use Rattle.word.specs.Memory.{memory}
use Rattle.pool.specs.Book.{book_of}
use Rattle.pool.specs.State.{state_of, stated_of, counted_of}
use Rattle.pool.proofs.Pages.{adds_up}
use Rattle.pool.proofs.Tickets.{ticket_sound}
use Rattle.effect.proofs.Wholes.{owned, book_opens}
use Rattle.tablepath.specs.Calls as calls
use Rattle.tablepath.specs.Tickets.{Handed}
use Rattle.tablepath.proofs.Moments.{state_after_call}
use Rattle.abi.specs.Answers.{counted_to_c}
use Rattle.abi.specs.Relied as c
use Rattle.abi.specs.Relied.{Numbers, WholeAt, space_of, granted, call_of, leaves, tp_unmap, tp_protect, tp_state}
use Rattle.abi.specs.Reasons.{StateCounts}
use Rattle.abi.proofs.Meant.{protect_meant}
use Rattle.abi.proofs.Named.{call_leaves, state_answers}
use Rattle.abi.proofs.Says.{unmap_says, protect_says}

pub state_counts : (s : List ℕ) (n : Numbers) (w : WholeAt s n) → StateCounts (tp_state s n) n (book_of (memory s n.origin) (space_of n)) w.role
unfolding counted_to_c state_of stated_of counted_of
state_counts s n w =
    rw (state_answers n w.aligned s, book_opens w.whole) (record {
      done = refl;
      pages_are = refl;
      free_are = refl;
      aside_are = refl;
      tables_are = omega (arith, adds_up (owned w.whole) w.whole.booked);
      ticket_is = ticket_sound n.pages (book_of (memory s n.origin) (space_of n)) w.whole.booked.sound;
    })

module _ (s : List ℕ) (n : Numbers) (w : WholeAt s n) where
  -- STATE AFTER UNMAP answers its ticket
  pub unmap_then_state : (base : ℕ) → (tp_unmap s n base).reason ≡ 0 → (tp_state (leaves s n (c.unmap base)) n).ticket ≡ (tp_unmap s n base).ticket
  unfolding Handed call_of counted_to_c
  unmap_then_state base e =
      let done = (unmap_says s n w.aligned base).done e in
      let k = state_after_call s (space_of n) w.role w.whole (calls.unmap base) (tp_unmap s n base).ticket (_, done, refl) in
      rw (call_leaves n w.aligned s (c.unmap base) tt) (ap (λ x. x.ticket) (state_answers n w.aligned _) ∙ rw k.1 k.2)

  -- STATE AFTER PROTECT
  pub protect_then_state : (base rights : ℕ) → (tp_protect s n base rights).reason ≡ 0
      → (tp_state (leaves s n (c.protect base rights)) n).ticket ≡ (tp_protect s n base rights).ticket
  unfolding Handed call_of counted_to_c
  protect_then_state base rights e =
      let l = protect_meant s n base rights e in
      let done = (protect_says s n w.aligned base rights l).done e in
      let k = state_after_call s (space_of n) w.role w.whole (calls.protect base (granted rights)) (tp_protect s n base rights).ticket (_, done, refl) in
      rw (call_leaves n w.aligned s (c.protect base rights) l) (ap (λ x. x.ticket) (state_answers n w.aligned _) ∙ rw k.1 k.2)
