-- STATE answers what is so; and the ticket that a call hands out is that of the moment after it.
use Prim.Native.Nat.{ℕ, ◌+◌}
use mathlib.Core.Bool.{Bool}
use mathlib.Core.List.{List}
use mathlib.Core.Path.{◌≡◌, refl, sym, ap, ◌∙◌}
use native.Mathlib.Omega.{arith}
use Rattle.std.proofs.Common.{Result, Ok, Err}
use Rattle.pool.specs.declared.Book.{Book}
use Rattle.word.specs.Memory.{memory, holds}
use Rattle.word.specs.Writes as word
use Rattle.word.specs.Writes.{carried}
use Rattle.word.proofs.Writes.{holds_carried, memory_carried}
use Rattle.tables.specs.Roles.{Role}
use Rattle.pool.specs.Layout.{book_pages}
use Rattle.pool.specs.Book.{book_of, ticket_of, opened_of}
use Rattle.pool.specs.Booked.{tables_of}
use Rattle.pool.specs.State.{counted_of, stated_of, state_of}
use Rattle.pool.specs.declared.Space.{Space}
use Rattle.pool.specs.declared.Reason.{Reason}
use Rattle.pool.specs.declared.moment.Counts.{Counts}
use Rattle.pool.proofs.Pages.{free_count, aside_count, adds_up}
use Rattle.pool.proofs.Tickets.{ticket_sound}
use Rattle.effect.specs.Whole.{Whole}
use Rattle.effect.proofs.Wholes.{book_opens, owned}
use Rattle.tablepath.specs.Calls.{Call, call_writes}
use Rattle.tablepath.specs.Calls as calls
use Rattle.tablepath.specs.Tickets.{StateSays, StateOpened, Handed}
use Rattle.tablepath.proofs.Says.{unmap_says, protect_says}
use Rattle.tablepath.specs.Looks.{WholeBytes}
use Rattle.tablepath.proofs.Wholes.{call_leaves}

-- State ----------------------------------------------------------------------------------------------------------------------------

refused_by : (sp : Space) (y : Reason) (x : Result Book Reason) → stated_of sp x ≡ Err y → x ≡ Err y
unfolding stated_of
refused_by sp y (Ok b) e = let z : ◌≡◌ {A = ℕ} 0 1 = cc in absurd (omega arith)
refused_by sp y (Err r) e = let same : r ≡ y = cc in ap Err same

-- STATE AND ITS BOOK, of any memory
pub state_opened : (h : ℕ → Bool) (m : ℕ → ℕ) (sp : Space) → StateOpened h m sp
unfolding state_of stated_of
state_opened h m sp = record { refused = λ y. (refused_by sp y (opened_of h m sp), λ e. rw e) }

module _ {h : ℕ → Bool} {sp : Space} {m : ℕ → ℕ} {role : ℕ → Role} (w : Whole h sp m role) where
  -- WHAT STATE ANSWERS
  pub state_says : StateSays sp m role (state_of h m sp)
  unfolding state_of stated_of counted_of
  state_says = record {
    counts = counted_of sp (book_of m sp);
    answered = rw (book_opens w);
    pages = refl;
    free = sym (free_count (owned w) w.booked);
    aside = sym (aside_count (owned w) w.booked);
    tables = omega (arith, sum);
    all = omega (arith, sum);
    ticket = ticket_sound sp.pages (book_of m sp) w.booked.sound;
  }
    where
      sum : (book_of m sp).free + (book_of m sp).aside + tables_of sp role + 1 + book_pages sp.pages ≡ sp.pages
      sum = adds_up (owned w) w.booked

-- Tickets --------------------------------------------------------------------------------------------------------------------------

module _ {h : ℕ → Bool} {sp : Space} {m : ℕ → ℕ} {role : ℕ → Role} (w : Whole h sp m role) where
  -- A TICKET THAT IS HANDED OUT is that of the moment after the call
  pub handed_now : (c : Call) (t : ℕ) → Handed h m sp c t → t ≡ ticket_of (book_of (word.after m (call_writes h m sp c)) sp)
  unfolding Handed call_writes
  handed_now (calls.map q) t k = absurd k
  handed_now (calls.unmap va) t k = sym k.2 ∙ ((unmap_says w va).gone k.0 k.1).ticket
  handed_now (calls.protect va r) t k = sym k.2 ∙ ((protect_says w va r).same k.0 k.1).ticket.0
  handed_now (calls.told n) t k = absurd k

  -- STATE, asked right after, answers it too
  pub state_after : (c : Call) (t : ℕ) → Handed h m sp c t
      → (n : Counts) × (state_of h (word.after m (call_writes h m sp c)) sp ≡ Ok n) × (n.ticket ≡ t)
  state_after c t k =
      let s = state_says (call_leaves h sp m role w c).0.1 in
      (s.counts, s.answered, s.ticket ∙ sym (handed_now c t k))

-- For the bytes --------------------------------------------------------------------------------------------------------------------

-- STATE AFTER UNMAP OR PROTECT answers its ticket
pub state_after_call : (s : List ℕ) (sp : Space) (role : ℕ → Role) → WholeBytes s sp role → (c : Call) (t : ℕ) → Handed (holds s sp.origin) (memory s sp.origin) sp c t
    → (n : Counts) × (state_of (holds (carried s sp.origin (call_writes (holds s sp.origin) (memory s sp.origin) sp c)) sp.origin)
    (memory (carried s sp.origin (call_writes (holds s sp.origin) (memory s sp.origin) sp c)) sp.origin) sp ≡ Ok n) × (n.ticket ≡ t)
state_after_call s sp role w c t k =
    rw (holds_carried s sp.origin _, memory_carried s sp.origin _ (call_leaves _ sp _ role w c).1) (state_after w c t k)
