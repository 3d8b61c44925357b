-- REFUSED EXACTLY: unmap has two reasons to refuse, that va is no address and that no page starts there, protect one more before them, the
-- rights, and each refuses exactly then; and what told refuses.
use Rattle.std.specs.Prelude.{ℕ, ◌^◌, ◌<◌, ◌≤◌, Bool, false, ◌↔◌, ◌≡◌, Ok, Err}
use Rattle.pool.specs.declared.NotDue.TheVariants as notdue
use Rattle.entry.specs.declared.Rights.{Rights}
use Rattle.pool.specs.Book.{ticket_of, due_of}
use Rattle.pool.specs.Booked.{setting_of}
use Rattle.pool.specs.declared.Book.{Book}
use Rattle.pool.specs.declared.Space.{Space}
use Rattle.plan.specs.declared.Reason.{Reason}
use Rattle.plan.specs.declared.protects.Change.{Change}
use Rattle.plan.specs.declared.unmaps.Removal.{Removal}
use Rattle.plan.specs.Protect as protect
use Rattle.plan.specs.Rights.{write_execute}
use Rattle.plan.specs.Unmap as unmap
use Rattle.effect.specs.StartsAt.{StartsAt, NotThere, NotProtected}

-- refused: it refuses exactly where no page is found, for the reason that there is; succeeds: it is done exactly where a page starts
pub record UnmapExactly (h : ℕ → Bool) (sp : Space) (m : ℕ → ℕ) (va : ℕ) : Type 0 where
  pub refused : (y : Reason) → (unmap.decide_of h m sp va ≡ Err y) ↔ NotThere (setting_of h sp) m va y
  pub succeeds : ((r : Removal) × (unmap.decide_of h m sp va ≡ Ok r)) ↔ StartsAt (setting_of h sp) m va

pub record ProtectExactly (h : ℕ → Bool) (sp : Space) (m : ℕ → ℕ) (va : ℕ) (rights : Rights) : Type 0 where
  pub refused : (y : Reason) → (protect.decide_of h m sp va rights ≡ Err y) ↔ NotProtected (setting_of h sp) m va rights y
  pub succeeds : ((c : Change) × (protect.decide_of h m sp va rights ≡ Ok c)) ↔ ((write_execute rights ≡ false) × StartsAt (setting_of h sp) m va)

-- TOLD: a ticket above the present one is unknown; one with which the numbers would run out is spent; any other is done.
pub record ToldExactly (b : Book) (t : ℕ) : Type 0 where
  pub unknown : (due_of b t ≡ Err notdue.Unknown) ↔ (ticket_of b < t)
  pub spent : (due_of b t ≡ Err notdue.Spent) ↔ ((t ≤ ticket_of b) × (2 ^ 62 < t))
  pub succeeds : ((k : ℕ) × (due_of b t ≡ Ok k)) ↔ ((t ≤ ticket_of b) × (t ≤ 2 ^ 62))
