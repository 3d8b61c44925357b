-- What a call shows: what holds between operations holds after it, and its writes obey from the ticket n on.
use Prim.Native.Nat.{ℕ, ◌/◌, ◌<◌, ◌≤◌}
use mathlib.Core.Bool.{Bool}
use mathlib.Core.List.{List}
use mathlib.Core.Logic.{◌≢◌}
use mathlib.Core.Path.{◌≡◌, sym, ap, ◌∙◌}
use native.Mathlib.Omega.{arith}
use Rattle.word.specs.Writes.{Write, after}
use Rattle.walk.specs.declared.Found.{Found}
use Rattle.world.specs.Events.{Among, All}
use Rattle.world.proofs.Events.{all_map}
use Rattle.world.specs.Rules.{Obeys}
use Rattle.world.specs.Frozen.{SomeReads}
use Rattle.world.proofs.Frozen.{obeys_from, among_none}
use Rattle.tables.specs.Roles.{Role, aside, left, Built}
use Rattle.tables.specs.Discipline.{Aside, walker_of}
use Rattle.tables.proofs.Discipline.{Unread}
use Rattle.tables.specs.Clearing.{events_of}
use Rattle.tables.specs.Operation.{Moment, Changed}
use Rattle.tables.proofs.Operation.{changed_unread}
use Rattle.tables.proofs.Walks.{laws_of}
use Rattle.pool.specs.Book.{book_of, ticket_of}
use Rattle.pool.specs.Booked.{setting_of, Booked, Numbered}
use Rattle.pool.specs.declared.Space.{Space}
use Rattle.pool.proofs.Releasing.{has_number}
use Rattle.effect.specs.Whole.{Whole}
use Rattle.tablepath.specs.Calls.{From}
use Rattle.effect.specs.Numbers.{KeepsNumbers}
use Rattle.effect.proofs.Numbers.{earlier_number, later_number}

-- a numbered page is set aside
pub numbered_aside : {sp : Space} {m : ℕ → ℕ} {role : ℕ → Role} → Booked sp m role → (p k : ℕ) → Numbered m sp p k → role p ≡ aside
numbered_aside {role = role} b p k h = ap role (sym h.2) ∙ b.lists.asides h.0 h.1

-- the tables are built, with some roles
abbrev pub IsBuilt : (ℕ → Bool) → Space → (ℕ → ℕ) → Type 0
IsBuilt h sp x = (role : ℕ → Role) × Built (setting_of h sp) x role

-- WHAT A CALL SHOWS. earlier: a page with a number below the ticket had it before.
pub record Served (h : ℕ → Bool) (sp : Space) (n : ℕ) (m : ℕ → ℕ) (ws : List Write) : Type 0 where
  pub role : ℕ → Role
  pub whole : Whole h sp (after m ws) role
  pub obeys : Obeys (walker_of (setting_of h sp)) (From sp n m) m (events_of ws) (From sp n (after m ws))
  pub ticket : n ≤ ticket_of (book_of (after m ws) sp)
  pub built : All m (events_of ws) (IsBuilt h sp)
  pub earlier : (p k : ℕ) → Numbered (after m ws) sp p k → k < ticket_of (book_of m sp) → Numbered m sp p k

-- AN OPERATION THAT CHANGES THE MEANING serves
pub changed_serves : {h : ℕ → Bool} {sp : Space} {n : ℕ} {m : ℕ → ℕ} {role role' : ℕ → Role} {va l : ℕ} {o : Found} {ws : List Write} → Whole h sp m role
    → n ≤ ticket_of (book_of m sp) → Changed (setting_of h sp) m role va l o ws (after m ws) role' → Whole h sp (after m ws) role' → KeepsNumbers sp m (after m ws)
    → Served h sp n m ws
changed_serves {h} {sp} {n} {m} {role} {role'} {ws = ws} w u c w' k = record {
  role = role';
  whole = w';
  obeys = obeys_from (walker_of (setting_of h sp)) (laws_of (setting_of h sp)) (events_of ws) (From sp n m) (From sp n (after m ws)) (Aside role) (Aside role') m c.obeys
      (λ x f. numbered_aside w.booked (x / 512) f.0 f.2)
      (λ x f. (f.0, f.1, k.numbers (x / 512) f.0 f.2))
      new;
  ticket = omega (arith, k.tickets, k.more);
  built = all_map (events_of ws) m (Moment (setting_of h sp) role role') (IsBuilt h sp) (λ x t. (t.roles, t.built)) c.moments;
  earlier = earlier_number k;
}
  where
    -- what the operation froze, it set aside itself
    new : (x : ℕ) → Aside role' x → Among m (events_of ws) (SomeReads (walker_of (setting_of h sp)) x) → From sp n (after m ws) x
    new x e r =
        let g = has_number w'.booked (x / 512) e in
        let late = later_number k (x / 512) g.0 g.1 (λ j q. unread (numbered_aside w.booked (x / 512) j q)) in
        (g.0, omega arith, g.1)
      where
        unread : role (x / 512) ≢ aside
        unread a =
            among_none (events_of ws) m (SomeReads (walker_of (setting_of h sp)) x)
            (all_map (events_of ws) m (Unread (setting_of h sp) x) (λ y. ¬ SomeReads (walker_of (setting_of h sp)) x y) (λ y p q. p q.0 q.1)
            (changed_unread c x (ap left a) (ap left e))) r
