-- Unmap is refused exactly where no page is found, protect also, and before that, for its rights; else they succeed. And which tickets are refused.
use Prim.Native.Nat.{ℕ, ◌-◌, ◌^◌, ◌<◌, ◌≤◌}
use Rattle.pool.specs.declared.NotDue.TheVariants as notdue
use mathlib.Core.Bool.{Bool, true, false, true≢false}
use mathlib.Core.Path.{◌≡◌, refl, sym, ap, ◌∙◌, subst}
use native.Mathlib.Decide.{dec_le}
use native.Mathlib.Omega.{arith}
use borrow.Author.Tests.{le-leb, lt-leb}
use Rattle.std.proofs.Common.{Result, Ok, Err}
use Rattle.entry.specs.declared.Rights.{Rights}
use Rattle.tables.specs.Roles.{Role}
use Rattle.pool.specs.Book.{AddsUp, book_of, ticket_of, ticket_in, due_of}
use Rattle.pool.specs.Booked.{setting_of}
use Rattle.pool.specs.declared.Book.{Book}
use Rattle.pool.specs.declared.Space.{Space}
use Rattle.plan.specs.declared.Reason.{Reason}
use Rattle.plan.specs.declared.Reason.TheVariants.{WriteExecute}
use Rattle.plan.specs.declared.finding.PageEntry.{PageEntry}
use Rattle.plan.specs.Find.{find_of}
use Rattle.plan.specs.Protect as protect
use Rattle.plan.specs.Rights.{write_execute}
use Rattle.effect.specs.Exactly.{UnmapExactly, ProtectExactly, ToldExactly}
use Rattle.effect.specs.StartsAt.{NotThere, NotProtected, write_execute_lem, not_there}
use Rattle.effect.specs.Whole.{Whole}
use Rattle.plan.proofs.Found.{found_at}
use Rattle.plan.proofs.Strictly.{protect_refuses, protect_searches}
use Rattle.effect.proofs.Located.{located}
use Rattle.effect.proofs.Searching.{nowhere, not_there_once, FindVerdict, there, missing, verdict}
use Rattle.effect.proofs.UnmapDone.{refused_so, unmap_decided}

-- a decision to go on, and a refusal, are two things; and of each there is one
go_no : {A : Type 0} (x : A) (y : Reason) → Ok x ≡ Err y → ⊥
go_no x y e = let z : ◌≡◌ {A = ℕ} 0 1 = cc in omega arith

one_reason : {A : Type 0} (x y : Reason) → ◌≡◌ {A = Result A Reason} (Err x) (Err y) → y ≡ x
one_reason x y e = cc

changes : (h : ℕ → Bool) (m : ℕ → ℕ) (sp : Space) (va : ℕ) (rights : Rights) (s : PageEntry) → write_execute rights ≡ false → find_of h m sp va ≡ Ok s
    → protect.decide_of h m sp va rights ≡ Ok (protect.change_of va s rights (ticket_in (book_of m sp)))
unfolding protect.changing_of
changes h m sp va rights s x f = protect_searches h m sp va rights x ∙ rw f

changes_not : (h : ℕ → Bool) (m : ℕ → ℕ) (sp : Space) (va : ℕ) (rights : Rights) (y : Reason) → write_execute rights ≡ false → find_of h m sp va ≡ Err y
    → protect.decide_of h m sp va rights ≡ Err y
unfolding protect.changing_of
changes_not h m sp va rights y x f = protect_searches h m sp va rights x ∙ rw f

module _ {h : ℕ → Bool} {sp : Space} {m : ℕ → ℕ} {role : ℕ → Role} (w : Whole h sp m role) (va : ℕ) where
  -- UNMAP
  pub unmap_exactly : UnmapExactly h sp m va
  unmap_exactly = go (verdict w va)
    where
      go : FindVerdict w va → UnmapExactly h sp m va
      go (there s f a) =
          let d = unmap_decided w va s (located w (found_at h m sp va s f)) f in
          record {
            refused = λ y. (λ e. absurd (go_no _ _ (sym d ∙ e)), λ n. absurd (nowhere (setting_of h sp) m va y n a));
            succeeds = (λ r. a, λ x. (_, d));
          }
      go (missing y f n) =
          let d = refused_so h m sp va y f in
          record {
            refused = λ x. (
              λ e. subst (NotThere (setting_of h sp) m va) (sym (one_reason y x (sym d ∙ e))) n,
              λ k. d ∙ ap Err (not_there_once (setting_of h sp) m va y x n k),
            );
            succeeds = (λ r. absurd (go_no r.0 y (sym r.1 ∙ d)), λ a. absurd (nowhere (setting_of h sp) m va y n a));
          }

  -- PROTECT
  pub protect_exactly : (rights : Rights) → ProtectExactly h sp m va rights
  protect_exactly rights = go (write_execute rights) refl (verdict w va)
    where
      -- where the rights may be given, it is refused for what was not found
      only_there : write_execute rights ≡ false → (y : Reason) → NotProtected (setting_of h sp) m va rights y → NotThere (setting_of h sp) m va y
      only_there b y (write_execute_lem x) = absurd (true≢false (sym x ∙ b))
      only_there b y (not_there z x n) = n

      only_rights : write_execute rights ≡ true → (y : Reason) → NotProtected (setting_of h sp) m va rights y → WriteExecute ≡ y
      only_rights b y (write_execute_lem x) = refl
      only_rights b y (not_there z x n) = absurd (true≢false (sym b ∙ x))

      go : (b : Bool) → write_execute rights ≡ b → FindVerdict w va → ProtectExactly h sp m va rights
      go true b v =
          let d = protect_refuses h m sp va rights b in
          record {
            refused = λ y. (
              λ e. subst (NotProtected (setting_of h sp) m va rights) (sym (one_reason WriteExecute y (sym d ∙ e))) (write_execute_lem b),
              λ k. d ∙ ap Err (only_rights b y k),
            );
            succeeds = (λ c. absurd (go_no c.0 WriteExecute (sym c.1 ∙ d)), λ a. absurd (true≢false (sym b ∙ a.0)));
          }
      go false b (there s f a) =
          let d = changes h m sp va rights s b f in
          record {
            refused = λ y. (λ e. absurd (go_no _ _ (sym d ∙ e)), λ n. absurd (nowhere (setting_of h sp) m va y (only_there b y n) a));
            succeeds = (λ c. (b, a), λ x. (_, d));
          }
      go false b (missing y f n) =
          let d = changes_not h m sp va rights y b f in
          record {
            refused = λ x. (
              λ e. subst (NotProtected (setting_of h sp) m va rights) (sym (one_reason y x (sym d ∙ e))) (not_there y b n),
              λ k. d ∙ ap Err (not_there_once (setting_of h sp) m va y x n (only_there b x k)),
            );
            succeeds = (λ c. absurd (go_no c.0 y (sym c.1 ∙ d)), λ a. absurd (nowhere (setting_of h sp) m va y n a.1));
          }

-- TOLD, by the three tests of a ticket
pub told_exactly : (pages : ℕ) (b : Book) (t : ℕ) → AddsUp pages b → ToldExactly b t
told_exactly pages b t s = go (dec_le t b.tickets) (dec_le t (ticket_of b)) (dec_le t (2 ^ 62))
  where
    -- what the answer is, and which of the three holds
    old : t ≤ b.tickets → due_of b t ≡ Ok 0
    old u = unfold due_of in rw (le-leb t b.tickets u)

    new : b.tickets < t → t ≤ ticket_of b → t ≤ 2 ^ 62 → due_of b t ≡ Ok (t - b.tickets)
    new u v x = let d : t - b.tickets ≤ b.aside = omega arith in unfold due_of in rw (lt-leb t b.tickets u, le-leb (t - b.tickets) b.aside d, le-leb t (2 ^ 62) x)

    late : b.tickets < t → t ≤ ticket_of b → 2 ^ 62 < t → due_of b t ≡ Err notdue.Spent
    late u v x = let d : t - b.tickets ≤ b.aside = omega arith in unfold due_of in rw (lt-leb t b.tickets u, le-leb (t - b.tickets) b.aside d, lt-leb t (2 ^ 62) x)

    strange : ticket_of b < t → due_of b t ≡ Err notdue.Unknown
    strange u =
        let v : b.tickets < t = omega arith in
        let d : b.aside < t - b.tickets = omega arith in
        unfold due_of in rw (lt-leb t b.tickets v, lt-leb (t - b.tickets) b.aside d)

    done : (k : ℕ) → due_of b t ≡ Ok k → t ≤ ticket_of b → t ≤ 2 ^ 62 → ToldExactly b t
    done k e u v = record {
      unknown = (λ x. let z : ◌≡◌ {A = ℕ} 0 1 = cc in absurd (omega arith), λ x. absurd (omega arith));
      spent = (λ x. let z : ◌≡◌ {A = ℕ} 0 1 = cc in absurd (omega arith), λ x. absurd (omega (arith, x.1)));
      succeeds = (λ x. (u, v), λ x. (k, e));
    }

    go : Dec (t ≤ b.tickets) → Dec (t ≤ ticket_of b) → Dec (t ≤ 2 ^ 62) → ToldExactly b t
    go (yes u) v x = done 0 (old u) (omega arith) (omega (arith, s.early))
    go (no u) (yes v) (yes x) = done (t - b.tickets) (new (omega arith) v x) v x
    go (no u) (yes v) (no x) =
        let e = late (omega arith) v (omega arith) in
        record {
          unknown = (λ y. let z : ◌≡◌ {A = ℕ} 0 1 = cc in absurd (omega arith), λ y. absurd (omega arith));
          spent = (λ y. (v, omega arith), λ y. e);
          succeeds = (λ y. let z : ◌≡◌ {A = ℕ} 0 1 = cc y.1 in absurd (omega arith), λ y. absurd (x y.1));
        }
    go (no u) (no v) x =
        let e = strange (omega arith) in
        record {
          unknown = (λ y. omega arith, λ y. e);
          spent = (λ y. let z : ◌≡◌ {A = ℕ} 0 1 = cc in absurd (omega arith), λ y. absurd (v y.0));
          succeeds = (λ y. let z : ◌≡◌ {A = ℕ} 0 1 = cc y.1 in absurd (omega arith), λ y. absurd (v y.0));
        }
