-- EACH REASON EXACTLY WHEN ITS CAUSE HOLDS, by its number, in a space that is whole; and numbers that name no space, for any bytes.
use Prim.Native.Nat.{ℕ, ◌<◌, ◌≤◌}
use Rattle.pool.specs.declared.NotDue.TheVariants as notdue
use mathlib.Core.Bool.{Bool, true, false, true≢false, cond}
use mathlib.Core.List.{List}
use mathlib.Core.Logic.{◌↔◌, ◌⊎◌, inl, inr, ◌≢◌}
use mathlib.Core.Path.{◌≡◌, refl, sym, ap, ◌∙◌}
use native.Mathlib.Omega.{arith}
use lib.ListN.{length}
use borrow.Author.Tests.{eq-eqb, ne_eqb}
use Rattle.std.proofs.Common.{Result, Ok, Err}
use Rattle.pool.specs.declared.NotDue.{NotDue}
use Rattle.word.specs.Memory.{memory, holds}
use Rattle.entry.specs.declared.Rights.{Rights}
use Rattle.walk.specs.Walk.{canonical}
use Rattle.tables.specs.Roles.{Setting}
use Rattle.pool.specs.Book.{book_of, due_of}
use Rattle.pool.specs.Booked.{setting_of}
use Rattle.pool.specs.declared.Book.{Book}
use Rattle.plan.specs.Map as map
use Rattle.plan.specs.Map.{Placed, shape_of, strict_of, allowed_of}
use Rattle.plan.specs.Protect as protect
use Rattle.plan.specs.Rights.{write_execute}
use Rattle.plan.specs.declared.Reason.{Reason}
use Rattle.plan.specs.declared.Reason.TheVariants.{BaseRange, NothingStarts, WriteExecute}
use Rattle.plan.specs.declared.protects.Change.{Change}
use Rattle.plan.specs.declared.unmaps.Removal.{Removal}
use Rattle.effect.specs.MapRefused.{Cause}
use Rattle.effect.specs.StartsAt.{StartsAt, NotThere, no_address, none_starts, NotProtected, write_execute_lem, not_there}
use Rattle.effect.proofs.MapRefused.{map_refused}
use Rattle.effect.proofs.Exactly.{unmap_exactly, protect_exactly, told_exactly}
use Rattle.effect.proofs.Wholes.{book_opens}
use Rattle.tablepath.specs.Answers as the
use Rattle.abi.specs.ReasonNumbers as why
use Rattle.abi.specs.ReasonNumbers.{reason_of, number_of}
use Rattle.abi.specs.Answers.{rights_in, mapped_to_c, unmapped_to_c, protected_to_c, told_to_c}
use Rattle.abi.specs.Calls.{site_of, asked_site, shaped_site, strict_site, map_site, protect_site, ask, create_answer, map_answer, unmap_answer, protect_answer, told_answer}
use Rattle.abi.specs.Relied as c
use Rattle.abi.specs.Relied.{Numbers, space_of, asked, granted, WholeAt, Call, KnownRights, reason, tp_create, tp_map, tp_unmap, tp_protect, tp_told}
use Rattle.abi.specs.Reasons.{MapReasons, StartReasons, ProtectReasons, ToldReasons, WellShaped, AsksBoth, SiteReasons, CreateReasons}
use Rattle.abi.proofs.Named.{rights_granted, map_answers, unmap_answers, protect_answers, told_answers}
use Rattle.abi.proofs.Meant.{below_8, meant, rights_causes, map_given, protect_given}
use Rattle.abi.proofs.Reasons.{one_reason, never_done, never_rights}

-- Answers by decisions -----------------------------------------------------------------------------------------------------------------

map_number : (d : Placed) (y : Reason) → ((mapped_to_c (the.map_said d)).reason ≡ reason_of y) ↔ (d ≡ map.Refused y)
unfolding mapped_to_c the.map_said
map_number (map.Go p) y = (λ e. absurd (never_done y (sym e)), λ e. let z : ◌≡◌ {A = ℕ} 0 1 = cc in absurd (omega arith))
map_number (map.Refused x) y = (λ e. ap map.Refused (one_reason x y e), λ e. let same : x ≡ y = cc in ap reason_of same)

unmap_number : (b : Book) (d : Result Removal Reason) (y : Reason) → ((unmapped_to_c (the.unmap_said b d)).reason ≡ reason_of y) ↔ (d ≡ Err y)
unfolding unmapped_to_c the.unmap_said
unmap_number b (Ok p) y = (λ e. absurd (never_done y (sym e)), λ e. let z : ◌≡◌ {A = ℕ} 0 1 = cc in absurd (omega arith))
unmap_number b (Err x) y = (λ e. ap Err (one_reason x y e), λ e. let same : x ≡ y = cc in ap reason_of same)

unmap_zero : (b : Book) (d : Result Removal Reason) → ((unmapped_to_c (the.unmap_said b d)).reason ≡ 0) ↔ ((r : Removal) × (d ≡ Ok r))
unfolding unmapped_to_c the.unmap_said
unmap_zero b (Ok p) = (λ e. (p, refl), λ k. refl)
unmap_zero b (Err x) = (λ e. absurd (never_done x e), λ k. let z : ◌≡◌ {A = ℕ} 0 1 = cc k.1 in absurd (omega arith))

protect_number : (d : Result Change Reason) (y : Reason) → ((protected_to_c (the.protect_said d)).reason ≡ reason_of y) ↔ (d ≡ Err y)
unfolding protected_to_c the.protect_said
protect_number (Ok p) y = (λ e. absurd (never_done y (sym e)), λ e. let z : ◌≡◌ {A = ℕ} 0 1 = cc in absurd (omega arith))
protect_number (Err x) y = (λ e. ap Err (one_reason x y e), λ e. let same : x ≡ y = cc in ap reason_of same)

protect_zero : (d : Result Change Reason) → ((protected_to_c (the.protect_said d)).reason ≡ 0) ↔ ((g : Change) × (d ≡ Ok g))
unfolding protected_to_c the.protect_said
protect_zero (Ok p) = (λ e. (p, refl), λ k. refl)
protect_zero (Err x) = (λ e. absurd (never_done x e), λ k. let z : ◌≡◌ {A = ℕ} 0 1 = cc k.1 in absurd (omega arith))

-- two equivalences, one after the other
along : {A B D : Type 0} → A ↔ B → B ↔ D → A ↔ D
along f g = (λ a. g.0 (f.0 a), λ d. f.1 (g.1 d))

-- why no page is found, as two equivalences
no_address_is : {σ : Setting} {m : ℕ → ℕ} {va : ℕ} → NotThere σ m va BaseRange ↔ (canonical va ≡ false)
no_address_is {σ} {m} {va} = (λ k. go BaseRange k refl, no_address)
  where
    go : (y : Reason) → NotThere σ m va y → y ≡ BaseRange → canonical va ≡ false
    go y (no_address u) e = u
    go y (none_starts u n) e = let z : ◌≡◌ {A = ℕ} 0 1 = cc in absurd (omega arith)

none_starts_is : {σ : Setting} {m : ℕ → ℕ} {va : ℕ} → NotThere σ m va NothingStarts ↔ ((canonical va ≡ true) × (¬ StartsAt σ m va))
none_starts_is {σ} {m} {va} = (λ k. go NothingStarts k refl, λ k. none_starts k.0 k.1)
  where
    go : (y : Reason) → NotThere σ m va y → y ≡ NothingStarts → (canonical va ≡ true) × (¬ StartsAt σ m va)
    go y (none_starts u n) e = (u, n)
    go y (no_address u) e = let z : ◌≡◌ {A = ℕ} 0 1 = cc in absurd (omega arith)

-- why protect is refused, as three
module _ {σ : Setting} {m : ℕ → ℕ} {va : ℕ} {r : Rights} where
  both_is : NotProtected σ m va r WriteExecute ↔ (write_execute r ≡ true)
  both_is = (λ k. go WriteExecute k refl, write_execute_lem)
    where
      go : (y : Reason) → NotProtected σ m va r y → y ≡ WriteExecute → write_execute r ≡ true
      go y (write_execute_lem x) e = x
      go y (not_there z x n) e = absurd (not_there_both y n e)
        where
          not_there_both : (y : Reason) → NotThere σ m va y → y ≡ WriteExecute → ⊥
          not_there_both y (no_address u) e = let z : ◌≡◌ {A = ℕ} 0 1 = cc in omega arith
          not_there_both y (none_starts u n) e = let z : ◌≡◌ {A = ℕ} 0 1 = cc in omega arith

  found_not : (y : Reason) → y ≢ WriteExecute → NotProtected σ m va r y ↔ ((write_execute r ≡ false) × NotThere σ m va y)
  found_not y other = (λ k. go y other k, λ k. not_there y k.0 k.1)
    where
      go : (y : Reason) → y ≢ WriteExecute → NotProtected σ m va r y → (write_execute r ≡ false) × NotThere σ m va y
      go y other (write_execute_lem x) = absurd (other refl)
      go y other (not_there z x n) = (x, n)

-- In a space that is whole ---------------------------------------------------------------------------------------------------------------

module _ (s : List ℕ) (n : Numbers) (w : WholeAt s n) where
  -- MAP
  module _ (base frame size rights : ℕ) where
    map_by : rights < 8 → (y : Reason) → ((tp_map s n base frame size rights).reason ≡ reason_of y)
        ↔ Cause (holds s n.origin) (space_of n) (memory s n.origin) (asked base frame size rights) y
    unfolding the.map_answer
    map_by l y = rw (map_answers n w.aligned s base frame size rights l) (along (map_number _ y) (map_refused w.whole (asked base frame size rights) y))

    map_for : (y : Reason) → ((tp_map s n base frame size rights).reason ≡ reason_of y)
        ↔ ((rights < 8) × Cause (holds s n.origin) (space_of n) (memory s n.origin) (asked base frame size rights) y)
    map_for y = (λ e. let l = map_given s n base frame size rights (reason_of y) e (never_rights y) in (l, (map_by l y).0 e), λ k. (map_by k.0 y).1 k.1)

    known : rights < 8 → ((tp_map s n base frame size rights).reason ≡ 0) ⊎ ((y : Reason) × ((tp_map s n base frame size rights).reason ≡ reason_of y))
    unfolding the.map_answer mapped_to_c the.map_said
    known l = rw (map_answers n w.aligned s base frame size rights l) (go (map.decide_of (holds s n.origin) (memory s n.origin) (space_of n) (asked base frame size rights)))
      where
        go : (d : Placed) → ((mapped_to_c (the.map_said d)).reason ≡ 0) ⊎ ((y : Reason) × ((mapped_to_c (the.map_said d)).reason ≡ reason_of y))
        go (map.Go p) = inl refl
        go (map.Refused y) = inr (y, refl)

    pub map_causes : MapReasons (tp_map s n base frame size rights).reason rights
        (Cause (holds s n.origin) (space_of n) (memory s n.origin) (asked base frame size rights))
    unfolding reason
    map_causes = record {
      rights_mean = (λ e. go e (below_8 rights), λ l. rights_causes s n (c.map base frame size rights) (omega (arith, l)));
      refused = map_for;
      known = known;
    }
      where
        go : (tp_map s n base frame size rights).reason ≡ number_of why.rights → (rights < 8) ⊎ (8 ≤ rights) → 8 ≤ rights
        go e (inl l) = absurd (not_rights (known l))
          where
            not_rights : ((tp_map s n base frame size rights).reason ≡ 0) ⊎ ((y : Reason) × ((tp_map s n base frame size rights).reason ≡ reason_of y)) → ⊥
            not_rights (inl z) = omega (arith, e, z)
            not_rights (inr k) = never_rights k.0 (sym k.1 ∙ e)
        go e (inr l) = l

  -- UNMAP
  pub unmap_causes : (base : ℕ) → StartReasons (tp_unmap s n base).reason base (StartsAt (setting_of (holds s n.origin) (space_of n)) (memory s n.origin) base)
  unfolding the.unmap_answer
  unmap_causes base =
      let k = unmap_exactly w.whole base in
      rw (unmap_answers n w.aligned s base) (record {
        done = along (unmap_zero (book_of (memory s n.origin) (space_of n)) _) k.succeeds;
        base_range = along (unmap_number (book_of (memory s n.origin) (space_of n)) _ BaseRange) (along (k.refused BaseRange) no_address_is);
        nothing_starts = along (unmap_number (book_of (memory s n.origin) (space_of n)) _ NothingStarts) (along (k.refused NothingStarts) none_starts_is);
      })

  -- PROTECT
  module _ (base rights : ℕ) where
    abbrev Starts : Type 0
    Starts = StartsAt (setting_of (holds s n.origin) (space_of n)) (memory s n.origin) base

    protect_by : rights < 8 → (y : Reason) → ((tp_protect s n base rights).reason ≡ reason_of y)
        ↔ NotProtected (setting_of (holds s n.origin) (space_of n)) (memory s n.origin) base (granted rights) y
    unfolding the.protect_answer
    protect_by l y = rw (protect_answers n w.aligned s base rights l) (along (protect_number _ y) ((protect_exactly w.whole base (granted rights)).refused y))

    done_by : rights < 8 → ((tp_protect s n base rights).reason ≡ 0) ↔ ((write_execute (granted rights) ≡ false) × Starts)
    unfolding the.protect_answer
    done_by l = rw (protect_answers n w.aligned s base rights l) (along (protect_zero _) (protect_exactly w.whole base (granted rights)).succeeds)

    -- an answer k of which this is so where the rights mean something
    of_known : {A : Type 0} (k : ℕ) → k ≢ number_of why.rights → (rights < 8 → ((tp_protect s n base rights).reason ≡ k) ↔ A) → ((tp_protect s n base rights).reason ≡ k) ↔ ((rights < 8) × A)
    of_known k other f = (λ e. let l = protect_given s n base rights k e other in (l, (f l).0 e), λ a. (f a.0).1 a.1)

    -- no page was found: the rights are not both
    missed : (y : Reason) → y ≢ WriteExecute → {A : Type 0} → NotThere (setting_of (holds s n.origin) (space_of n)) (memory s n.origin) base y ↔ A
        → ((tp_protect s n base rights).reason ≡ reason_of y) ↔ (((rights < 8) × (write_execute (granted rights) ≡ false)) × A)
    missed y other f =
        let k = of_known (reason_of y) (never_rights y) (λ l. along (protect_by l y) (found_not y other)) in
        (λ e. let a = k.0 e in ((a.0, a.1.0), f.0 a.1.1), λ a. k.1 (a.0.0, (a.0.1, f.1 a.1)))

    not_rights : rights < 8 → (tp_protect s n base rights).reason ≢ number_of why.rights
    unfolding the.protect_answer protected_to_c the.protect_said
    not_rights l = rw (protect_answers n w.aligned s base rights l) (go (protect.decide_of (holds s n.origin) (memory s n.origin) (space_of n) base (granted rights)))
      where
        go : (d : Result Change Reason) → (protected_to_c (the.protect_said d)).reason ≢ number_of why.rights
        go (Ok p) e = omega (arith, e)
        go (Err y) e = never_rights y e

    pub protect_causes : ProtectReasons (tp_protect s n base rights).reason rights base (StartsAt (setting_of (holds s n.origin) (space_of n)) (memory s n.origin) base)
    unfolding reason
    protect_causes = record {
      rights_mean = (λ e. go e (below_8 rights), λ l. rights_causes s n (c.protect base rights) (omega (arith, l)));
      write_execute_lem = of_known (reason_of WriteExecute) (never_rights WriteExecute) (λ l. along (protect_by l WriteExecute) both_is);
      done = let k = of_known 0 (λ e. omega (arith, e)) done_by in (λ e. let a = k.0 e in ((a.0, a.1.0), a.1.1), λ a. k.1 (a.0.0, (a.0.1, a.1)));
      base_range = missed BaseRange (λ e. let z : ◌≡◌ {A = ℕ} 0 1 = cc in omega arith) no_address_is;
      nothing_starts = missed NothingStarts (λ e. let z : ◌≡◌ {A = ℕ} 0 1 = cc in omega arith) none_starts_is;
    }
      where
        go : (tp_protect s n base rights).reason ≡ number_of why.rights → (rights < 8) ⊎ (8 ≤ rights) → 8 ≤ rights
        go e (inl l) = absurd (not_rights l e)
        go e (inr l) = l

  -- TOLD
  pub told_causes : (ticket : ℕ) → ToldReasons (tp_told s n ticket).reason (book_of (memory s n.origin) (space_of n)) ticket
  unfolding the.told_answer the.told_said the.due_said told_to_c
  told_causes ticket =
      let k = told_exactly n.pages (book_of (memory s n.origin) (space_of n)) ticket w.whole.booked.sound in
      rw (told_answers n w.aligned s ticket, book_opens w.whole) (record {
        done = along (zero (due_of (book_of (memory s n.origin) (space_of n)) ticket)) k.succeeds;
        unknown = along (strange (due_of (book_of (memory s n.origin) (space_of n)) ticket)) k.unknown;
        spent = along (late (due_of (book_of (memory s n.origin) (space_of n)) ticket)) k.spent;
      })
    where
      none : {A : Type 0} → ◌≡◌ {A = ℕ} 0 1 → A
      none z = absurd (omega arith)

      zero : (d : Result ℕ NotDue) → ((told_to_c (the.due_said d)).reason ≡ 0) ↔ ((k : ℕ) × (d ≡ Ok k))
      zero (Ok k) = (λ e. (k, refl), λ x. refl)
      zero (Err notdue.Unknown) = (λ e. absurd (omega arith), λ x. none (cc x.1))
      zero (Err notdue.Spent) = (λ e. absurd (omega arith), λ x. none (cc x.1))

      strange : (d : Result ℕ NotDue) → ((told_to_c (the.due_said d)).reason ≡ number_of why.unknown) ↔ (d ≡ Err notdue.Unknown)
      strange (Ok k) = (λ e. absurd (omega arith), λ e. none cc)
      strange (Err notdue.Unknown) = (λ e. refl, λ e. refl)
      strange (Err notdue.Spent) = (λ e. absurd (omega arith), λ e. none cc)

      late : (d : Result ℕ NotDue) → ((told_to_c (the.due_said d)).reason ≡ number_of why.spent) ↔ (d ≡ Err notdue.Spent)
      late (Ok k) = (λ e. absurd (omega arith), λ e. none cc)
      late (Err notdue.Unknown) = (λ e. absurd (omega arith), λ e. none cc)
      late (Err notdue.Spent) = (λ e. refl, λ e. refl)

-- Numbers that name no space -------------------------------------------------------------------------------------------------------------

module _ (s : List ℕ) (n : Numbers) where
  -- what map is asked, in its parts
  asked_shape : (base frame size rights l : ℕ) (b : Bool) → shape_of size base frame ≡ Ok l → write_execute (granted rights) ≡ b
      → allowed_of (ask base frame size rights) ≡ cond b (Err WriteExecute) (Ok l)
  unfolding allowed_of strict_of
  asked_shape base frame size rights l b e x = rw (e, rights_granted rights, x)

  -- what every call says of it
  refused_says : (x : Call) → KnownRights x → WellShaped x → AsksBoth false x → (k : ℕ) → site_of n.origin n.pool n.pages n.root ≡ Err k → reason s n x ≡ k
  unfolding reason asked_site shaped_site strict_site map_answer unmap_answer protect_answer told_answer
  refused_says (c.map base frame size rights) m l b k e =
      let site : map_site n.origin n.pool n.pages n.root base frame size rights ≡ Err k = meant rights _ m ∙ rw (asked_shape base frame size rights l.0 false l.1 b) e in
      ap (λ x. (map_answer s (ask base frame size rights) x).reason) site
  refused_says (c.unmap base) m l b k e = ap (λ x. (unmap_answer s base x).reason) e
  refused_says (c.protect base rights) m l b k e =
      let site : protect_site n.origin n.pool n.pages n.root rights ≡ Err k = meant rights _ m ∙ rw (rights_granted rights, b) e in
      ap (λ x. (protect_answer s base (rights_in rights) x).reason) site
  refused_says (c.told ticket) m l b k e = ap (λ x. (told_answer s ticket x).reason) e

  -- what map is asked comes before
  pub shape_causes : (base frame size rights : ℕ) → rights < 8 → (y : Reason) → shape_of size base frame ≡ Err y → (tp_map s n base frame size rights).reason ≡ reason_of y
  unfolding asked_site shaped_site allowed_of strict_of map_answer
  shape_causes base frame size rights m y e =
      let site : map_site n.origin n.pool n.pages n.root base frame size rights ≡ Err (reason_of y) = meant rights _ m ∙ rw e in
      ap (λ x. (map_answer s (ask base frame size rights) x).reason) site

  -- then whether the page would be writable and executable
  pub both_causes : (x : Call) → KnownRights x → WellShaped x → AsksBoth true x → reason s n x ≡ reason_of WriteExecute
  unfolding reason asked_site shaped_site strict_site map_answer protect_answer
  both_causes (c.map base frame size rights) m l b =
      let site : map_site n.origin n.pool n.pages n.root base frame size rights ≡ Err (reason_of WriteExecute) = meant rights _ m ∙ rw (asked_shape base frame size rights l.0 true l.1 b) in
      ap (λ x. (map_answer s (ask base frame size rights) x).reason) site
  both_causes (c.unmap base) m l b = absurd (true≢false b)
  both_causes (c.protect base rights) m l b =
      let site : protect_site n.origin n.pool n.pages n.root rights ≡ Err (reason_of WriteExecute) = meant rights _ m ∙ rw (rights_granted rights, b) in
      ap (λ x. (protect_answer s base (rights_in rights) x).reason) site
  both_causes (c.told ticket) m l b = absurd (true≢false b)

  -- then the space
  pub site_causes : (x : Call) → KnownRights x → WellShaped x → AsksBoth false x → SiteReasons (reason s n x) n
  unfolding site_of
  site_causes x m l b = record {
    pool_unaligned = λ p. refused_says x m l b (number_of why.pool_unaligned) (rw (ne_eqb _ _ p));
    root_unaligned = λ p r. refused_says x m l b (number_of why.root_unaligned) (rw (eq-eqb _ _ p, ne_eqb _ _ r));
  }

pub create_causes : (s : List ℕ) (origin pool pages : ℕ) → CreateReasons (tp_create s origin pool pages).reason (length s) origin pool
unfolding create_answer
create_causes s origin pool pages = record {
  origin_unaligned = λ o. rw (ne_eqb _ _ o);
  length_unaligned = λ o l. rw (eq-eqb _ _ o, ne_eqb _ _ l);
  pool_unaligned = λ o l p. rw (eq-eqb _ _ o, eq-eqb _ _ l, ne_eqb _ _ p);
}
