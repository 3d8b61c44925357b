-- ONE HANDLE, by the numbers that C gives. In a whole space a call with other pages, another root or another page of the pool as its first is
-- refused and touches nothing; and no call on one space touches another.
use Prim.Native.Nat.{ℕ, ◌+◌, ◌*◌, ◌/◌, ◌%◌, ◌<◌}
use mathlib.Core.Bool.{Bool, true, false, cond}
use mathlib.Core.List.{List}
use mathlib.Core.Logic.{◌⊎◌, inl, inr, ◌≢◌}
use mathlib.Core.Path.{◌≡◌, sym, ap, ◌∙◌, subst}
use native.Mathlib.Decide.{ℕ_discrete}
use native.Mathlib.Omega.{arith}
use borrow.Author.Tests.{eq-eqb, ne_eqb}
use Rattle.std.proofs.Common.{Result, Ok, Err}
use Rattle.plan.specs.declared.Reason.{Reason}
use Rattle.pool.specs.declared.Space.{Space}
use Rattle.word.specs.Memory.{memory, holds}
use Rattle.plan.specs.Map.{allowed_of}
use Rattle.plan.specs.Rights.{write_execute}
use Rattle.plan.specs.declared.Reason.TheVariants.{WriteExecute}
use Rattle.plan.specs.declared.maps.Asked.{Asked}
use Rattle.tablepath.specs.Handles as the
use Rattle.tablepath.proofs.Handles.{other_numbers, other_first, others_kept}
use Rattle.abi.specs.ReasonNumbers.{reason_of, number_of, pool_unaligned, root_unaligned}
use Rattle.abi.specs.Answers.{rights_in, mapped_to_c, unmapped_to_c, protected_to_c, told_to_c}
use Rattle.abi.specs.Calls.{site_of, shaped_site, asked_site, strict_site, ask, map_answer, unmap_answer, protect_answer, told_answer}
use Rattle.abi.specs.Relied as c
use Rattle.abi.specs.Relied.{Numbers, AlignedNumbers, space_of, WholeAt, Call, call_of, leaves, reason}
use Rattle.abi.specs.Handles.{Rejected, Disjoint}
use Rattle.abi.proofs.Named.{call_leaves, map_answers, unmap_answers, protect_answers, told_answers}
use Rattle.abi.proofs.Reasons.{never_done, pool_never_done}
use Rattle.abi.proofs.Refusals.{call_refused}
use Rattle.abi.proofs.Meant.{meant, meant_or_same, map_meant, protect_meant}

module _ (s : List ℕ) (n : Numbers) where
  -- what tablepath rejects has a reason
  given : AlignedNumbers n → (x : Call) → the.Rejected (holds s n.origin) (memory s n.origin) (space_of n) (call_of x) → reason s n x ≢ 0
  unfolding reason call_of mapped_to_c unmapped_to_c protected_to_c told_to_c
  given a (c.map base frame size rights) k e =
      never_done k.refused.0 (ap (λ y. (mapped_to_c y).reason) (sym k.refused.1) ∙ ap (λ y. y.reason) (sym (map_answers n a s base frame size rights (map_meant s n base frame size rights e))) ∙ e)
  given a (c.unmap base) k e =
      never_done k.refused.0 (ap (λ y. (unmapped_to_c y).reason) (sym k.refused.1) ∙ ap (λ y. y.reason) (sym (unmap_answers n a s base)) ∙ e)
  given a (c.protect base rights) k e =
      never_done k.refused.0 (ap (λ y. (protected_to_c y).reason) (sym k.refused.1) ∙ ap (λ y. y.reason) (sym (protect_answers n a s base rights (protect_meant s n base rights e))) ∙ e)
  given a (c.told ticket) k e =
      pool_never_done k.refused.0 (ap (λ y. (told_to_c y).reason) (sym k.refused.1) ∙ ap (λ y. y.reason) (sym (told_answers n a s ticket)) ∙ e)

  -- and so have numbers that name no space
  shaped_astray : (q : Asked) (z : Result ℕ Reason) (y : ℕ) → y ≢ 0 → (map_answer s q (shaped_site z (Err y))).reason ≢ 0
  unfolding map_answer shaped_site
  shaped_astray q (Ok l) y d = d
  shaped_astray q (Err r) y d = never_done r

  strict_astray : (base rights y : ℕ) → y ≢ 0 → (protect_answer s base (rights_in rights) (strict_site rights (Err y))).reason ≢ 0
  unfolding protect_answer strict_site
  strict_astray base rights y d = go (write_execute (rights_in rights))
    where
      go : (b : Bool) → (protect_answer s base (rights_in rights) (cond b (Err (reason_of WriteExecute)) (Err y))).reason ≢ 0
      go true = never_done WriteExecute
      go false = d

  astray : (y : ℕ) → y ≢ 0 → site_of n.origin n.pool n.pages n.root ≡ Err y → (x : Call) → reason s n x ≢ 0
  unfolding reason unmap_answer protect_answer told_answer asked_site
  astray y d e (c.map base frame size rights) k =
      let q = ask base frame size rights in
      let m = meant rights (asked_site n.origin n.pool n.pages n.root q) (map_meant s n base frame size rights k) in
      let j : (map_answer s q (shaped_site (allowed_of q) (site_of n.origin n.pool n.pages n.root))).reason ≡ 0 = subst (λ (z : Result Space ℕ). (map_answer s q z).reason ≡ 0) m k in
      shaped_astray q (allowed_of q) y d (subst (λ (z : Result Space ℕ). (map_answer s q (shaped_site (allowed_of q) z)).reason ≡ 0) e j)
  astray y d e (c.unmap base) k = d (subst (λ (z : Result Space ℕ). (unmap_answer s base z).reason ≡ 0) e k)
  astray y d e (c.protect base rights) k =
      let m = meant rights (strict_site rights (site_of n.origin n.pool n.pages n.root)) (protect_meant s n base rights k) in
      let j : (protect_answer s base (rights_in rights) (strict_site rights (site_of n.origin n.pool n.pages n.root))).reason ≡ 0 = subst (λ (z : Result Space ℕ). (protect_answer s base (rights_in rights) z).reason ≡ 0) m k in
      strict_astray base rights y d (subst (λ (z : Result Space ℕ). (protect_answer s base (rights_in rights) (strict_site rights z)).reason ≡ 0) e j)
  astray y d e (c.told ticket) k = d (subst (λ (z : Result Space ℕ). (told_answer s ticket z).reason ≡ 0) e k)

  rejected : (x : Call) → reason s n x ≢ 0 → Rejected s n x
  rejected x d = record { refused = d; untouched = call_refused s n x d }

  -- A CALL IS REJECTED where its numbers are not aligned, or tablepath rejects it
  data Alignment : Type 0 where
    aligned : AlignedNumbers n → Alignment
    unaligned : (y : ℕ) → y ≢ 0 → site_of n.origin n.pool n.pages n.root ≡ Err y → Alignment

  alignment : Alignment
  unfolding site_of
  alignment = go (ℕ_discrete (n.pool % 4096) 0) (ℕ_discrete (n.root % 4096) 0)
    where
      go : Dec (n.pool % 4096 ≡ 0) → Dec (n.root % 4096 ≡ 0) → Alignment
      go (yes a) (yes b) = aligned (record { pool = a; root = b })
      go (yes a) (no b) = unaligned (number_of root_unaligned) (λ e. omega arith) (rw (eq-eqb _ _ a, ne_eqb _ _ b))
      go (no a) b = unaligned (number_of pool_unaligned) (λ e. omega arith) (rw (ne_eqb _ _ a))

  rejects : (AlignedNumbers n → (x : Call) → the.Rejected (holds s n.origin) (memory s n.origin) (space_of n) (call_of x)) → (x : Call) → Rejected s n x
  rejects f x = go alignment
    where
      go : Alignment → Rejected s n x
      go (aligned a) = rejected x (given a x (f a x))
      go (unaligned y d e) = rejected x (astray y d e x)

module _ (s : List ℕ) (n : Numbers) (w : WholeAt s n) (other : Numbers) (same : other.origin ≡ n.origin) where
  here : (x : Call) → the.Rejected (holds s n.origin) (memory s n.origin) (space_of other) (call_of x)
      → the.Rejected (holds s other.origin) (memory s other.origin) (space_of other) (call_of x)
  here x k = subst (λ (o : ℕ). the.Rejected (holds s o) (memory s o) (space_of other) (call_of x)) (sym same) k

  -- OTHER PAGES OR ANOTHER ROOT
  pub other_handle : other.pool ≡ n.pool → (other.pages ≢ n.pages) ⊎ (other.root ≢ n.root) → (x : Call) → Rejected s other x
  other_handle at d = rejects s other (λ a x. here x (other_numbers w.whole (space_of other) (ap (λ y. y / 4096) at) (pages a d) (call_of x)))
    where
      pages : AlignedNumbers other → (other.pages ≢ n.pages) ⊎ (other.root ≢ n.root) → (other.pages ≢ n.pages) ⊎ (other.root / 4096 ≢ n.root / 4096)
      pages a (inl x) = inl x
      pages a (inr x) = inr (λ e. x (omega (arith, e, a.root, w.aligned.root)))

  -- ANOTHER ADDRESS in the pool
  pub other_pool : n.pool < other.pool → other.pool < n.pool + 4096 * n.pages → (x : Call) → Rejected s other x
  other_pool u v = rejects s other (λ a x. here x (other_first w.whole (space_of other) (omega (arith, u, a.pool, w.aligned.pool)) (omega (arith, v, w.aligned.pool)) (call_of x)))

  -- A CALL ON ANOTHER SPACE, whose pool is disjoint, keeps this one whole
  pub other_call_keeps : Disjoint n other → (x : Call) → WholeAt (leaves s other x) n
  other_call_keeps d x = go (alignment s other)
    where
      apart : AlignedNumbers other → Disjoint n other → the.Disjoint (space_of n) (space_of other)
      apart a (inl u) = inl (omega (arith, u, a.pool, w.aligned.pool))
      apart a (inr u) = inr (omega (arith, u, a.pool, w.aligned.pool))

      go : Alignment s other → WholeAt (leaves s other x) n
      go (aligned a) = elim (meant_or_same s other x) [
        | inl m ↦ record {
          aligned = w.aligned;
          role = w.role;
          whole = rw (call_leaves other a s x m) (others_kept s (space_of n) (space_of other) w.role same (apart a d) w.whole (call_of x));
        }
        | inr e ↦ subst (λ (t : List ℕ). WholeAt t n) (sym e) w
      ]
      go (unaligned y z e) = subst (λ (t : List ℕ). WholeAt t n) (sym (call_refused s other x (astray s other y z e x)).bytes) w
