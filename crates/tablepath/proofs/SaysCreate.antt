-- Create refuses exactly for its causes, for any bytes, and otherwise answers the page behind the book.
use Prim.Native.Nat.{ℕ, ◌+◌, ◌-◌, ◌%◌, ◌^◌, ◌<◌, ◌≤◌}
use mathlib.Core.Bool.{Bool, true, false, false≢true, ◌&&◌}
use mathlib.Core.List.{List}
use mathlib.Core.Path.{◌≡◌, refl, sym, ap, ◌∙◌, subst}
use native.Mathlib.Decide.{ℕ_discrete, dec_le}
use native.Mathlib.Omega.{arith}
use borrow.Author.Tests.{eq-eqb, ne_eqb, le-leb, lt-leb}
use Rattle.std.proofs.Common.{Result, Ok, Err}
use lib.ListN.{length}
use Rattle.word.specs.Memory.{holds}
use Rattle.word.specs.Writes.{carried}
use Rattle.word.proofs.Tests.{and_both}
use Rattle.pool.specs.Layout.{book_pages}
use Rattle.pool.specs.Book.{room_of}
use Rattle.pool.specs.Create.{created_of, created_in, create_writes, may_create}
use Rattle.pool.specs.declared.Reason.{Reason}
use Rattle.pool.specs.declared.Reason.TheVariants.{OriginUnaligned, LengthUnaligned, PoolLarge, PoolSmall, PoolOutside}
use Rattle.pool.proofs.Opening.{fit_inside}
use Rattle.tablepath.proofs.SaysAny.{refusal_leaves}
use Rattle.tablepath.proofs.Wholes.{create_whole}
use Rattle.tablepath.proofs.Witness.{nothing_yet}
use Rattle.tablepath.specs.Says.{AlignedWindow, CreateCause, origin_unaligned, length_unaligned, large, small, outside, CreateSays}

module _ (s : List ℕ) (origin first pages : ℕ) where
  abbrev answer : Result ℕ Reason
  answer = created_of (length s) (holds s origin) origin first pages

  -- the pool's first and last page lie in the window
  ends : Bool
  ends = holds s origin first && holds s origin (first + pages - 1)

  ends_hold : pages ≤ 2 ^ 32 → book_pages pages + 2 ≤ pages → ends ≡ true → (p : ℕ) → first ≤ p → p < first + pages → holds s origin p ≡ true
  unfolding ends
  ends_hold u v e =
      let k = and_both (holds s origin first) (holds s origin (first + pages - 1)) e in
      fit_inside s origin first pages (record { small = u; enough = v; from = k.0; upto = k.1 })

  ends_fail : book_pages pages + 2 ≤ pages → ends ≡ false → (p : ℕ) × (first ≤ p) × (p < first + pages) × (holds s origin p ≡ false)
  unfolding ends
  ends_fail v e = go (holds s origin first) refl e
    where
      go : (x : Bool) → holds s origin first ≡ x → (x && holds s origin (first + pages - 1)) ≡ false → (p : ℕ) × (first ≤ p) × (p < first + pages) × (holds s origin p ≡ false)
      go false d e = (first, omega arith, omega arith, d)
      go true d e = (first + pages - 1, omega arith, omega arith, e)

  -- A CAUSE IS A REFUSAL
  cause_refuses : (y : Reason) → CreateCause s origin first pages y → answer ≡ Err y
  unfolding created_of created_in may_create room_of ends
  cause_refuses y (origin_unaligned a) = rw (ne_eqb (origin % 4096) 0 a)
  cause_refuses y (length_unaligned a b) = rw (eq-eqb (origin % 4096) 0 a, ne_eqb (length s % 4096) 0 b)
  cause_refuses y (large a u) = rw (eq-eqb (origin % 4096) 0 a.0, eq-eqb (length s % 4096) 0 a.1, lt-leb pages (2 ^ 32) u)
  cause_refuses y (small a u v) =
      rw (eq-eqb (origin % 4096) 0 a.0, eq-eqb (length s % 4096) 0 a.1, le-leb pages (2 ^ 32) u, lt-leb (book_pages pages + 2) pages v)
  cause_refuses y (outside a u v p l r n) =
      rw (eq-eqb (origin % 4096) 0 a.0, eq-eqb (length s % 4096) 0 a.1, le-leb pages (2 ^ 32) u, le-leb (book_pages pages + 2) pages v, not_ends)
    where
      not_ends : (holds s origin first && holds s origin (first + pages - 1)) ≡ false
      not_ends = go ends refl
        where
          go : (x : Bool) → ends ≡ x → x ≡ false
          go false e = refl
          go true e = absurd (false≢true (sym n ∙ ends_hold u v e p l r))

  -- what is answered: a refusal for its cause, or the page behind the book
  data CreateVerdict : Result ℕ Reason → Type 0 where
    refuses : (y : Reason) → CreateCause s origin first pages y → CreateVerdict (Err y)
    makes : CreateVerdict (Ok (first + book_pages pages))

  because : (y : Reason) → CreateCause s origin first pages y → CreateVerdict answer
  because y c = rw (cause_refuses y c) (refuses y c)

  verdict : CreateVerdict answer
  unfolding created_of created_in may_create room_of ends
  verdict = go (ℕ_discrete (origin % 4096) 0) (ℕ_discrete (length s % 4096) 0) (dec_le pages (2 ^ 32)) (dec_le (book_pages pages + 2) pages)
    where
      room : AlignedWindow s origin → pages ≤ 2 ^ 32 → book_pages pages + 2 ≤ pages → (x : Bool) → ends ≡ x → CreateVerdict answer
      room a u v false e = let k = ends_fail v e in because PoolOutside (outside a u v k.0 k.1 k.2 k.3)
      room a u v true e = rw (eq-eqb (origin % 4096) 0 a.0, eq-eqb (length s % 4096) 0 a.1, le-leb pages (2 ^ 32) u, le-leb (book_pages pages + 2) pages v, e) makes

      go : Dec (origin % 4096 ≡ 0) → Dec (length s % 4096 ≡ 0) → Dec (pages ≤ 2 ^ 32) → Dec (book_pages pages + 2 ≤ pages) → CreateVerdict answer
      go (no a) b c d = because OriginUnaligned (origin_unaligned a)
      go (yes a) (no b) c d = because LengthUnaligned (length_unaligned a b)
      go (yes a) (yes b) (no c) d = because PoolLarge (large (a, b) (omega arith))
      go (yes a) (yes b) (yes c) (no d) = because PoolSmall (small (a, b) c (omega arith))
      go (yes a) (yes b) (yes c) (yes d) = room (a, b) c d ends refl

  refused_cause : (y : Reason) → answer ≡ Err y → CreateCause s origin first pages y
  refused_cause y = go answer verdict
    where
      go : (x : Result ℕ Reason) → CreateVerdict x → x ≡ Err y → CreateCause s origin first pages y
      go x (refuses y' c) e = let same : y' ≡ y = cc in subst (CreateCause s origin first pages) same c
      go x makes e = let z : ◌≡◌ {A = ℕ} 0 1 = cc in absurd (omega arith)

  root_no_cause : (p : ℕ) → answer ≡ Ok p → (y : Reason) → ¬ CreateCause s origin first pages y
  root_no_cause p e y c = let f = cause_refuses y c in let z : ◌≡◌ {A = ℕ} 0 1 = cc in omega arith

  root_behind : (p : ℕ) → answer ≡ Ok p → p ≡ first + book_pages pages
  root_behind p = go answer verdict
    where
      go : (x : Result ℕ Reason) → CreateVerdict x → x ≡ Ok p → p ≡ first + book_pages pages
      go x (refuses y c) e = let z : ◌≡◌ {A = ℕ} 0 1 = cc in absurd (omega arith)
      go x makes e = cc

  no_cause_root : ((y : Reason) → ¬ CreateCause s origin first pages y) → answer ≡ Ok (first + book_pages pages)
  no_cause_root n = go answer verdict
    where
      go : (x : Result ℕ Reason) → CreateVerdict x → x ≡ Ok (first + book_pages pages)
      go x (refuses y c) = absurd (n y c)
      go x makes = refl

  -- WHAT CREATE ANSWERS
  pub create_says : CreateSays s (carried s origin (create_writes (length s) (holds s origin) origin first pages)) origin first pages answer
  create_says = record {
    refused = λ y. (refused_cause y, cause_refuses y);
    leaves = (refusal_leaves s).create origin first pages;
    done = λ p. (λ e. (root_no_cause p e, root_behind p e), λ n. no_cause_root n.0 ∙ ap Ok (sym n.1));
    whole = λ p e. (create_whole s origin first pages p e).1;
    empty = λ p e. nothing_yet (create_whole s origin first pages p e).1;
  }
