-- A run of pages that lies in the window, and reading in it.
use Rattle.std.proofs.Common.{◌≡◌, ℕ, ◌+◌, ◌-◌, ◌*◌, ◌%◌, ◌^◌, ◌<◌, ◌≤◌, Bool, true, false, cond, ◌&&◌, ltb, leb, List, [], ◌∷◌, length, sym, refl, ◌∙◌, arith, ltb-true, le-ltb, lt-ltb, le-leb, leb-true, Some, None}
use mathlib.Core.Bool.{false≢true}
use native.Mathlib.Decide.{dec_le}
use borrow.Author.Tests.{lt-leb}
use Rattle.word.specs.Bytes.{put_word}
use Rattle.word.specs.Writes.{write}
use Rattle.word.specs.Memory.{at, memory, holds, read_of, written}
use Rattle.word.specs.Runs.{spans_of, is_among, among_of, among_writes}
use Rattle.word.proofs.Tests.{and_both}
use Rattle.word.proofs.Memory.{held, Offset, offset}
use Rattle.word.proofs.Holding.{within}

module _ (s : List ℕ) (origin first pages : ℕ) where
  pub record Run : Type 0 where
    pub end : first + pages ≤ 2 ^ 40
    pub from : origin ≤ 4096 * first
    pub upto : 4096 * (first + pages) ≤ origin + length s

  pub run_spans : Run → spans_of s origin first pages ≡ true
  unfolding spans_of
  run_spans r = simp (le-leb (first + pages) (2 ^ 40) r.end, le-leb origin (4096 * first) r.from, le-leb (4096 * (first + pages)) (origin + length s) r.upto)

  pub spans_run : spans_of s origin first pages ≡ true → Run
  unfolding spans_of
  spans_run h =
      let a = and_both _ _ h in
      let c = and_both _ _ a.1 in
      record { end = leb-true _ _ a.0; from = leb-true _ _ c.0; upto = leb-true _ _ c.1 }

  pub no_run : (Run → ⊥) → spans_of s origin first pages ≡ false
  no_run n = go (spans_of s origin first pages) refl
    where
      go : (t : Bool) → spans_of s origin first pages ≡ t → t ≡ false
      go true e = absurd (n (spans_run e))
      go false e = refl

  -- the last of the tests
  pub spans_last : first + pages ≤ 2 ^ 40 → origin ≤ 4096 * first → leb ((first + pages) * 4096 - origin) (length s) ≡ spans_of s origin first pages
  spans_last b c = go (dec_le ((first + pages) * 4096 - origin) (length s))
    where
      go : Dec ((first + pages) * 4096 - origin ≤ length s) → leb ((first + pages) * 4096 - origin) (length s) ≡ spans_of s origin first pages
      go (yes u) = le-leb _ _ u ∙ sym (run_spans (record { end = b; from = c; upto = omega arith }))
      go (no u) = lt-leb ((first + pages) * 4096 - origin) (length s) (omega arith) ∙ sym (no_run (λ r. u (omega (arith, r.upto))))

  -- a page of the run lies in the window
  pub run_holds : Run → (p : ℕ) → first ≤ p → p < first + pages → holds s origin p ≡ true
  run_holds r p u v = within s origin p (omega (arith, r.end)) (omega (arith, r.from)) (omega (arith, r.upto))

  -- a run lies in the window where its first page does and its last one
  pub spans_ends : 0 < pages → spans_of s origin first pages ≡ (holds s origin first && holds s origin (first + pages - 1))
  spans_ends u = go (holds s origin first) (holds s origin (first + pages - 1)) refl refl
    where
      go : (a b : Bool) → holds s origin first ≡ a → holds s origin (first + pages - 1) ≡ b → spans_of s origin first pages ≡ (a && b)
      go true true f l =
          let x = held s origin first f in
          let y = held s origin (first + pages - 1) l in
          run_spans (record { end = omega (arith, y.small); from = x.from; upto = omega (arith, y.upto) })
      go true false f l = no_run (λ r. false≢true (sym l ∙ run_holds r (first + pages - 1) (omega arith) (omega arith)))
      go false b f l = no_run (λ r. false≢true (sym f ∙ run_holds r first (omega arith) (omega arith)))

  module _ (kept p i : ℕ) where
    pub record InRun : Type 0 where
      pub run : Run
      pub small : i < 512
      pub behind : first + kept ≤ p
      pub before_end : p < first + pages

    pub among_is : InRun → is_among s origin first kept pages p i ≡ true
    unfolding is_among
    among_is a = simp (run_spans a.run, lt-ltb i 512 a.small, le-leb (first + kept) p a.behind, lt-ltb p (first + pages) a.before_end)

    pub is_among_lem : is_among s origin first kept pages p i ≡ true → InRun
    unfolding is_among
    is_among_lem e =
        let a = and_both _ _ e in
        let b = and_both _ _ a.1 in
        let c = and_both _ _ b.1 in
        record { run = spans_run a.0; small = ltb-true _ _ b.0; behind = leb-true _ _ c.0; before_end = ltb-true _ _ c.1 }

    pub not_among : (InRun → ⊥) → is_among s origin first kept pages p i ≡ false
    not_among n = go (is_among s origin first kept pages p i) refl
      where
        go : (t : Bool) → is_among s origin first kept pages p i ≡ t → t ≡ false
        go true e = absurd (n (is_among_lem e))
        go false e = refl

    -- the last of the tests; d is how far the page is behind the first one that counts, modulo 2 ^ 64
    pub among_last : (d : ℕ) → Run → i < 512 → kept < pages → p < 2 ^ 64 → d < 2 ^ 64 → (d + (first + kept)) % 2 ^ 64 ≡ p
        → ltb d (pages - kept) ≡ is_among s origin first kept pages p i
    among_last d r u v w x e = go (dec_le (pages - kept) d)
      where
        go : Dec (pages - kept ≤ d) → ltb d (pages - kept) ≡ is_among s origin first kept pages p i
        go (yes k) = le-ltb d (pages - kept) k ∙ sym (not_among (λ a. omega (arith, a.behind, a.before_end, r.end)))
        go (no k) =
            lt-ltb d (pages - kept) (omega arith)
            ∙ sym (among_is (record { run = r; small = u; behind = omega (arith, r.end); before_end = omega (arith, r.end) }))

    pub among_holds : InRun → holds s origin p ≡ true
    among_holds a = run_holds a.run p (omega (arith, a.behind)) a.before_end

    pub among_word : InRun → Some (memory s origin (at p i)) ≡ among_of s origin first kept pages p i
    unfolding among_of
    among_word a = rw (among_is a)

    -- the entry's bytes, by the code's own test
    pub among_offset : is_among s origin first kept pages p i ≡ true → Offset s origin p i
    among_offset e = let a = is_among_lem e in offset s origin p i (among_holds a) a.small

    pub among_index : is_among s origin first kept pages p i ≡ true → i < 512
    among_index e = (is_among_lem e).small

    pub among_written : (w : ℕ) → is_among s origin first kept pages p i ≡ true → put_word s (p * 4096 - origin + i * 8) w ≡ written s origin p i w
    unfolding written
    among_written w e = let a = is_among_lem e in simp (lt-ltb i 512 a.small, among_holds a, (among_offset e).same)

    pub one_among : (w : ℕ) → is_among s origin first kept pages p i ≡ true → among_writes s origin first kept pages p i w ≡ write p i w ∷ []
    unfolding among_writes
    one_among w e = simp e

    pub none_among : (w : ℕ) → is_among s origin first kept pages p i ≡ false → among_writes s origin first kept pages p i w ≡ []
    unfolding among_writes
    none_among w e = simp e

    -- another entry of that page, in a window of the same length
    pub among_again : (t : List ℕ) (j : ℕ) → length t ≡ length s → j < 512 → is_among s origin first kept pages p i ≡ true → is_among t origin first kept pages p j ≡ true
    unfolding is_among spans_of
    among_again t j l u e =
        let a = is_among_lem e in
        let r = a.run in
        rw l (simp (le-leb (first + pages) (2 ^ 40) r.end, le-leb origin (4096 * first) r.from, le-leb (4096 * (first + pages)) (origin + length s) r.upto, lt-ltb j 512 u, le-leb (first + kept) p a.behind, lt-ltb p (first + pages) a.before_end))

    -- what it answered
    pub word_among : (w : ℕ) → among_of s origin first kept pages p i ≡ Some w → InRun × (memory s origin (at p i) ≡ w)
    unfolding among_of
    word_among w e = go (is_among s origin first kept pages p i) refl e
      where
        go : (t : Bool) → is_among s origin first kept pages p i ≡ t → cond t (Some (memory s origin (at p i))) None ≡ Some w → InRun × (memory s origin (at p i) ≡ w)
        go true h x = (is_among_lem h, cc)
        go false h x = let z : ◌≡◌ {A = ℕ} 0 1 = cc in absurd (omega arith)

    -- what is read there is what is read by any way
    pub among_read : (w : ℕ) → among_of s origin first kept pages p i ≡ Some w → Some w ≡ read_of s origin p i
    unfolding read_of
    among_read w e = let k = word_among w e in simp (lt-ltb i 512 k.0.small, among_holds k.0, k.1)

    pub outside_among : among_of s origin first kept pages p i ≡ None → InRun → ⊥
    outside_among e a = let x = among_word a ∙ e in let z : ◌≡◌ {A = ℕ} 0 1 = cc x in absurd (omega arith)
