-- Writing a word into the bytes is setting the memory at one place: the one law by which everything above speaks of bytes.
use Rattle.std.proofs.Common.{◌≡◌, ℕ, ◌+◌, ◌-◌, ◌*◌, ◌^◌, ◌<◌, ◌≤◌, Bool, true, false, cond, ◌&&◌, ltb, List, length, sym, refl, ◌∙◌, arith, ltb-true, lt-ltb, le-leb, leb-true, Some, None}
use mathlib.Core.Path.{fun_ext}
use native.Mathlib.Decide.{dec_le, ℕ_discrete}
use borrow.Author.Tests.{lt-leb}
use Rattle.word.specs.Bytes.{word_at, put_word}
use Rattle.word.specs.Memory.{set, at, memory, holds, read_of, written}
use Rattle.word.proofs.Bytes.{length_put, word_put_same, word_put_apart}
use Rattle.word.proofs.Tests.{and_both}
use Rattle.word.proofs.Set.{set_at, set_other}

-- the word lies in the window
pub record WordInWindow (s : List ℕ) (origin x : ℕ) : Type 0 where
  pub from : origin ≤ 8 * x
  pub upto : 8 * x + 8 ≤ origin + length s

pub memory_in : (s : List ℕ) (origin x : ℕ) → WordInWindow s origin x → memory s origin x ≡ word_at s (8 * x - origin)
unfolding memory
memory_in s origin x l = simp (le-leb origin (8 * x) l.from, le-leb (8 * x + 8) (origin + length s) l.upto)

-- a page that is held: its first word lies in the window, and so does its last
pub record InWindow (s : List ℕ) (origin p : ℕ) : Type 0 where
  pub small : p < 2 ^ 40
  pub from : origin ≤ 4096 * p
  pub upto : 4096 * p + 4096 ≤ origin + length s

pub held : (s : List ℕ) (origin p : ℕ) → holds s origin p ≡ true → InWindow s origin p
unfolding holds
held s origin p h =
    let a = and_both _ _ h in
    let b = and_both _ _ a.1 in
    record { small = ltb-true p (2 ^ 40) a.0; from = leb-true origin (4096 * p) b.0; upto = leb-true _ _ b.1 }

pub held_lies : (s : List ℕ) (origin p i : ℕ) → InWindow s origin p → i < 512 → WordInWindow s origin (at p i)
held_lies s origin p i h u = record { from = omega (arith, h.from); upto = omega (arith, h.upto) }

-- where the entry's bytes are, as the code computes it
pub record Offset (s : List ℕ) (origin p i : ℕ) : Type 0 where
  pub product : p * 4096 < 2 ^ 64
  pub above : origin ≤ p * 4096
  pub same : p * 4096 - origin + i * 8 ≡ 8 * at p i - origin
  pub fits : p * 4096 - origin + i * 8 + 8 ≤ length s

pub offset : (s : List ℕ) (origin p i : ℕ) → holds s origin p ≡ true → i < 512 → Offset s origin p i
offset s origin p i h u =
    let k = held s origin p h in
    record {
      product = omega (arith, k.small);
      above = omega (arith, k.from);
      same = omega (arith, k.from);
      fits = omega (arith, k.from, k.upto);
    }

-- THE LAW, for any word of the window
pub memory_put : (s : List ℕ) (origin x w : ℕ) → WordInWindow s origin x → w < 2 ^ 64 → memory (put_word s (8 * x - origin) w) origin ≡ set (memory s origin) x w
unfolding memory
memory_put s origin x w l f = fun_ext (λ y. go y (ℕ_discrete x y) (dec_le origin (8 * y)))
  where
    go : (y : ℕ) → Dec (x ≡ y) → Dec (origin ≤ 8 * y) → memory (put_word s (8 * x - origin) w) origin y ≡ set (memory s origin) x w y
    go y (yes e) d =
        rw (set_at (memory s origin) x w y e, ← e)
        (simp (length_put, le-leb origin (8 * x) l.from, le-leb (8 * x + 8) (origin + length s) l.upto)
        (word_put_same s (8 * x - origin) w (omega (arith, l.from, l.upto)) f))
    go y (no n) (yes d) =
        rw (set_other (memory s origin) x w y n)
        (simp (length_put, word_put_apart s (8 * x - origin) w (8 * y - origin) (λ j k u v e. n (omega (arith, l.from)))))
    go y (no n) (no d) = let low : 8 * y < origin = omega arith in rw (set_other (memory s origin) x w y n) (simp (lt-leb origin (8 * y) low))

pub length_written : (s : List ℕ) (origin p i w : ℕ) → length (written s origin p i w) ≡ length s
unfolding written
length_written s origin p i w = go (ltb i 512 && holds s origin p)
  where
    go : (b : Bool) → length (cond b (put_word s (8 * at p i - origin) w) s) ≡ length s
    go true = length_put s (8 * at p i - origin) w
    go false = refl

-- which pages lie in the window depends on its length alone
pub holds_written : (s : List ℕ) (origin p i w : ℕ) → holds (written s origin p i w) origin ≡ holds s origin
unfolding holds
holds_written s origin p i w = fun_ext (λ q. rw (length_written s origin p i w))

-- THE LAW, for an entry of a page that is held
pub memory_written : (s : List ℕ) (origin p i w : ℕ) → holds s origin p ≡ true → i < 512 → w < 2 ^ 64
    → memory (written s origin p i w) origin ≡ set (memory s origin) (at p i) w
unfolding written
memory_written s origin p i w h u f =
    simp (lt-ltb i 512 u, h) (memory_put s origin (at p i) w (held_lies s origin p i (held s origin p h) u) f)

-- What a read answered -------------------------------------------------------------------------------------------------------

module _ (s : List ℕ) (origin p i : ℕ) (u : i < 512) where
  read_tests : read_of s origin p i ≡ cond (holds s origin p) (Some (memory s origin (at p i))) None
  unfolding read_of
  read_tests = simp (lt-ltb i 512 u)

  -- a word: the page is held, and that is the word there
  pub read_word : (w : ℕ) → read_of s origin p i ≡ Some w → (holds s origin p ≡ true) × (memory s origin (at p i) ≡ w)
  read_word w e = go (holds s origin p) (sym read_tests ∙ e)
    where
      go : (b : Bool) → cond b (Some (memory s origin (at p i))) None ≡ Some w → (b ≡ true) × (memory s origin (at p i) ≡ w)
      go true h = (refl, cc)
      go false h = let z : ◌≡◌ {A = ℕ} 0 1 = cc in absurd (omega arith)

  -- outside: the page is not held
  pub read_outside : read_of s origin p i ≡ None → holds s origin p ≡ false
  read_outside e = go (holds s origin p) (sym read_tests ∙ e)
    where
      go : (b : Bool) → cond b (Some (memory s origin (at p i))) None ≡ None → b ≡ false
      go true h = let z : ◌≡◌ {A = ℕ} 0 1 = cc in absurd (omega arith)
      go false h = refl
