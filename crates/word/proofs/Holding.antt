-- Which pages lie in the window: by one comparison each, by all of them, and by the one that the code makes.
use Rattle.std.proofs.Common.{◌≡◌, ℕ, ◌+◌, ◌*◌, ◌%◌, ◌^◌, ◌<◌, ◌≤◌, Bool, true, false, ◌&&◌, ltb, leb, List, length, sym, refl, ◌∙◌, arith, le-ltb, lt-ltb, le-leb}
use native.Mathlib.Decide.{dec_le}
use borrow.Author.Tests.{lt-leb}
use Rattle.word.specs.Memory.{holds}

pub none_left : (b : Bool) → (b && false) ≡ false
none_left true = refl
none_left false = refl

pub far : (s : List ℕ) (origin p : ℕ) → 2 ^ 40 ≤ p → holds s origin p ≡ false
unfolding holds
far s origin p h = simp (le-ltb p (2 ^ 40) h)

pub below : (s : List ℕ) (origin p : ℕ) → 4096 * p < origin → holds s origin p ≡ false
unfolding holds
below s origin p h = simp (lt-leb origin (4096 * p) h) (none_left (ltb p (2 ^ 40)))

pub beyond : (s : List ℕ) (origin p : ℕ) → origin + length s < 4096 * p + 4096 → holds s origin p ≡ false
unfolding holds
beyond s origin p h = simp (lt-leb (4096 * p + 4096) (origin + length s) h) (rw (none_left (leb origin (4096 * p))) (none_left (ltb p (2 ^ 40))))

pub within : (s : List ℕ) (origin p : ℕ) → p < 2 ^ 40 → origin ≤ 4096 * p → 4096 * p + 4096 ≤ origin + length s → holds s origin p ≡ true
unfolding holds
within s origin p a b c = simp (lt-ltb p (2 ^ 40) a, le-leb origin (4096 * p) b, le-leb (4096 * p + 4096) (origin + length s) c)

-- no page lies in a window that begins where no page is, or is shorter than one
pub high_origin : (s : List ℕ) (origin p : ℕ) → 2 ^ 63 ≤ origin → holds s origin p ≡ false
high_origin s origin p h = go (dec_le (2 ^ 40) p)
  where
    go : Dec (2 ^ 40 ≤ p) → holds s origin p ≡ false
    go (yes u) = far s origin p u
    go (no u) = below s origin p (omega arith)

pub short : (s : List ℕ) (origin p : ℕ) → length s < 4096 → holds s origin p ≡ false
short s origin p h = go (dec_le origin (4096 * p))
  where
    go : Dec (origin ≤ 4096 * p) → holds s origin p ≡ false
    go (yes u) = beyond s origin p (omega arith)
    go (no u) = below s origin p (omega arith)

-- d is how far the page begins behind the origin, modulo 2 ^ 64; b is how far a page may
pub wraps : (s : List ℕ) (origin p d b : ℕ) → origin < 2 ^ 63 → p < 2 ^ 40 → length s < 2 ^ 63 → d < 2 ^ 64 → (d + origin) % 2 ^ 64 ≡ p * 4096 → b + 4096 ≡ length s
    → leb d b ≡ holds s origin p
wraps s origin p d b low small room fits e u = go (dec_le d b) (dec_le (2 ^ 64) (d + origin))
  where
    go : Dec (d ≤ b) → Dec (2 ^ 64 ≤ d + origin) → leb d b ≡ holds s origin p
    go (yes v) w = le-leb _ _ v ∙ sym (within s origin p small (omega arith) (omega arith))
    go (no v) (yes w) = lt-leb d b (omega arith) ∙ sym (below s origin p (omega arith))
    go (no v) (no w) = lt-leb d b (omega arith) ∙ sym (beyond s origin p (omega arith))
