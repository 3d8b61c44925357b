-- A page from 2 ^ 40 on is not written; and a word of the book as an entry.
use Rattle.std.proofs.Common.{◌≡◌, ℕ, ◌+◌, ◌-◌, ◌*◌, ◌/◌, ◌%◌, ◌^◌, ◌≤◌, Bool, true, false, cond, ◌&&◌, ltb, List, sym, refl, arith}
use Rattle.word.specs.Bytes.{put_word}
use Rattle.word.specs.Memory.{at, written}
use Rattle.word.proofs.Holding.{far}

pub written_far : (s : List ℕ) (origin p i w : ℕ) → 2 ^ 40 ≤ p → s ≡ written s origin p i w
unfolding written
written_far s origin p i w h = rw (far s origin p h) (sym (none (ltb i 512)))
  where
    none : (b : Bool) → cond (b && false) (put_word s (8 * at p i - origin) w) s ≡ s
    none true = refl
    none false = refl

-- word k of the book, as an entry
pub word_at_lem : (first k : ℕ) → at (first + k / 512) (k % 512) ≡ 512 * first + k
word_at_lem first k = omega arith
