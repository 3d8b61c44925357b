-- Which entries of a page are odd: of a table, those that are present.
use Rattle.std.specs.Prelude.{ℕ, zero, suc, ◌%◌, Bool, false, cond, ◌||◌, ◌==◌}
use Rattle.word.specs.Memory.{at}

unfoldable pub odd : ℕ → Bool
odd w = w % 2 == 1

-- one of the n entries of page p from entry k on is odd
unfoldable pub odd_of : (ℕ → ℕ) → ℕ → ℕ → ℕ → Bool
odd_of m p k zero = false
odd_of m p k (suc n) = odd (m (at p k)) || odd_of m p (suc k) n

-- entry k of page p is another than i, lies in the window, and is odd
unfoldable pub other_of : (ℕ → Bool) → (ℕ → ℕ) → ℕ → ℕ → ℕ → Bool
other_of h m p i k = cond (k == i) false (cond (h p) (odd (m (at p k))) false)

-- one of the first n entries of page p, entry i aside, is odd
unfoldable pub besides_of : (ℕ → Bool) → (ℕ → ℕ) → ℕ → ℕ → ℕ → Bool
besides_of h m p i zero = false
besides_of h m p i (suc n) = other_of h m p i n || besides_of h m p i n
