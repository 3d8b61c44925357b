-- Runs of pages that lie in the window.
use Rattle.std.specs.Prelude.{ℕ, ◌+◌, ◌*◌, Bool, cond, ◌&&◌, List, [], ◌∷◌, length, nat_le, nat_lt, Option, Some, None}
use Rattle.word.specs.Memory.{page_count, at, memory}
use Rattle.word.specs.Writes.{Write, write, zeros}

-- so many pages from the first one on lie in the window
unfoldable pub spans_of : List ℕ → ℕ → ℕ → ℕ → Bool
spans_of s origin first pages =
    nat_le (first + pages) page_count && (nat_le origin (4096 * first) && nat_le (4096 * (first + pages)) (origin + length s))

-- entry i of page p is one of that run, and p is not among so many pages at its beginning
unfoldable pub is_among : List ℕ → ℕ → ℕ → ℕ → ℕ → ℕ → ℕ → Bool
is_among s origin first kept pages p i = spans_of s origin first pages && (nat_lt i 512 && (nat_le (first + kept) p && nat_lt p (first + pages)))

-- what reading such an entry answers
unfoldable pub among_of : List ℕ → ℕ → ℕ → ℕ → ℕ → ℕ → ℕ → Option ℕ
among_of s origin first kept pages p i = cond (is_among s origin first kept pages p i) (Some (memory s origin (at p i))) None

-- setting such an entry to w is one write; where there is none, no write
unfoldable pub among_writes : List ℕ → ℕ → ℕ → ℕ → ℕ → ℕ → ℕ → ℕ → List Write
among_writes s origin first kept pages p i w = cond (is_among s origin first kept pages p i) (write p i w ∷ []) []

-- clearing such a page is 512 of them
unfoldable pub among_zeros : List ℕ → ℕ → ℕ → ℕ → ℕ → ℕ → List Write
among_zeros s origin first kept pages p = cond (is_among s origin first kept pages p 0) (zeros p 512) []
