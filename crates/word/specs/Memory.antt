-- Physical memory is a function from a word's number, its address / 8, to the word: entry i of page p is word 512 * p + i.
-- The lent bytes, the window, and the physical address of the first of them, the origin, give one.
use Rattle.std.specs.Prelude.{ℕ, ◌+◌, ◌-◌, ◌*◌, ◌^◌, Bool, cond, ◌&&◌, List, length, nat_le, nat_lt, Option, Some, None}
use Rattle.std.proofs.Math.Decide.{ℕ_discrete}
use Rattle.word.specs.Bytes.{word_at, put_word}

-- How many pages physical memory has: physical addresses have 52 bits.
abbrev pub page_count : ℕ
page_count = 2 ^ 40

-- the function m with v at a
unfoldable pub set : {A : Type 0} → (ℕ → A) → ℕ → A → ℕ → A
set m a v x = elim (ℕ_discrete a x) [ yes e ↦ v | no n ↦ m x ]

-- the number of entry i of page p
abbrev pub at : ℕ → ℕ → ℕ
at p i = 512 * p + i

-- the memory that the window s at this origin is; 0 outside
unfoldable pub memory : List ℕ → ℕ → ℕ → ℕ
memory s origin x = cond (nat_le origin (8 * x) && nat_le (8 * x + 8) (origin + length s)) (word_at s (8 * x - origin)) 0

-- page p lies wholly in the window
unfoldable pub holds : List ℕ → ℕ → ℕ → Bool
holds s origin p = nat_lt p page_count && (nat_le origin (4096 * p) && nat_le (4096 * p + 4096) (origin + length s))

-- what reading entry i of page p answers
unfoldable pub read_of : List ℕ → ℕ → ℕ → ℕ → Option ℕ
read_of s origin p i = cond (nat_lt i 512 && holds s origin p) (Some (memory s origin (at p i))) None

-- the window with entry i of page p set to w; as it is where there is no such entry
unfoldable pub written : List ℕ → ℕ → ℕ → ℕ → ℕ → List ℕ
written s origin p i w = cond (nat_lt i 512 && holds s origin p) (put_word s (8 * at p i - origin) w) s
