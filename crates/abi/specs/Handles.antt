-- ONE HANDLE, by the numbers that C gives: a call that names another space than the one that is there.
use Rattle.std.specs.Prelude.{ℕ, ◌+◌, ◌*◌, ◌≤◌, List, ◌⊎◌, ◌≢◌}
use Rattle.abi.specs.Relied.{Numbers, Call, leaves, reason, others, Untouched}

-- it is refused: every byte is what it was, and every other field of the answer is 0
pub record Rejected (s : List ℕ) (n : Numbers) (x : Call) : Type 0 where
  pub refused : reason s n x ≢ 0
  pub untouched : Untouched s (leaves s n x) (others s n x)

-- two pools share no byte
abbrev pub Disjoint : Numbers → Numbers → Type 0
Disjoint n other = (n.pool + 4096 * n.pages ≤ other.pool) ⊎ (other.pool + 4096 * other.pages ≤ n.pool)
