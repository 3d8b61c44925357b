-- A list of writes as the source has one (write_seq of spec_t/mmu/pt_mem.rs, which is `word::after`): where each writes, and which is the i-th.
use Rattle.std.specs.Prelude.{ℕ, zero, suc, List, [], ◌∷◌}
use Rattle.std.proofs.Math.Option.{Option, none, some}
use Rattle.word.specs.Memory.{at}
use Rattle.word.specs.Writes.{Write}

abbrev pub place_of : Write → ℕ
place_of x = at x.page x.index

unfoldable pub write_at : List Write → ℕ → Option Write
write_at [] i = none
write_at (x ∷ xs) zero = some x
write_at (x ∷ xs) (suc i) = write_at xs i
