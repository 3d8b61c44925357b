-- A space that is whole, whose page entries are the words that we write for them, but for the machine's marks.
use Rattle.std.specs.Prelude.{ℕ, Bool, List}
use Rattle.word.specs.Memory.{memory, holds}
use Rattle.tables.specs.Roles.{Role, Exact}
use Rattle.pool.specs.declared.Space.{Space}
use Rattle.effect.specs.Whole.{Whole}

pub record WholeExact (h : ℕ → Bool) (sp : Space) (m : ℕ → ℕ) : Type 0 where
  pub role : ℕ → Role
  pub whole : Whole h sp m role
  pub exact : Exact m role

-- of the bytes that are lent
abbrev pub ExactBytes : List ℕ → Space → Type 0
ExactBytes s sp = WholeExact (holds s sp.origin) sp (memory s sp.origin)
