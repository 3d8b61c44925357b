-- A map that makes no table: the answer, and the one write.
use Prim.Native.Nat.{ℕ}
use mathlib.Core.Bool.{Bool}
use mathlib.Core.Path.{◌≡◌, sym, ap}
use Rattle.std.proofs.Common.{Ok}
use Rattle.pool.specs.declared.Space.{Space}
use Rattle.plan.specs.declared.maps.Asked.{Asked}
use Rattle.plan.specs.declared.maps.Leaf.{Leaf}
use Rattle.plan.specs.Map as map
use Rattle.plan.proofs.Placings.{Leafed, here_did}
use Rattle.tablepath.specs.Answers.{map_answer, map_writes, map_said}

module _ (h : ℕ → Bool) (m : ℕ → ℕ) (sp : Space) (q : Asked) (c : Leaf) (k : Leafed (map.decide_of h m sp q) c) where
  pub here_answer : Ok 0 ≡ map_answer h m sp q
  unfolding map_answer map_said
  here_answer = sym (rw k.decided (ap Ok k.need))

  pub here_writes : map.leaf_writes c ≡ map_writes h m sp q
  unfolding map_writes
  here_writes = here_did sp (map.decide_of h m sp q) c k
