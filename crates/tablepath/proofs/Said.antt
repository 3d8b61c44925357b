-- What plan answers is what map says.
use Rattle.std.proofs.Common.{◌≡◌, refl}
use Rattle.plan.specs.Map.{Placed, Go, Refused, making_of}
use Rattle.tablepath.specs.Answers.{map_said}

pub made_said : (d : Placed) → making_of d ≡ map_said d
unfolding making_of map_said
made_said (Go p) = refl
made_said (Refused r) = refl
