-- A plan as events of `world`.
use Rattle.std.specs.Prelude.{ℕ, List, [], ◌∷◌}
use Rattle.word.specs.Memory.{at}
use Rattle.word.specs.Writes.{Write}
use Rattle.world.specs.Events as world
use Rattle.world.specs.Events.{Event}

-- A list of writes, as events of `world` -----------------------------------------------------------------------------------------

unfoldable pub events_of : List Write → List (Event ℕ)
events_of [] = []
events_of (x ∷ xs) = world.write (at x.page x.index) x.word ∷ events_of xs
