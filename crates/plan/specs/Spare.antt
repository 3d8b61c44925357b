-- Pages that may become tables: they differ from each other, and from the tables of the way.
use Rattle.std.specs.Prelude.{ℕ, ◌<◌, ◌≢◌}
use Rattle.plan.specs.declared.descent.Way.{Way}
use Rattle.plan.specs.declared.maps.NewTables.{NewTables}

-- page p is one of the tables that the way came through: as many as there are levels from the root's to that where it stopped
pub data OnWay (w : Way) : ℕ → Type 0 where
  last : OnWay w w.a
  second : w.level < 3 → OnWay w w.b
  third : w.level < 2 → OnWay w w.c
  fourth : w.level < 1 → OnWay w w.d

pub record Spared (w : Way) (f : NewTables) : Type 0 where
  pub first_off : 0 < f.need → ¬ OnWay w f.a
  pub second_off : 1 < f.need → ¬ OnWay w f.b
  pub third_off : 2 < f.need → ¬ OnWay w f.c
  pub two : 1 < f.need → f.a ≢ f.b
  pub ends : 2 < f.need → f.a ≢ f.c
  pub three : 2 < f.need → f.b ≢ f.c
