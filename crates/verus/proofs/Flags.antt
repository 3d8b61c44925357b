-- Rights combine as flags do.
use mathlib.Core.Bool.{Bool, true, false, not, ◌&&◌, ◌||◌}
use mathlib.Core.Path.{◌≡◌, refl}
use Rattle.entry.specs.Entry.{both}
use Rattle.entry.specs.declared.Rights.{Rights}
use Rattle.verus.specs.Regions.{from_bits, combine}

pub both_combine : (a b : Rights) → from_bits (both a b) ≡ combine (from_bits a) (from_bits b)
unfolding from_bits both combine
both_combine a b = rw (neither a.user b.user)
  where
    neither : (x y : Bool) → not (x && y) ≡ not x || not y
    neither true y = refl
    neither false y = refl
