use Rattle.walk.proofs.Addresses.{by_wrapping}
use Rattle.walk.proofs.canonical.Goals as goal

pub returns : goal.returns
returns c = by_wrapping _ _ c.well_formed.0.1 c.wrapping_add_u64.ensures.value
