use Rattle.std.proofs.Common.{refl}
use Rattle.plan.proofs.Placings.{place_pages}
use Rattle.plan.proofs.maps.Page.placed.Goals as goal

pub returns : goal.returns
returns c = λ u. place_pages _ _ _ _ _ c.args.self.made _ _ refl u
