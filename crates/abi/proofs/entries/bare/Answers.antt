use Rattle.abi.specs.Entries.{bare_of}
use Rattle.abi.proofs.entries.bare.Goals as goal

pub returns : goal.returns
unfolding bare_of
returns c = rw (c.default.ensures.1.0, c.default.ensures.1.1.0, c.default.ensures.1.1.1)
