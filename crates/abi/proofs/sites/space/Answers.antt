use borrow.Author.Tests.{eq-eqb, ne_eqb}
use Rattle.abi.specs.Calls.{site_of}
use Rattle.abi.proofs.sites.space.Goals as goal

pub returns-then-pool-ne0 : goal.returns-then-pool-ne0
unfolding site_of
returns-then-pool-ne0 c = simp (ne_eqb _ _ c.if-pool-ne0.true)

pub returns-then-root-ne0 : goal.returns-then-root-ne0
unfolding site_of
returns-then-root-ne0 c = simp (eq-eqb _ _ c.if-pool-ne0.false, ne_eqb _ _ c.if-root-ne0.true)

pub returns : goal.returns
unfolding site_of
returns c = simp (eq-eqb _ _ c.if-pool-ne0.false, eq-eqb _ _ c.if-root-ne0.false)
