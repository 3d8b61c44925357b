use Rattle.std.proofs.Common.{sym, ◌∙◌, eq-eqb, ne_eqb}
use Rattle.pool.specs.Book.{usable_of}
use Rattle.pool.proofs.usable.Goals as goal

pub returns-then-p-space : goal.returns-then-p-space
unfolding usable_of
returns-then-p-space c = simp (eq-eqb _ _ c.if-p-space.true)

pub returns-then-in_pool : goal.returns-then-in_pool
unfolding usable_of
returns-then-in_pool c = simp (ne_eqb _ _ c.if-p-space.false, sym c.in_pool.ensures ∙ c.if-in_pool.true)

pub returns : goal.returns
unfolding usable_of
returns c = simp (ne_eqb _ _ c.if-p-space.false, sym c.in_pool.ensures ∙ c.if-in_pool.false)
