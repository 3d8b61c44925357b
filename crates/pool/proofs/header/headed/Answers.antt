use Rattle.std.proofs.Common.{eq-eqb, ne_eqb}
use Rattle.pool.specs.Layout.{signature_at, pages_at, root_at}
use Rattle.pool.specs.Book.{headed_of}
use Rattle.pool.proofs.header.headed.Goals as goal

pub returns-then-get-ne-SIGNATURE : goal.returns-then-get-ne-SIGNATURE
unfolding headed_of signature_at
returns-then-get-ne-SIGNATURE c = λ f. rw (← c.get.ensures.in_memory f) (simp (ne_eqb _ _ c.if-get-ne-SIGNATURE.true))

pub returns-then-get-space : goal.returns-then-get-space
unfolding headed_of signature_at pages_at
returns-then-get-space c = λ f. rw (← c.get.ensures.in_memory f, ← c.get-2.ensures.in_memory f) (simp (eq-eqb _ _ c.if-get-ne-SIGNATURE.false, ne_eqb _ _ c.if-get-space.true))

pub returns-then-get-space-2 : goal.returns-then-get-space-2
unfolding headed_of signature_at pages_at root_at
returns-then-get-space-2 c = λ f. rw (← c.get.ensures.in_memory f, ← c.get-2.ensures.in_memory f, ← c.get-3.ensures.in_memory f) (simp (eq-eqb _ _ c.if-get-ne-SIGNATURE.false, eq-eqb _ _ c.if-get-space.false, ne_eqb _ _ c.if-get-space-2.true))

pub returns : goal.returns
unfolding headed_of signature_at pages_at root_at
returns c = λ f. rw (← c.get.ensures.in_memory f, ← c.get-2.ensures.in_memory f, ← c.get-3.ensures.in_memory f) (simp (eq-eqb _ _ c.if-get-ne-SIGNATURE.false, eq-eqb _ _ c.if-get-space.false, eq-eqb _ _ c.if-get-space-2.false))
