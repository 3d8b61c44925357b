use Rattle.std.proofs.Common.{sym, ◌∙◌}
use Rattle.pool.proofs.Opening.{now_is}
use Rattle.pool.specs.Book.{counts_of}
use Rattle.pool.proofs.header.counts.Goals as goal

pub returns-then-adds_up : goal.returns-then-adds_up
unfolding counts_of
returns-then-adds_up c = λ f. rw (← (c.book_now-b.ensures ∙ now_is _ _ f)) (simp (sym c.adds_up.ensures ∙ c.if-adds_up.true))

pub returns : goal.returns
unfolding counts_of
returns c = λ f. rw (← (c.book_now-b.ensures ∙ now_is _ _ f)) (simp (sym c.adds_up.ensures ∙ c.if-adds_up.false))
