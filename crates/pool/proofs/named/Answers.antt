use Rattle.std.proofs.Common.{◌+◌, ◌/◌, sym, ◌∙◌, arith}
use Rattle.pool.specs.Book.{named_of}
use Rattle.word.proofs.Holding.{far}
use Rattle.pool.proofs.Opening.{named_word, named_outside}
use Rattle.pool.proofs.named.Goals as goal

pub returns-then-space-ge-PAGE_COUNT : goal.returns-then-space-ge-PAGE_COUNT
unfolding named_of
returns-then-space-ge-PAGE_COUNT c = rw (far c.args.mem.now c.args.space.origin (c.args.space.first + c.args.k / 512) (omega arith))

pub returns : goal.returns
returns c = c.usable.ensures ∙ named_word _ _ _ _ (sym (rw c.run_of.ensures at c.read_any.ensures) ∙ c.in_ok-p.was)

pub returns-in_err-p : goal.returns-in_err-p
returns-in_err-p c = rw c.from_residual.ensures (named_outside _ _ _ (sym (rw c.run_of.ensures at c.read_any.ensures) ∙ c.in_err-p.was))
