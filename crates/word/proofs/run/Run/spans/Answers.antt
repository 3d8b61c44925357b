use Rattle.std.proofs.Common.{sym, arith}
use Rattle.word.proofs.Runs.{no_run, spans_last}
use Rattle.word.proofs.run.Run.spans.Goals as goal

pub returns-then-self-gt-PAGE_COUNT : goal.returns-then-self-gt-PAGE_COUNT
returns-then-self-gt-PAGE_COUNT c = sym (no_run _ _ _ _ (λ r. omega (arith, r.end, c.if-self-gt-PAGE_COUNT.true)))

pub returns-then-self : goal.returns-then-self
returns-then-self c = sym (no_run _ _ _ _ (λ r. omega (arith, r.end, c.if-self.true)))

pub returns-then-self-2 : goal.returns-then-self-2
returns-then-self-2 c = sym (no_run _ _ _ _ (λ r. omega (arith, r.from, c.if-self-2.true)))

pub returns : goal.returns
returns c = spans_last _ _ _ _ (omega (arith, c.if-self.false)) (omega (arith, c.if-self-2.false))
