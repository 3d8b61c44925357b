use Rattle.std.proofs.Common.{sym, ◌∙◌, arith}
use mathlib.Core.Bool.{false≢true}
use Rattle.word.proofs.Runs.{run_spans, spans_run, among_last, not_among}
use Rattle.word.proofs.run.Run.has.Goals as goal

pub returns-then-i-ge512 : goal.returns-then-i-ge512
returns-then-i-ge512 c = sym (not_among _ _ _ _ _ _ _ (λ a. omega (arith, a.small, c.if-i-ge512.true)))

pub overflow_add-self : goal.overflow_add-self
overflow_add-self c = let r = spans_run _ _ _ _ (sym c.spans.ensures ∙ c.if-spans.true) in omega (arith, r.end)

pub returns-then-self : goal.returns-then-self
returns-then-self c = among_last _ _ _ _ _ _ _ _ (spans_run _ _ _ _ (sym c.spans.ensures ∙ c.if-spans.true)) c.if-i-ge512.false c.if-self.true (omega arith) (omega arith) c.wrapping_sub_u64.ensures.value

pub returns-else-self : goal.returns-else-self
returns-else-self c = sym (not_among _ _ _ _ _ _ _ (λ a. omega (arith, a.behind, a.before_end, c.if-self.false)))

pub returns-else-spans : goal.returns-else-spans
returns-else-spans c = sym (not_among _ _ _ _ _ _ _ (λ a. false≢true (sym (sym c.spans.ensures ∙ c.if-spans.false) ∙ run_spans _ _ _ _ a.run)))
