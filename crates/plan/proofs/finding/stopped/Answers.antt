use Rattle.plan.proofs.Arrivals.{stopped_far, stopped_stray, stopped_nothing, stopped_table, stopped_page, stopped_astride}
use Rattle.std.proofs.Common.{sym, ◌∙◌, arith}
use Rattle.plan.proofs.finding.stopped.Goals as goal

pub returns-then-w-gt3 : goal.returns-then-w-gt3
returns-then-w-gt3 c = λ w p e. stopped_far _ _ w e c.if-w-gt3.true

pub returns-then-starts : goal.returns-then-starts
returns-then-starts c = λ w p e. stopped_page _ _ w e c.if-w-gt3.false c.in-Page.is p (sym (c.starts.ensures (omega (arith, c.if-w-gt3.false))) ∙ c.if-starts.true) _ (c.size.ensures.0 (omega (arith, c.if-w-gt3.false)))

pub returns-in-Stray : goal.returns-in-Stray
returns-in-Stray c = λ w p e. stopped_stray _ _ w e c.if-w-gt3.false c.in-Stray.is

pub returns-in-Nothing : goal.returns-in-Nothing
returns-in-Nothing c = λ w p e. stopped_nothing _ _ w e c.if-w-gt3.false c.in-Nothing.is

pub returns-in-Table : goal.returns-in-Table
returns-in-Table c = λ w p e. stopped_table _ _ w e c.if-w-gt3.false c.in-Table.is

pub returns-else-starts : goal.returns-else-starts
returns-else-starts c = λ w p e. stopped_astride _ _ w e c.if-w-gt3.false c.in-Page.is (sym (c.starts.ensures (omega (arith, c.if-w-gt3.false))) ∙ c.if-starts.false)
