use mathlib.Core.Path.{sym, ◌∙◌}
use borrow.Author.Tests.{eq-eqb, ne_eqb}
use Rattle.std.proofs.lemmas.Result.{err_from_is_err_and}
use Rattle.word.proofs.Budget.{wrote_none}
use Rattle.abi.specs.ReasonNumbers.{reason_of}
use Rattle.abi.specs.Answers.{created_to_c}
use Rattle.abi.specs.Calls.{create_answer, create_writes}
use Rattle.abi.proofs.Rooted.{root_low}
use Rattle.abi.proofs.up_to.create_up_to.Goals as goal

pub returns-then-origin-ne0-clause-answer : goal.returns-then-origin-ne0-clause-answer
unfolding create_answer reason_of
returns-then-origin-ne0-clause-answer c = rw (c.into.ensures, ne_eqb _ _ c.if-origin-ne0.true)

pub returns-then-origin-ne0-clause-order : goal.returns-then-origin-ne0-clause-order
unfolding create_writes
returns-then-origin-ne0-clause-order c = rw (ne_eqb _ _ c.if-origin-ne0.true) (wrote_none _ _ _)

pub returns-then-mem-ne0-clause-answer : goal.returns-then-mem-ne0-clause-answer
unfolding create_answer reason_of
returns-then-mem-ne0-clause-answer c = rw (c.into-then-mem-ne0.ensures, eq-eqb _ _ c.if-origin-ne0.false, ne_eqb _ _ c.if-mem-ne0.true)

pub returns-then-mem-ne0-clause-order : goal.returns-then-mem-ne0-clause-order
unfolding create_writes
returns-then-mem-ne0-clause-order c = rw (eq-eqb _ _ c.if-origin-ne0.false, ne_eqb _ _ c.if-mem-ne0.true) (wrote_none _ _ _)

pub returns-then-pool-ne0-clause-answer : goal.returns-then-pool-ne0-clause-answer
unfolding create_answer
returns-then-pool-ne0-clause-answer c = rw (eq-eqb _ _ c.if-origin-ne0.false, eq-eqb _ _ c.if-mem-ne0.false, ne_eqb _ _ c.if-pool-ne0.true)

pub returns-then-pool-ne0-clause-order : goal.returns-then-pool-ne0-clause-order
unfolding create_writes
returns-then-pool-ne0-clause-order c = rw (eq-eqb _ _ c.if-origin-ne0.false, eq-eqb _ _ c.if-mem-ne0.false, ne_eqb _ _ c.if-pool-ne0.true) (wrote_none _ _ _)

pub returns-in_err-create_up_to-clause-answer : goal.returns-in_err-create_up_to-clause-answer
unfolding create_answer created_to_c reason_of
returns-in_err-create_up_to-clause-answer c = let p = err_from_is_err_and c.from_residual.result c.from_residual.ensures.1 in rw (p.1, p.2, eq-eqb _ _ c.if-origin-ne0.false, eq-eqb _ _ c.if-mem-ne0.false, eq-eqb _ _ c.if-pool-ne0.false, sym c.create_up_to.ensures.answer ∙ c.in_err-create_up_to.was)

pub returns-in_err-create_up_to-clause-order : goal.returns-in_err-create_up_to-clause-order
unfolding create_writes
returns-in_err-create_up_to-clause-order c = rw (eq-eqb _ _ c.if-origin-ne0.false, eq-eqb _ _ c.if-mem-ne0.false, eq-eqb _ _ c.if-pool-ne0.false) c.create_up_to.ensures.order

pub returns-clause-answer : goal.returns-clause-answer
unfolding create_answer
returns-clause-answer c = rw (eq-eqb _ _ c.if-origin-ne0.false, eq-eqb _ _ c.if-mem-ne0.false, eq-eqb _ _ c.if-pool-ne0.false, sym c.create_up_to.ensures.answer ∙ c.in_ok-create_up_to.was)

pub returns-clause-low : goal.returns-clause-low
returns-clause-low c = root_low _ _ _ _ _ _ c.create_up_to.ensures.answer _ c.in_ok-create_up_to.was

pub returns-clause-order : goal.returns-clause-order
unfolding create_writes
returns-clause-order c = rw (eq-eqb _ _ c.if-origin-ne0.false, eq-eqb _ _ c.if-mem-ne0.false, eq-eqb _ _ c.if-pool-ne0.false) c.create_up_to.ensures.order
