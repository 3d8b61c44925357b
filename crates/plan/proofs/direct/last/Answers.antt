use Rattle.std.proofs.Common.{sym, ◌∙◌, arith}
use Rattle.std.proofs.lemmas.Result.{err_from_is_err_and}
use Rattle.word.specs.Memory.{memory, holds}
use Rattle.plan.specs.Descend.{no_way}
use Rattle.plan.proofs.Leads.{lead_on, leads, ends_stop}
use Rattle.plan.proofs.direct.last.Goals as goal

pub returns-then-target-eq2 : goal.returns-then-target-eq2
returns-then-target-eq2 c = λ k. rw (sym c.follow.ensures ∙ c.in_ok-u.was) at (leads (holds c.args.at.mem.now c.args.at.space.origin) (memory c.args.at.mem.now c.args.at.space.origin) c.args.at.space c.args.target c.args.va 3 c.args.at.space.root no_way (omega (arith, c.if-target-eq2.true)))

pub returns-in_err-u : goal.returns-in_err-u
returns-in_err-u c = λ k. let p = err_from_is_err_and c.from_residual.result c.from_residual.ensures.1 in rw (p.1, p.2) (ends_stop _ _ _ _ _ 3 _ _ _ (sym c.follow.ensures ∙ c.in_err-u.was))

pub returns : goal.returns
returns c = λ k. rw (lead_on _ _ _ c.args.target _ 3 _ _ _ (λ z. omega (arith, z, k)) (sym c.follow.ensures ∙ c.in_ok-u.was)) (c.down.ensures (omega (arith, k, c.if-target-eq2.false)) _)
