use Rattle.std.proofs.Common.{◌≡◌, sym, ◌∙◌, arith}
use Rattle.std.proofs.lemmas.Result.{err_from_is_err_and}
use Rattle.word.specs.Memory.{memory, holds}
use Rattle.plan.proofs.Leads.{lead_on, leads, ends_stop}
use Rattle.plan.proofs.direct.down.Goals as goal

pub returns-then-target-eq1 : goal.returns-then-target-eq1
returns-then-target-eq1 c = λ k w. rw (sym c.follow.ensures ∙ c.in_ok-u.was) at (leads (holds c.args.at.mem.now c.args.at.space.origin) (memory c.args.at.mem.now c.args.at.space.origin) c.args.at.space c.args.target c.args.va 2 c.args.t w (omega (arith, c.if-target-eq1.true)))

pub returns-in_err-u : goal.returns-in_err-u
returns-in_err-u c = λ k w. let p = err_from_is_err_and c.from_residual.result c.from_residual.ensures.1 in rw (p.1, p.2) (ends_stop _ _ _ _ _ 2 _ w _ (sym c.follow.ensures ∙ c.in_err-u.was))

pub returns : goal.returns
returns c = λ k w. rw (lead_on _ _ _ c.args.target _ 2 _ _ w (λ z. omega (arith, z, k)) (sym c.follow.ensures ∙ c.in_ok-u.was), c.follow-2.ensures) (leads _ _ _ _ _ 1 _ _ (let z : c.args.target ≡ 0 = omega (arith, k, c.if-target-eq1.false) in omega (arith, z)))
