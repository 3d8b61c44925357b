use Rattle.std.proofs.Common.{sym, ◌∙◌}
use Rattle.std.proofs.lemmas.Result.{err_from_is_err_and}
use Rattle.plan.specs.Map.{fresh_of, fresh_three}
use Rattle.plan.proofs.Exits.{or_ok, or_err}
use Rattle.plan.proofs.maps.take_fresh.Goals as goal

pub returns-in_err-a : goal.returns-in_err-a
unfolding fresh_of fresh_three
returns-in_err-a c = let p = err_from_is_err_and c.from_residual.result c.from_residual.ensures.1 in let q = or_err _ _ _ _ c.ok_or.ensures.value c.in_err-a.was in rw (p.1, p.2, q.1, sym c.nth.ensures ∙ q.0)

pub returns-in_err-b : goal.returns-in_err-b
unfolding fresh_of fresh_three
returns-in_err-b c = let p = err_from_is_err_and c.from_residual-in_err-b.result c.from_residual-in_err-b.ensures.1 in let q = or_err _ _ _ _ c.ok_or-2.ensures.value c.in_err-b.was in rw (p.1, p.2, q.1, sym c.nth.ensures ∙ or_ok _ _ _ _ c.ok_or.ensures.value c.in_ok-a.was, sym c.nth-2.ensures ∙ q.0)

pub returns-in_err-c : goal.returns-in_err-c
unfolding fresh_of fresh_three
returns-in_err-c c = let p = err_from_is_err_and c.from_residual-in_err-c.result c.from_residual-in_err-c.ensures.1 in let q = or_err _ _ _ _ c.ok_or-3.ensures.value c.in_err-c.was in rw (p.1, p.2, q.1, sym c.nth.ensures ∙ or_ok _ _ _ _ c.ok_or.ensures.value c.in_ok-a.was, sym c.nth-2.ensures ∙ or_ok _ _ _ _ c.ok_or-2.ensures.value c.in_ok-b.was, sym c.nth-3.ensures ∙ q.0)

pub returns : goal.returns
unfolding fresh_of fresh_three
returns c = rw (sym c.nth.ensures ∙ or_ok _ _ _ _ c.ok_or.ensures.value c.in_ok-a.was, sym c.nth-2.ensures ∙ or_ok _ _ _ _ c.ok_or-2.ensures.value c.in_ok-b.was, sym c.nth-3.ensures ∙ or_ok _ _ _ _ c.ok_or-3.ensures.value c.in_ok-c.was)
