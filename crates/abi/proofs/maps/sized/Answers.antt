use Rattle.std.proofs.Common.{sym, ap, ◌∙◌}
use Rattle.std.proofs.lemmas.Result.{err_from_is_err_and}
use Rattle.abi.specs.Answers.{mapped_to_c}
use Rattle.abi.proofs.Shortcut.{said, unsaid}
use Rattle.abi.proofs.maps.sized.Goals as goal

pub returns-in_err-a-in-Some : goal.returns-in_err-a-in-Some
unfolding mapped_to_c
returns-in_err-a-in-Some c = let k = said (record { base = c.args.base; frame = c.args.frame; size = c.args.size; rights = c.rights.result }) c.args.origin c.args.pool c.args.pages c.args.root _ _ _ c.at_once.new.mem _ (rw c.in-Some.is at c.at_once.ensures) in let p = err_from_is_err_and c.from_residual.result c.from_residual.ensures.1 in record { answer = rw (p.1, p.2, sym c.rights.ensures) (ap mapped_to_c (sym c.in_err-a-in-Some.was) ∙ k.answer); order = rw (sym c.rights.ensures) k.order }

pub returns-in_ok-a-in-Some : goal.returns-in_ok-a-in-Some
returns-in_ok-a-in-Some c = let k = said (record { base = c.args.base; frame = c.args.frame; size = c.args.size; rights = c.rights.result }) c.args.origin c.args.pool c.args.pages c.args.root _ _ _ c.at_once.new.mem _ (rw c.in-Some.is at c.at_once.ensures) in record { answer = rw (sym c.rights.ensures) (ap mapped_to_c (sym c.in_ok-a-in-Some.was) ∙ k.answer); order = rw (sym c.rights.ensures) k.order }

pub returns-in-None : goal.returns-in-None
returns-in-None c = let k = unsaid (record { base = c.args.base; frame = c.args.frame; size = c.args.size; rights = c.rights.result }) c.args.origin c.args.pool c.args.pages c.args.root _ _ _ c.at_once.new.mem (rw c.in-None.is at c.at_once.ensures) in record { answer = rw (sym k.0) c.whole.ensures.answer; order = rw (sym k.0, sym k.1) c.whole.ensures.order }
