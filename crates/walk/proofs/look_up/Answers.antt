use Rattle.std.proofs.Common.{◌≡◌, sym, ap, ◌∙◌, arith}
use Rattle.walk.specs.Walk.{walk, found_of}
use Rattle.walk.proofs.Steps.{run_down, run_none}
use Rattle.walk.proofs.look_up.Goals as goal

pub loop-n-init : goal.loop-n-init
loop-n-init c = (omega arith, rw c.begin-p.ensures)

pub loop-n-preserved : goal.loop-n-preserved
loop-n-preserved c = (omega arith, c.loop-n.invariant.1 ∙ (run_down _ _ _ _ _ (omega arith) ∙ rw (c.step-p.ensures.0 (omega arith))))

pub returns : goal.returns
unfolding walk
returns c = let z : c.loop-n.n ≡ 0 = omega arith in rw c.answer.ensures (ap found_of (sym (c.loop-n.invariant.1 ∙ rw z (run_none _ _ _ _))))
