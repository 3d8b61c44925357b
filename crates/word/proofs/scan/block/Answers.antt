use Rattle.std.proofs.Common.{refl, sym, ◌∙◌}
use Rattle.word.proofs.Odds.{odd_or, odd_zero, odd_none, odd_last}
use Rattle.word.proofs.scan.block.Goals as goal

pub loop-j-init : goal.loop-j-init
loop-j-init g c = odd_zero _ refl ∙ sym (odd_none _ _ _)

pub loop-j-preserved : goal.loop-j-preserved
loop-j-preserved g c = odd_or c.loop-j.all c.word-all.result ∙ sym (odd_last _ _ c.args.k c.loop-j.j ∙ rw (sym c.loop-j.invariant, sym c.word-all.ensures))
