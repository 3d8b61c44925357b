use Rattle.std.proofs.Common.{◌≡◌, ◌-◌, refl, sym, ◌∙◌, arith, mul-zero}
use Rattle.word.proofs.Odds.{odd_none, odd_blocks, block_ends}
use Rattle.word.proofs.scan.blocks.Goals as goal

pub loop-k-init : goal.loop-k-init
loop-k-init g c = refl

pub overflow_mul-k : goal.overflow_mul-k
overflow_mul-k g c = omega (arith, c.requires.1, block_ends g.row.N c.loop-k.k c.args.to (omega arith))

pub block-requires : goal.block-requires
block-requires g c = (c.requires.0, omega (arith, c.requires.1, block_ends g.row.N c.loop-k.k c.args.to (omega arith)))

pub returns-then-is_odd : goal.returns-then-is_odd
returns-then-is_odd g c = sym (c.loop-k.invariant ∙ (odd_blocks _ _ _ _ _ (omega arith) ∙ rw (sym c.block.ensures, sym c.is_odd.ensures, c.if-is_odd.true)))

pub loop-k-preserved : goal.loop-k-preserved
loop-k-preserved g c = c.loop-k.invariant ∙ (odd_blocks _ _ _ _ _ (omega arith) ∙ rw (sym c.block.ensures, sym c.is_odd.ensures, c.if-is_odd.false))

pub returns : goal.returns
returns g c = let y : c.args.to - c.loop-k.k ≡ 0 = omega arith in sym (c.loop-k.invariant ∙ rw (y, mul-zero g.row.N) (odd_none _ _ _))
