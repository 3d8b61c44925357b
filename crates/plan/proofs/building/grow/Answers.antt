use Rattle.std.proofs.Common.{le-leb}
use borrow.Author.Tests.{lt-leb}
use Rattle.word.proofs.Budget.{wrote_none, wrote_then, wrote_as}
use Rattle.walk.proofs.Digits.{index_lt}
use Rattle.pool.proofs.Opening.{entry_one, clear_all}
use Rattle.plan.specs.Map.{next_of, grow_of}
use Rattle.plan.proofs.Carrying.{stands_wrote}
use Rattle.plan.proofs.building.grow.Goals as goal

pub returns-then-s-target : goal.returns-then-s-target
unfolding next_of grow_of
returns-then-s-target c = record { value = simp (le-leb _ _ c.if-s-target.true); wrote = simp (le-leb _ _ c.if-s-target.true) (wrote_none _ _ _) }

pub returns : goal.returns
unfolding next_of grow_of
returns c = let o = c.requires.1.1 c.if-s-target.false in let w = wrote_as _ _ _ _ _ _ _ (clear_all _ _ c.requires.1.0 _ o.0) c.clear_page.ensures in let i = c.index.ensures.0 c.requires.0.0 in record { value = simp (lt-leb _ _ c.if-s-target.false); wrote = simp (lt-leb _ _ c.if-s-target.false) (wrote_then _ _ _ _ _ _ _ _ _ w (rw (← i, ← c.link.ensures) (wrote_as _ _ _ _ _ _ _ (entry_one _ _ (stands_wrote _ _ _ _ _ _ w c.requires.1.0) _ _ o.1 (rw i (index_lt _ _)) _) c.set_entry.ensures))) }
