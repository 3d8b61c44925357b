use Rattle.std.proofs.Common.{ap, ◌∙◌}
use Rattle.word.proofs.Budget.{wrote_as}
use Rattle.walk.proofs.Digits.{index_lt}
use Rattle.pool.proofs.Opening.{entry_one}
use Rattle.plan.specs.Map.{next_of}
use Rattle.plan.proofs.Carrying.{next_low, second_grows, third_grows, last_in, last_low, stands_wrote, build_wrote}
use Rattle.plan.proofs.building.build.Goals as goal

pub grow-s1-requires : goal.grow-s1-requires
grow-s1-requires c = ((c.requires.0.level, c.requires.0.fresh.a), (c.requires.1, λ u. (c.requires.0.a u, c.requires.0.table)))

pub grow-s2-requires : goal.grow-s2-requires
grow-s2-requires c = ((rw c.grow-s1.ensures.value (next_low _ _ _ c.requires.0.level), c.requires.0.fresh.b), (stands_wrote _ _ _ _ _ _ c.grow-s1.ensures.wrote c.requires.1, second_grows _ _ c.requires.0 _ c.grow-s1.ensures.value))

pub grow-s3-requires : goal.grow-s3-requires
grow-s3-requires c = ((rw (c.grow-s2.ensures.value, c.grow-s1.ensures.value) (next_low _ _ _ (next_low _ _ _ c.requires.0.level)), c.requires.0.fresh.c), (stands_wrote _ _ _ _ _ _ c.grow-s2.ensures.wrote (stands_wrote _ _ _ _ _ _ c.grow-s1.ensures.wrote c.requires.1), third_grows _ _ c.requires.0 _ (c.grow-s2.ensures.value ∙ ap (next_of c.args.m.target c.args.m.fresh.b) c.grow-s1.ensures.value)))

pub returns : goal.returns
returns c = let e1 = c.grow-s1.ensures.value in let e2 = c.grow-s2.ensures.value in let e3 = c.grow-s3.ensures.value in let c3 = e3 ∙ ap (next_of c.args.m.target c.args.m.fresh.c) (e2 ∙ ap (next_of c.args.m.target c.args.m.fresh.b) e1) in let i = c.index.ensures.0 (last_low _ _ c.requires.0 _ c3) in let st = stands_wrote _ _ _ _ _ _ c.grow-s3.ensures.wrote (stands_wrote _ _ _ _ _ _ c.grow-s2.ensures.wrote (stands_wrote _ _ _ _ _ _ c.grow-s1.ensures.wrote c.requires.1)) in build_wrote _ _ _ _ _ _ _ _ _ _ _ _ _ _ _ _ c.requires.0.level e1 e2 e3 c.grow-s1.ensures.wrote c.grow-s2.ensures.wrote c.grow-s3.ensures.wrote c.index.ensures.0 (wrote_as _ _ _ _ _ _ _ (entry_one _ _ st _ _ (last_in _ _ c.requires.0 _ c3) (rw i (index_lt _ _)) _) c.set_entry.ensures)
