use Rattle.std.proofs.Common.{true, false, sym, refl, ◌∙◌, arith}
use Rattle.word.proofs.Odds.{besides_before, besides_eights, besides_outside, odd_by_one}
use Rattle.word.proofs.scan.besides.Goals as goal

pub blocks-requires : goal.blocks-requires
blocks-requires c = ((sym c.holds.ensures ∙ c.if-holds.true), omega arith)

pub blocks-requires-then-holds : goal.blocks-requires-then-holds
blocks-requires-then-holds c = ((sym c.holds.ensures ∙ c.if-holds.true), omega arith)

pub blocks-requires-then-holds-2 : goal.blocks-requires-then-holds-2
blocks-requires-then-holds-2 c = ((sym c.holds.ensures ∙ c.if-holds.true), omega arith)

pub blocks-requires-then-holds-3 : goal.blocks-requires-then-holds-3
blocks-requires-then-holds-3 c = ((sym c.holds.ensures ∙ c.if-holds.true), omega arith)

pub blocks-requires-then-holds-4 : goal.blocks-requires-then-holds-4
blocks-requires-then-holds-4 c = ((sym c.holds.ensures ∙ c.if-holds.true), omega arith)

pub returns-then-i-ge512 : goal.returns-then-i-ge512
returns-then-i-ge512 c = c.blocks-then-i-ge512.ensures ∙ sym (besides_before _ _ _ _ (sym c.holds.ensures ∙ c.if-holds.true) 512 c.if-i-ge512.true)

pub returns-then-blocks : goal.returns-then-blocks
returns-then-blocks c = sym (besides_eights _ _ _ _ (sym c.holds.ensures ∙ c.if-holds.true) c.if-i-ge512.false true _ _ _ (sym c.if-blocks.true ∙ c.blocks-then-holds.ensures) refl refl refl)

pub returns-then-blocks-2 : goal.returns-then-blocks-2
returns-then-blocks-2 c = sym (besides_eights _ _ _ _ (sym c.holds.ensures ∙ c.if-holds.true) c.if-i-ge512.false false true _ _ (sym c.if-blocks.false ∙ c.blocks-then-holds.ensures) (sym c.if-blocks-2.true ∙ (c.blocks-then-holds-2.ensures ∙ odd_by_one _ _ _ _)) refl refl)

pub returns-then-blocks-3 : goal.returns-then-blocks-3
returns-then-blocks-3 c = sym (besides_eights _ _ _ _ (sym c.holds.ensures ∙ c.if-holds.true) c.if-i-ge512.false false false true _ (sym c.if-blocks.false ∙ c.blocks-then-holds.ensures) (sym c.if-blocks-2.false ∙ (c.blocks-then-holds-2.ensures ∙ odd_by_one _ _ _ _)) (sym c.if-blocks-3.true ∙ (c.blocks-then-holds-3.ensures ∙ odd_by_one _ _ _ _)) refl)

pub returns-then-holds : goal.returns-then-holds
returns-then-holds c = sym (besides_eights _ _ _ _ (sym c.holds.ensures ∙ c.if-holds.true) c.if-i-ge512.false false false false _ (sym c.if-blocks.false ∙ c.blocks-then-holds.ensures) (sym c.if-blocks-2.false ∙ (c.blocks-then-holds-2.ensures ∙ odd_by_one _ _ _ _)) (sym c.if-blocks-3.false ∙ (c.blocks-then-holds-3.ensures ∙ odd_by_one _ _ _ _)) c.blocks-then-holds-4.ensures)

pub returns : goal.returns
returns c = sym (besides_outside _ _ _ _ 512 (sym c.holds.ensures ∙ c.if-holds.false))
