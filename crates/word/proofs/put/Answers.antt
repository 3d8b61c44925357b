use Rattle.std.proofs.Common.{sym, ◌∙◌, arith, le-ltb, lt-ltb}
use Rattle.word.specs.Memory.{written}
use Rattle.word.proofs.Memory.{offset}
use Rattle.word.proofs.put.Goals as goal

pub returns-then-i-ge512 : goal.returns-then-i-ge512
unfolding written
returns-then-i-ge512 c = simp (le-ltb _ _ c.if-i-ge512.true)

pub overflow_mul-p : goal.overflow_mul-p
overflow_mul-p c = omega (arith, (offset _ _ _ _ (sym c.holds.ensures ∙ c.if-holds.true) c.if-i-ge512.false).product)

pub overflow_sub-p : goal.overflow_sub-p
overflow_sub-p c = (offset _ _ _ _ (sym c.holds.ensures ∙ c.if-holds.true) c.if-i-ge512.false).above

pub overflow_add-p : goal.overflow_add-p
overflow_add-p c = omega (arith, (offset _ _ _ _ (sym c.holds.ensures ∙ c.if-holds.true) c.if-i-ge512.false).fits)

pub store-requires : goal.store-requires
store-requires c = (offset _ _ _ _ (sym c.holds.ensures ∙ c.if-holds.true) c.if-i-ge512.false).fits

pub returns-then-holds : goal.returns-then-holds
unfolding written
returns-then-holds c = let h = sym c.holds.ensures ∙ c.if-holds.true in simp (lt-ltb _ _ c.if-i-ge512.false, h, c.store.ensures, (offset _ _ _ _ h c.if-i-ge512.false).same)

pub returns-else-holds : goal.returns-else-holds
unfolding written
returns-else-holds c = simp (lt-ltb _ _ c.if-i-ge512.false, sym c.holds.ensures ∙ c.if-holds.false)
