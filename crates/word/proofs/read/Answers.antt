use Rattle.std.proofs.Common.{sym, ◌∙◌, arith, le-ltb, lt-ltb}
use Rattle.word.specs.Memory.{read_of}
use Rattle.word.proofs.Memory.{offset, memory_in, held, held_lies}
use Rattle.word.proofs.read.Goals as goal

pub returns-then-i-ge512 : goal.returns-then-i-ge512
unfolding read_of
returns-then-i-ge512 c = simp (le-ltb _ _ c.if-i-ge512.true)

pub overflow_mul-p : goal.overflow_mul-p
overflow_mul-p c = omega (arith, (offset _ _ _ _ (sym c.holds_to_read.ensures ∙ c.if-holds_to_read.true) c.if-i-ge512.false).product)

pub overflow_sub-p : goal.overflow_sub-p
overflow_sub-p c = (offset _ _ _ _ (sym c.holds_to_read.ensures ∙ c.if-holds_to_read.true) c.if-i-ge512.false).above

pub overflow_add-p : goal.overflow_add-p
overflow_add-p c = omega (arith, (offset _ _ _ _ (sym c.holds_to_read.ensures ∙ c.if-holds_to_read.true) c.if-i-ge512.false).fits)

pub load-requires : goal.load-requires
load-requires c = (offset _ _ _ _ (sym c.holds_to_read.ensures ∙ c.if-holds_to_read.true) c.if-i-ge512.false).fits

pub returns-then-holds_to_read : goal.returns-then-holds_to_read
unfolding read_of
returns-then-holds_to_read c = let h = sym c.holds_to_read.ensures ∙ c.if-holds_to_read.true in simp (lt-ltb _ _ c.if-i-ge512.false, h, c.load.ensures, (offset _ _ _ _ h c.if-i-ge512.false).same, memory_in _ _ _ (held_lies _ _ _ _ (held _ _ _ h) c.if-i-ge512.false))

pub returns : goal.returns
unfolding read_of
returns c = simp (lt-ltb _ _ c.if-i-ge512.false, sym c.holds_to_read.ensures ∙ c.if-holds_to_read.false)
