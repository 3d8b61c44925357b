use Rattle.pool.specs.Layout.{slot_at}
use Rattle.std.proofs.Common.{sym, ◌∙◌, arith, le-ltb, lt-ltb}
use Rattle.pool.specs.Book.{listed_of}
use Rattle.pool.proofs.Counting.{adds_up_is, slot_in}
use Rattle.pool.proofs.free_page.Goals as goal

pub returns-then-book-k : goal.returns-then-book-k
unfolding listed_of
returns-then-book-k c = simp (le-ltb _ _ c.if-book-k.true)

pub overflow_add-slot : goal.overflow_add-slot
overflow_add-slot c = let s = adds_up_is _ _ (sym c.adds_up.ensures ∙ c.if-adds_up.true) in omega (arith, s.small, c.slot.ensures, slot_in _ _ c.args.k s.head_in (omega (arith, s.room, c.if-book-k.false)))

pub returns-then-adds_up : goal.returns-then-adds_up
unfolding listed_of slot_at
returns-then-adds_up c = simp (lt-ltb _ _ c.if-book-k.false, sym c.adds_up.ensures ∙ c.if-adds_up.true, c.named.ensures, c.slot.ensures)

pub returns : goal.returns
unfolding listed_of
returns c = simp (lt-ltb _ _ c.if-book-k.false, sym c.adds_up.ensures ∙ c.if-adds_up.false)
