use Rattle.pool.specs.Layout.{aside_at, slot_at}
use Rattle.std.proofs.Common.{◌+◌, sym, ◌∙◌, arith}
use Rattle.word.proofs.Budget.{wrote_none, wrote_then}
use Rattle.pool.specs.Changes.{aside_writes, aside_book}
use Rattle.pool.proofs.Counting.{adds_up_is, slot_in}
use Rattle.pool.proofs.changes.set_aside.Goals as goal

pub overflow_add-book : goal.overflow_add-book
overflow_add-book c = let s = adds_up_is _ _ (sym c.adds_up.ensures ∙ c.if-adds_up.true) in omega (arith, s.small, s.room)

pub overflow_add-at : goal.overflow_add-at
overflow_add-at c =
    let s = adds_up_is _ _ (sym c.adds_up.ensures ∙ c.if-adds_up.true) in
    let b = c.args.book in
    omega (arith, s.small, c.slot-at.ensures, slot_in _ _ (b.free + b.aside) s.head_in (omega (arith, s.room)))

pub overflow_add-book-then-adds_up : goal.overflow_add-book-then-adds_up
overflow_add-book-then-adds_up c =
    let s = adds_up_is _ _ (sym c.adds_up.ensures ∙ c.if-adds_up.true) in
    omega (arith, s.small, s.room)

pub overflow_add-result : goal.overflow_add-result
overflow_add-result c = let s = adds_up_is _ _ (sym c.adds_up.ensures ∙ c.if-adds_up.true) in omega (arith, s.small, s.room)

pub returns-then-adds_up : goal.returns-then-adds_up
unfolding aside_writes aside_book aside_at slot_at
returns-then-adds_up c =
    let e = sym c.adds_up.ensures ∙ c.if-adds_up.true in
    let both = wrote_then _ _ _ _ _ _ _ _ _ c.put.ensures c.put-then-adds_up.ensures in record { value = rw e; wrote = simp e (rw (← c.slot-at.ensures) both) }

pub returns : goal.returns
unfolding aside_writes aside_book
returns c = let e = sym c.adds_up.ensures ∙ c.if-adds_up.false in record { value = rw e; wrote = simp e (wrote_none _ _ _) }
