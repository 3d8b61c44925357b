use Rattle.std.proofs.Common.{◌+◌, ◌<◌, ◌≤◌, sym, ◌∙◌, arith, le-leb}
use borrow.Author.Tests.{lt-leb}
use Rattle.pool.specs.Layout.{book_pages}
use Rattle.pool.specs.Stands.{takes_of}
use Rattle.pool.proofs.Counting.{adds_up_is}
use Rattle.pool.proofs.changes.takes.Goals as goal

pub overflow_sub-most : goal.overflow_sub-most
overflow_sub-most c = let s = adds_up_is _ _ (sym c.adds_up.ensures ∙ c.if-adds_up.true) in omega (arith, s.room, c.book_pages.ensures)

pub overflow_sub-most-then-adds_up : goal.overflow_sub-most-then-adds_up
overflow_sub-most-then-adds_up c = let s = adds_up_is _ _ (sym c.adds_up.ensures ∙ c.if-adds_up.true) in omega (arith, s.room, c.book_pages.ensures)

pub overflow_sub-most-then-adds_up-2 : goal.overflow_sub-most-then-adds_up-2
overflow_sub-most-then-adds_up-2 c = let s = adds_up_is _ _ (sym c.adds_up.ensures ∙ c.if-adds_up.true) in omega (arith, s.room, c.book_pages.ensures)

pub overflow_sub-most-then-adds_up-3 : goal.overflow_sub-most-then-adds_up-3
overflow_sub-most-then-adds_up-3 c = let s = adds_up_is _ _ (sym c.adds_up.ensures ∙ c.if-adds_up.true) in omega (arith, s.room, c.book_pages.ensures)

pub returns-then-most-book : goal.returns-then-most-book
unfolding takes_of
returns-then-most-book c =
    let h = sym c.adds_up.ensures ∙ c.if-adds_up.true in
    let s = adds_up_is _ _ h in
    let a = c.args in
    let u : a.space.pages < a.book.free + a.book.aside + a.n + book_pages a.space.pages + 1
    = omega (arith, s.room, c.book_pages.ensures, c.if-most-book.true) in
    simp (h, lt-leb _ _ u)

pub returns-then-adds_up : goal.returns-then-adds_up
unfolding takes_of
returns-then-adds_up c =
    let h = sym c.adds_up.ensures ∙ c.if-adds_up.true in
    let s = adds_up_is _ _ h in
    let a = c.args in
    let u : a.book.free + a.book.aside + a.n + book_pages a.space.pages + 1 ≤ a.space.pages
    = omega (arith, s.room, c.book_pages.ensures, c.if-most-book.false) in
    simp (h, le-leb _ _ u)

pub returns : goal.returns
unfolding takes_of
returns c = simp (sym c.adds_up.ensures ∙ c.if-adds_up.false)
