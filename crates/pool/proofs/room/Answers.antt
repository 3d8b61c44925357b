use Rattle.std.proofs.Common.{◌+◌, sym, ◌∙◌, arith, le-leb}
use borrow.Author.Tests.{lt-leb}
use Rattle.pool.specs.Layout.{book_pages}
use Rattle.pool.specs.Book.{room_of}
use Rattle.word.proofs.Runs.{spans_ends}
use Rattle.pool.proofs.room.Goals as goal

pub returns-then-pages-gt-MOST : goal.returns-then-pages-gt-MOST
unfolding room_of
returns-then-pages-gt-MOST c = simp (lt-leb _ _ c.if-pages-gt-MOST.true)

pub overflow_add-book_of : goal.overflow_add-book_of
unfolding book_pages
overflow_add-book_of c = omega (arith, c.book_of.ensures)

pub returns-then-pages-book_of : goal.returns-then-pages-book_of
unfolding room_of
returns-then-pages-book_of c = simp (le-leb _ _ c.if-pages-gt-MOST.false, lt-leb (book_pages c.args.pages + 2) c.args.pages (omega (arith, c.if-pages-book_of.true, c.book_of.ensures)))

pub returns-then-spans : goal.returns-then-spans
unfolding room_of
returns-then-spans c =
    simp (
      le-leb _ _ c.if-pages-gt-MOST.false,
      le-leb (book_pages
          c.args.pages + 2) c.args.pages
          (omega (arith, c.if-pages-book_of.false, c.book_of.ensures)),
      sym (spans_ends _ _ _ _ (omega (
        arith,
        c.if-pages-book_of.false,
      ))) ∙ (sym c.spans.ensures ∙ c.if-spans.true),
    )

pub returns : goal.returns
unfolding room_of
returns c =
    simp (
      le-leb _ _ c.if-pages-gt-MOST.false,
      le-leb (book_pages
          c.args.pages + 2) c.args.pages
          (omega (arith, c.if-pages-book_of.false, c.book_of.ensures)),
      sym (spans_ends _ _ _ _ (omega (
        arith,
        c.if-pages-book_of.false,
      ))) ∙ (sym c.spans.ensures ∙ c.if-spans.false),
    )
