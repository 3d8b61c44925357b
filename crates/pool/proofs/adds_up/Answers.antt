use Rattle.std.proofs.Common.{sym, arith}
use Rattle.pool.proofs.Counting.{unsound, sound_last}
use Rattle.pool.proofs.adds_up.Goals as goal

pub returns-then-pages-gt-MOST : goal.returns-then-pages-gt-MOST
returns-then-pages-gt-MOST c = sym (unsound _ _ (λ s. omega (arith, s.small, c.if-pages-gt-MOST.true)))

pub returns-then-pages-b : goal.returns-then-pages-b
returns-then-pages-b c = sym (unsound _ _ (λ s. omega (arith, s.head_in, c.if-pages-b.true)))

pub returns-then-pages-used : goal.returns-then-pages-used
returns-then-pages-used c = sym (unsound _ _ (λ s. omega (arith, s.room, c.if-pages-used.true, c.book_by_half-used.ensures)))

pub returns-then-most-b : goal.returns-then-most-b
returns-then-most-b c = sym (unsound _ _ (λ s. omega (arith, s.room, c.if-most-b.true, c.book_by_half-used.ensures)))

pub returns-then-most-b-2 : goal.returns-then-most-b-2
returns-then-most-b-2 c = sym (unsound _ _ (λ s. omega (arith, s.room, c.if-most-b-2.true, c.if-most-b.false, c.book_by_half-used.ensures)))

pub returns : goal.returns
returns c =
    sound_last _ _ c.if-pages-gt-MOST.false
    c.if-pages-b.false (omega (
      arith,
      c.if-pages-used.false,
      c.if-most-b.false,
      c.if-most-b-2.false,
      c.book_by_half-used.ensures,
    ))
