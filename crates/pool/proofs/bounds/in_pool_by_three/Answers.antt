use Rattle.std.proofs.Common.{sym, arith}
use Rattle.pool.proofs.Counting.{in_pool_lem, not_in_pool}
use Rattle.pool.proofs.bounds.in_pool_by_three.Goals as goal

pub returns-then-p-space : goal.returns-then-p-space
returns-then-p-space c = sym (not_in_pool _ _ (λ s. omega (arith, s.behind, c.if-p-space.true)))

pub returns-then-i-book_pages : goal.returns-then-i-book_pages
returns-then-i-book_pages c = sym (not_in_pool _ _ (λ s. omega (arith, s.behind, c.if-i-book_pages.true, c.if-p-space.false, c.book_pages.ensures)))

pub returns-then-space-i : goal.returns-then-space-i
returns-then-space-i c = sym (not_in_pool _ _ (λ s. omega (arith, s.before_end, c.if-space-i.true, c.if-p-space.false)))

pub returns : goal.returns
returns c = sym (in_pool_lem _ _ (record { behind = omega (arith, c.if-i-book_pages.false, c.if-p-space.false, c.book_pages.ensures); before_end = omega (arith, c.if-space-i.false) }))
