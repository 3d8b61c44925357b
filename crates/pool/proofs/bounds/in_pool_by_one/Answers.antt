use Rattle.std.proofs.Common.{sym, arith}
use Rattle.pool.proofs.Counting.{in_pool_lem, not_in_pool}
use Rattle.pool.proofs.bounds.in_pool_by_one.Goals as goal

pub returns-then-behind-space : goal.returns-then-behind-space
returns-then-behind-space c =
    sym (in_pool_lem _ _ (record {
      behind = omega (
        arith,
        c.wrapping_sub_u64-behind.ensures.value,
        c.book_of-book.ensures,
        c.requires.low,
        c.requires.small,
        c.requires.enough,
      );
      before_end = omega (
        arith,
        c.wrapping_sub_u64-behind.ensures.value,
        c.book_of-book.ensures,
        c.requires.low,
        c.requires.small,
        c.requires.enough,
      );
    }))

pub returns : goal.returns
returns c = sym (not_in_pool _ _ (λ k. omega (arith, c.wrapping_sub_u64-behind.ensures.value, c.book_of-book.ensures, c.requires.low, c.requires.small, c.requires.enough, k.behind, k.before_end)))
