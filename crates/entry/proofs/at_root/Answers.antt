use Rattle.std.proofs.Common.{arith}
use Rattle.entry.proofs.Top.{root_table, root_nothing}
use Rattle.entry.proofs.at_root.Goals as goal

pub returns-then-wrapping_sub_u64-eq0 : goal.returns-then-wrapping_sub_u64-eq0
returns-then-wrapping_sub_u64-eq0 c = λ n u. rw (c.table.ensures, c.granted.ensures) (root_table n _ _ u (omega arith) (omega arith) c.wrapping_sub_u64.ensures.value c.if-wrapping_sub_u64-eq0.true)

pub returns : goal.returns
returns c = λ n u. root_nothing n _ _ u (omega arith) (omega arith) c.wrapping_sub_u64.ensures.value c.if-wrapping_sub_u64-eq0.false
