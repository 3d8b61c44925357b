use Rattle.std.proofs.Common.{sym, ◌∙◌, arith}
use Rattle.word.proofs.Budget.{wrote_none, wrote_one, wrote_stopped}
use Rattle.word.proofs.Runs.{among_offset, among_index, among_written, one_among, none_among}
use Rattle.word.proofs.run.Run.write.Goals as goal

pub overflow_mul-p : goal.overflow_mul-p
overflow_mul-p c = omega (arith, (among_offset _ _ _ _ c.args.self.kept _ c.args.i (sym c.has.ensures ∙ c.if-has.true)).product)

pub overflow_sub-p : goal.overflow_sub-p
overflow_sub-p c = (among_offset _ _ _ _ c.args.self.kept _ c.args.i (sym c.has.ensures ∙ c.if-has.true)).above

pub overflow_mul-i : goal.overflow_mul-i
overflow_mul-i c =
    omega (
      arith,
      among_index _ _ _ _ c.args.self.kept
          c.args.p
          c.args.i (sym c.has.ensures
          ∙ c.if-has.true),
    )

pub overflow_add-p : goal.overflow_add-p
overflow_add-p c = omega (arith, (among_offset _ _ _ _ c.args.self.kept _ c.args.i (sym c.has.ensures ∙ c.if-has.true)).fits)

pub store-requires : goal.store-requires
store-requires c = (among_offset _ _ _ _ c.args.self.kept _ c.args.i (sym c.has.ensures ∙ c.if-has.true)).fits

pub returns-then-spend : goal.returns-then-spend
returns-then-spend c =
    let e = sym c.has.ensures
    ∙ c.if-has.true in
    rw (one_among _ _ _ _ _ _ _ c.args.w e)
    (wrote_one _ _ _ _ _ _ _ _ (sym c.spend.ensures.value ∙ c.if-spend.true)
    c.spend.ensures.left_after (c.store.ensures ∙ among_written _ _ _ _ _ _ _ _ e))

pub returns-else-spend : goal.returns-else-spend
returns-else-spend c = rw (one_among _ _ _ _ _ _ _ c.args.w (sym c.has.ensures ∙ c.if-has.true)) (wrote_stopped _ _ _ _ _ _ _ (sym c.spend.ensures.value ∙ c.if-spend.false) c.spend.ensures.left_after)

pub returns-else-has : goal.returns-else-has
returns-else-has c = rw (none_among _ _ _ _ _ _ _ c.args.w (sym c.has.ensures ∙ c.if-has.false)) (wrote_none _ _ _)
