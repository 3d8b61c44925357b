use Rattle.std.proofs.Common.{sym, ◌∙◌, arith}
use Rattle.word.specs.Runs.{among_of}
use Rattle.word.proofs.Memory.{offset, memory_in, held, held_lies}
use Rattle.word.proofs.Runs.{is_among_lem, among_holds, among_word}
use Rattle.word.proofs.run.Run.read.Goals as goal

pub overflow_mul-p : goal.overflow_mul-p
overflow_mul-p c = let a = is_among_lem _ _ _ _ c.args.self.kept c.args.p c.args.i (sym c.has.ensures ∙ c.if-has.true) in let o = offset _ _ _ _ (among_holds _ _ _ _ _ _ _ a) a.small in omega (arith, o.product)

pub overflow_sub-p : goal.overflow_sub-p
overflow_sub-p c = let a = is_among_lem _ _ _ _ c.args.self.kept c.args.p c.args.i (sym c.has.ensures ∙ c.if-has.true) in let o = offset _ _ _ _ (among_holds _ _ _ _ _ _ _ a) a.small in o.above

pub overflow_mul-i : goal.overflow_mul-i
overflow_mul-i c = let a = is_among_lem _ _ _ _ c.args.self.kept c.args.p c.args.i (sym c.has.ensures ∙ c.if-has.true) in let o = offset _ _ _ _ (among_holds _ _ _ _ _ _ _ a) a.small in omega (arith, a.small)

pub overflow_add-p : goal.overflow_add-p
overflow_add-p c = let a = is_among_lem _ _ _ _ c.args.self.kept c.args.p c.args.i (sym c.has.ensures ∙ c.if-has.true) in let o = offset _ _ _ _ (among_holds _ _ _ _ _ _ _ a) a.small in omega (arith, o.fits)

pub load-requires : goal.load-requires
load-requires c = let a = is_among_lem _ _ _ _ c.args.self.kept c.args.p c.args.i (sym c.has.ensures ∙ c.if-has.true) in let o = offset _ _ _ _ (among_holds _ _ _ _ _ _ _ a) a.small in omega (arith, o.fits)

pub returns-then-has : goal.returns-then-has
returns-then-has c =
    let a = is_among_lem _ _ _ _ c.args.self.kept c.args.p
    c.args.i (sym c.has.ensures ∙ c.if-has.true) in
    let o = offset _ _ _ _ (among_holds _ _ _ _ _ _ _ a) a.small in
    rw (c.load.ensures, o.same, sym (memory_in _ _ _ (held_lies _ _ _ _ (held _ _ _ (among_holds _ _ _ _ _ _ _ a)) a.small)))
    (among_word _ _ _ _ _ _ _ a)

pub returns : goal.returns
unfolding among_of
returns c = simp (sym c.has.ensures ∙ c.if-has.false)
