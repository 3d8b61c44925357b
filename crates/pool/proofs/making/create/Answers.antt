use Rattle.std.proofs.Common.{sym, ◌∙◌, arith}
use Rattle.std.proofs.lemmas.Result.{err_from_is_err_and}
use Rattle.word.proofs.Budget.{wrote_none}
use Rattle.pool.specs.Create.{created_of, created_in, create_writes, create_in}
use Rattle.pool.proofs.Opening.{fit_small, may_fit, roomy}
use Rattle.pool.proofs.making.create.Goals as goal

pub overflow_add-root : goal.overflow_add-root
overflow_add-root c = let f = may_fit _ _ _ _ _ (sym c.may_create.ensures ∙ c.in_ok-may_create.was) in omega (arith, fit_small _ _ _ _ f, f.enough, c.book_pages.ensures)

pub lay_out-requires : goal.lay_out-requires
lay_out-requires c = rw c.book_pages.ensures (roomy _ _ _ _ (may_fit _ _ _ _ _ (sym c.may_create.ensures ∙ c.in_ok-may_create.was)))

pub returns-in_err-may_create : goal.returns-in_err-may_create
unfolding created_of created_in create_writes create_in
returns-in_err-may_create c =
    let p = err_from_is_err_and c.from_residual.result c.from_residual.ensures.1 in
    let e = sym c.may_create.ensures ∙ c.in_err-may_create.was in
    record { answer = rw (p.1, p.2, e); order = rw e (wrote_none _ _ _) }

pub returns : goal.returns
unfolding created_of created_in create_writes create_in
returns c = let e = sym c.may_create.ensures ∙ c.in_ok-may_create.was in record { answer = rw (e, c.book_pages.ensures); order = rw (e, ← c.book_pages.ensures) c.lay_out.ensures }
