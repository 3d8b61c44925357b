use Rattle.std.proofs.Common.{sym, ◌∙◌}
use Rattle.std.proofs.lemmas.Result.{err_from_is_err_and}
use Rattle.pool.specs.Book.{names_of, names_in, rooted_in}
use Rattle.pool.proofs.header.names.Goals as goal

pub returns-in_err-room : goal.returns-in_err-room
unfolding names_of names_in
returns-in_err-room c = let p = err_from_is_err_and c.from_residual.result c.from_residual.ensures.1 in rw (p.1, p.2, sym c.room.ensures ∙ c.in_err-room.was)

pub returns-in_err-headed : goal.returns-in_err-headed
unfolding names_of names_in rooted_in
returns-in_err-headed c =
    let p = err_from_is_err_and c.from_residual-in_err-headed.result c.from_residual-in_err-headed.ensures.1 in
    let e = sym c.room.ensures ∙ c.in_ok-room.was in
    rw (p.1, p.2, e, sym (c.headed.ensures e) ∙ c.in_err-headed.was)

pub returns-then-in_pool : goal.returns-then-in_pool
unfolding names_of names_in rooted_in
returns-then-in_pool c = let e = sym c.room.ensures ∙ c.in_ok-room.was in rw (e, sym (c.headed.ensures e) ∙ c.in_ok-headed.was, sym c.in_pool.ensures ∙ c.if-in_pool.true)

pub returns : goal.returns
unfolding names_of names_in rooted_in
returns c = let e = sym c.room.ensures ∙ c.in_ok-room.was in rw (e, sym (c.headed.ensures e) ∙ c.in_ok-headed.was, sym c.in_pool.ensures ∙ c.if-in_pool.false)
