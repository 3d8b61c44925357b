use Rattle.std.proofs.Common.{sym, ◌∙◌}
use Rattle.std.proofs.lemmas.Result.{err_from_is_err_and}
use Rattle.pool.specs.Book.{opened_of, opened_in}
use Rattle.pool.proofs.Opening.{names_room}
use Rattle.pool.proofs.header.open.Goals as goal

pub returns-in_err-names : goal.returns-in_err-names
unfolding opened_of opened_in
returns-in_err-names c = let p = err_from_is_err_and c.from_residual.result c.from_residual.ensures.1 in rw (p.1, p.2, sym c.names.ensures ∙ c.in_err-names.was)

pub returns : goal.returns
unfolding opened_of opened_in
returns c = let e = sym c.names.ensures ∙ c.in_ok-names.was in rw e (c.counts.ensures (names_room _ _ _ e))
