use Rattle.std.proofs.Common.{sym, ◌∙◌}
use Rattle.std.proofs.lemmas.Result.{err_from_is_err_and}
use Rattle.pool.specs.State.{state_of, stated_of}
use Rattle.pool.proofs.Opening.{open_shows}
use Rattle.pool.proofs.moment.state.Goals as goal

pub counted-requires : goal.counted-requires
counted-requires c = (open_shows _ _ _ _ (sym c.open.ensures ∙ c.in_ok-b.was)).sound

pub returns-in_err-b : goal.returns-in_err-b
unfolding state_of stated_of
returns-in_err-b c = let p = err_from_is_err_and c.from_residual.result c.from_residual.ensures.1 in record { answer = rw (p.1, p.2, sym c.open.ensures ∙ c.in_err-b.was) }

pub returns : goal.returns
unfolding state_of stated_of
returns c = record { answer = rw (sym c.open.ensures ∙ c.in_ok-b.was, c.counted.ensures) }
