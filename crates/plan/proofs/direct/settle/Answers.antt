use Rattle.word.proofs.Budget.{wrote_none, wrote_as}
use Rattle.std.proofs.Common.{sym, ap, ◌∙◌, arith, Err}
use Rattle.plan.specs.AtOnce.{once_of, once_writes}
use Rattle.plan.proofs.Reading.{lead_entry}
use Rattle.plan.proofs.direct.settle.Goals as goal

pub returns-in-Err-Nothing : goal.returns-in-Err-Nothing
unfolding once_of once_writes
returns-in-Err-Nothing c = let e = sym c.follow.ensures ∙ (c.in-Err-Nothing.is ∙ ap Err c.in-Err-Nothing.field-0-is) in let i = c.index.ensures.0 (omega (arith, c.requires.0)) in record { value = rw e; wrote = rw e (wrote_as _ _ _ _ _ _ _ (lead_entry _ _ c.requires.1 _ _ _ c.args.x e) (rw i at c.set_entry.ensures)) }

pub returns-in-Err-Page : goal.returns-in-Err-Page
unfolding once_of once_writes
returns-in-Err-Page c = let e = sym c.follow.ensures ∙ (c.in-Err-Page.is ∙ ap Err c.in-Err-Page.field-0-is) in record { value = rw e; wrote = rw e (wrote_none _ _ _) }

pub returns-in-Ok : goal.returns-in-Ok
unfolding once_of once_writes
returns-in-Ok c = let e = sym c.follow.ensures ∙ c.in-Ok.is in record { value = rw e; wrote = rw e (wrote_none _ _ _) }

pub returns-in-Err-Stray : goal.returns-in-Err-Stray
unfolding once_of once_writes
returns-in-Err-Stray c = let e = sym c.follow.ensures ∙ (c.in-Err-Stray.is ∙ ap Err c.in-Err-Stray.field-0-is) in record { value = rw e; wrote = rw e (wrote_none _ _ _) }
