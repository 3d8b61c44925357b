use Rattle.plan.proofs.Ways.{told_stop}
use Rattle.plan.specs.Descend.{at_entry_of, framed_of, descending_of}
use Rattle.std.proofs.Common.{sym, ap, ◌∙◌, eq-eqb, ne_eqb}
use Rattle.plan.proofs.descent.at_entry.Goals as goal

pub returns-in-Nothing : goal.returns-in-Nothing
unfolding at_entry_of
returns-in-Nothing c = λ va ei ee. rw (c.stop.ensures, c.in-Nothing.is) (told_stop va _ _ _ _ _ _ ei (ap framed_of (sym ee ∙ c.in-Nothing.is)))

pub returns-in-Page : goal.returns-in-Page
unfolding at_entry_of
returns-in-Page c = λ va ei ee. rw (c.stop-in-Page.ensures, c.in-Page.is) (told_stop va _ _ _ _ _ _ ei (ap framed_of (sym ee ∙ c.in-Page.is)))

pub returns-then-n-target : goal.returns-then-n-target
unfolding at_entry_of
returns-then-n-target c = λ va ei ee. rw (c.stop-then-n-target.ensures, c.in-Table.is, eq-eqb _ _ c.if-n-target.true) (told_stop va _ _ _ _ _ _ ei (ap framed_of (sym ee ∙ c.in-Table.is)))

pub returns-else-n-target : goal.returns-else-n-target
unfolding at_entry_of descending_of
returns-else-n-target c = λ va ei ee. rw (c.in-Table.is, ne_eqb _ _ c.if-n-target.false)
