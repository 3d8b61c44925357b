use Rattle.plan.proofs.Ways.{told_stop, nothing_framed}
use Rattle.plan.proofs.Reading.{arrive_word, arrive_outside}
use Rattle.plan.specs.Descend.{descending_of}
use Rattle.std.proofs.Common.{sym, ap, ◌∙◌}
use Rattle.plan.proofs.descent.arrive.Goals as goal

pub returns-in-Some : goal.returns-in-Some
returns-in-Some c = rw (c.at_entry.ensures _ (c.index-i.ensures.0 c.requires) c.decode.ensures, c.decode.ensures, c.push.ensures) (ap (descending_of _) (sym (arrive_word _ _ c.args.at.stands _ _ _ _ _ _ (rw (c.index-i.ensures.0 c.requires) at (sym c.entry.ensures ∙ c.in-Some.is)))))

pub returns-in-None : goal.returns-in-None
returns-in-None c = c.stop.ensures ∙ (told_stop _ _ _ _ _ _ _ (c.index-i.ensures.0 c.requires) (nothing_framed _) ∙ ap (descending_of _) (sym (arrive_outside _ _ c.args.at.stands _ _ _ _ _ (rw (c.index-i.ensures.0 c.requires) at (sym c.entry.ensures ∙ c.in-None.is)))))
