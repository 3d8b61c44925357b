use mathlib.Core.Path.{sym, ◌∙◌}
use borrow.Author.Tests.{lt-ltb, le-ltb}
use Rattle.abi.specs.Entries.{entry_answer, said_in}
use Rattle.abi.proofs.tp_raw_entry.Goals as goal

pub returns-then-level-ge4 : goal.returns-then-level-ge4
unfolding entry_answer
returns-then-level-ge4 c = record { answer = simp (le-ltb _ _ c.if-level-ge4.true, c.bare.ensures) }

pub returns-in-Some : goal.returns-in-Some
unfolding entry_answer said_in
returns-in-Some c = record { answer = simp (lt-ltb _ _ c.if-level-ge4.false, sym c.table.ensures, sym c.read.ensures ∙ c.in-Some.is, c.of_word.ensures) }

pub returns-in-None : goal.returns-in-None
unfolding entry_answer said_in
returns-in-None c = record { answer = simp (lt-ltb _ _ c.if-level-ge4.false, sym c.table.ensures, sym c.read.ensures ∙ c.in-None.is, c.bare-in-None.ensures) }
