use mathlib.Core.Path.{sym, ◌∙◌}
use native.Mathlib.Omega.{arith}
use Rattle.abi.specs.Entries.{said_of}
use Rattle.entry.proofs.Fields.{table_small}
use Rattle.abi.proofs.entries.of_word.Goals as goal

pub overflow_mul-result-in-Table : goal.overflow_mul-result-in-Table
overflow_mul-result-in-Table c = omega (arith, table_small _ _ _ _ (sym c.decode.ensures ∙ c.in-Table.is))

pub returns-in-Nothing : goal.returns-in-Nothing
unfolding said_of
returns-in-Nothing c = rw (sym c.decode.ensures ∙ c.in-Nothing.is, c.silent.ensures)

pub returns-in-Page : goal.returns-in-Page
unfolding said_of
returns-in-Page c = rw (sym c.decode.ensures ∙ c.in-Page.is, c.rights_word.ensures, c.accessed.ensures.0, c.dirty.ensures.0)

pub returns-in-Table : goal.returns-in-Table
unfolding said_of
returns-in-Table c = rw (sym c.decode.ensures ∙ c.in-Table.is, c.rights_word-in-Table.ensures, c.accessed-in-Table.ensures.0)
