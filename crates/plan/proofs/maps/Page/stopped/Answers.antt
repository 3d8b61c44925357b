use Rattle.plan.proofs.Arrivals.{stopped_vacant, stopped_overlap, stopped_over_table, stopped_astray}
use Rattle.plan.proofs.maps.Page.stopped.Goals as goal

pub returns-in-Nothing : goal.returns-in-Nothing
returns-in-Nothing c = λ w e. stopped_vacant _ _ 0 _ _ _ _ w e c.in-Nothing.is _ (c.vacant.ensures w e)

pub returns-in-Page : goal.returns-in-Page
returns-in-Page c = λ w e. stopped_overlap _ _ 0 _ _ _ _ w e c.in-Page.is

pub returns-in-Table : goal.returns-in-Table
returns-in-Table c = λ w e. stopped_over_table _ _ 0 _ _ _ _ w e c.in-Table.is

pub returns-in-Stray : goal.returns-in-Stray
returns-in-Stray c = λ w e. stopped_astray _ _ 0 _ _ _ _ w e c.in-Stray.is
