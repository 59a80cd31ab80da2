use Rattle.bts_tree.proofs.Orders.{chosen_in_order, due_in_order}
use Rattle.bts_tree.proofs.laws.what_is_enabled_stands_in_order.Goals as goal
use Rattle.bts_tree.specs.Activities.{is_ready, is_untold}

pub returns-clause-ready : goal.returns-clause-ready
returns-clause-ready c = λ repo h. chosen_in_order is_ready repo h

pub returns-clause-untold : goal.returns-clause-untold
returns-clause-untold c = λ repo h. chosen_in_order is_untold repo h

pub returns-clause-due : goal.returns-clause-due
returns-clause-due c = λ now repo h. due_in_order now repo h
