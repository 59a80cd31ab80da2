use Rattle.std.proofs.Common.{sym, ◌∙◌}
use Rattle.bts_tree.specs.Processes.{child_of}
use Rattle.bts_act.proofs.Children.{deletes_child, resting_is_child, resting_is_there}
use Rattle.bts_act.proofs.families.delete_child.Goals as goal

pub remove_child-requires-clause-child : goal.remove_child-requires-clause-child
remove_child-requires-clause-child c = resting_is_child c.args.scope.now.process c.args.at.now c.args.name.now c.in-Ok.path (sym c.resting_child.ensures ∙ c.in-Ok.is)

pub remove_child-requires-clause-there : goal.remove_child-requires-clause-there
remove_child-requires-clause-there c = resting_is_there c.args.scope.now.process c.args.at.now c.args.name.now c.in-Ok.path (sym c.resting_child.ensures ∙ c.in-Ok.is)

pub returns-in_ok-remove_child-in-Ok-clause-row : goal.returns-in_ok-remove_child-in-Ok-clause-row
returns-in_ok-remove_child-in-Ok-clause-row c =
    let s = c.args.scope.now.process in
    deletes_child s (child_of c.args.at.now c.args.name.now s) c.in-Ok.path c.normal_reply.result c.remove_child.new.scope.process (sym c.resting_child.ensures ∙ c.in-Ok.is) c.normal_reply.ensures
    c.in_ok-remove_child-in-Ok.ensures.ok
