use Rattle.std.proofs.Common.{◌≡◌, ap, ◌∙◌}
use Rattle.bts_tree.specs.declared.activity.Activity.{Activity}
use Rattle.bts_tree.specs.Processes.{written}
use Rattle.bts_tree.specs.Scopes.{holding}
use Rattle.bts_act.proofs.Lifts.{number_below, unchanged}
use Rattle.bts_act.proofs.Children.{on_err}
use Rattle.bts_act.proofs.families.forget_child.Goals as goal

pub remove_completion-requires : goal.remove_completion-requires
remove_completion-requires c = number_below c.args.at.now c.args.scope.now.process c.edit-activity.result.now c.edit-activity.ensures.value 18446744073709551615 c.requires.numbers

pub returns-clause-err : goal.returns-clause-err
returns-clause-err c =
    let h = c.args.scope.now in
    let a = c.edit-activity.result.now in
    on_err c.remove_completion.result (c.remove_completion.new.pool ≡ a.pool) _
    (λ e. ap (λ x. let b : Activity = record a { pool = x } in holding (written c.args.at.now b h.process) h) e ∙ ap (λ t. holding t h) (unchanged c.args.at.now h.process a c.edit-activity.ensures.value))
    c.remove_completion.ensures.err
