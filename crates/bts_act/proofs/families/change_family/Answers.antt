use Rattle.std.proofs.Common.{◌≡◌, Ok, sym, subst, ◌∙◌}
use Rattle.bts_names.specs.Answer.{mapped}
use Rattle.bts_act.specs.Does.{Does}
use Rattle.bts_rows.specs.OnFamily.{on_family}
use Rattle.bts_rows.specs.Places.{about_of, find}
use Rattle.bts_rows.specs.Rows.{at_path}
use Rattle.bts_rows.specs.declared.places.Thing.TheVariants as thing
use Rattle.bts_act.proofs.Children.{parent_checked}
use Rattle.bts_act.proofs.families.change_family.Goals as goal

pub returns-in-Cancel-clause-row : goal.returns-in-Cancel-clause-row
unfolding on_family
returns-in-Cancel-clause-row c =
    let s = c.args.scope.now.process in
    let p = c.args.path.now in
    subst (λ x. Does c.cancel.result s c.cancel.new.scope.process (at_path p s (λ a. mapped (λ change. change s) (on_family x p a s)))) (sym c.in-Cancel.is) c.cancel.ensures.row

pub check_child-requires-clause-parent : goal.check_child-requires-clause-parent
check_child-requires-clause-parent c =
    parent_checked c.args.here.now c.args.scope.now.process c.in-Check.target c.args.path.now
    (subst (λ x. find c.args.here.now c.args.scope.now.process (about_of x) ≡ Ok (thing.Family c.args.path.now)) c.in-Check.is c.requires.found) ∙ sym c.path_of_frame.ensures

pub returns-in-Check-clause-row : goal.returns-in-Check-clause-row
unfolding on_family
returns-in-Check-clause-row c =
    let s = c.args.scope.now.process in
    let p = c.args.path.now in
    subst (λ x. Does c.check_child.result s c.check_child.new.scope.process (at_path p s (λ a. mapped (λ change. change s) (on_family x p a s)))) (sym c.in-Check.is) c.check_child.ensures.row

pub returns-in-DeleteActivity-clause-row : goal.returns-in-DeleteActivity-clause-row
unfolding on_family
returns-in-DeleteActivity-clause-row c =
    let s = c.args.scope.now.process in
    let p = c.args.path.now in
    subst (λ x. Does c.delete_activity.result s c.delete_activity.new.scope.process (at_path p s (λ a. mapped (λ change. change s) (on_family x p a s)))) (sym c.in-DeleteActivity.is) c.delete_activity.ensures.row
