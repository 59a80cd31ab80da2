use Rattle.std.proofs.Common.{◌≡◌, Ok, Some, sym, ap, subst, ◌∙◌}
use Rattle.std.specs.Option.{option_copied}
use Rattle.bts_tree.specs.Processes.{activity_at, written}
use Rattle.bts_tree.specs.Scopes.{HeldProcess}
use Rattle.bts_rows.specs.OnActivity.{on_activity}
use Rattle.bts_rows.specs.Rows.{on_thing}
use Rattle.bts_rows.specs.declared.places.Thing.TheVariants as thing
use Rattle.bts_act.specs.Built.{only_reads}
use Rattle.bts_act.specs.Does.{Does, Reads}
use Rattle.bts_act.proofs.Found.{activity_does, activity_reads}
use Rattle.bts_act.proofs.Late.{activity_none_early}
use Rattle.bts_act.proofs.Lifts.{number_below}
use Rattle.bts_act.proofs.activities.change_at.Goals as goal

pub returns-in-Some-2-clause-row : goal.returns-in-Some-2-clause-row
returns-in-Some-2-clause-row c =
    let a = c.in-Some.activity.now in
    activity_reads c.args.depth c.args.moment c.args.scope.now.process c.args.command.now c.args.path.now a (sym c.activity.ensures ∙ ap option_copied c.in-Some.is) (Ok c.in-Some-2.reply)
    (subst (λ o. Reads (only_reads c.args.command.now) (Ok o) a (on_activity c.args.depth c.args.moment c.args.command.now a)) c.in-Some-2.is c.in_ok-reply.ensures)

pub change_activity-requires-clause-below : goal.change_activity-requires-clause-below
change_activity-requires-clause-below c =
    number_below c.args.path.now c.args.scope.now.process c.edit.result.now (subst (λ s. activity_at c.args.path.now s ≡ Some c.edit.result.now) (ap (λ (h : HeldProcess). h.process) c.in_ok-save.ensures.ok) c.edit.ensures.value)
    18446744073709551615 c.requires.numbers

pub change_activity-requires-clause-late : goal.change_activity-requires-clause-late
change_activity-requires-clause-late c =
    activity_none_early c.args.path.now c.args.scope.now.process c.edit.result.now (subst (λ s. activity_at c.args.path.now s ≡ Some c.edit.result.now) (ap (λ (h : HeldProcess). h.process) c.in_ok-save.ensures.ok) c.edit.ensures.value)
    c.requires.late

pub returns-clause-row : goal.returns-clause-row
returns-clause-row c =
    let s = c.args.scope.now.process in
    let p = c.args.path.now in
    let saved = ap (λ (h : HeldProcess). h.process) c.in_ok-save.ensures.ok in
    subst (λ x. Does c.change_activity.result s (written p c.change_activity.new.activity x) (on_thing (thing.Activity p) c.args.depth c.args.moment s c.args.command.now)) (sym saved)
    (activity_does c.args.depth c.args.moment s c.args.command.now p c.edit.result.now (subst (λ x. activity_at p x ≡ Some c.edit.result.now) saved c.edit.ensures.value)
    c.change_activity.result c.change_activity.new.activity c.change_activity.ensures)
