use Rattle.std.proofs.Common.{sym, ap, ◌∙◌}
use Rattle.bts_rows.specs.Places.{find}
use Rattle.bts_act.proofs.Found.{found_does, unfound_does}
use Rattle.bts_act.proofs.commands.perform.Goals as goal

pub returns-in-Ok-clause-row : goal.returns-in-Ok-clause-row
returns-in-Ok-clause-row c =
    let s = c.args.scope.now.process in
    let h = c.args.here.now in
    found_does h c.args.depth c.args.moment s c.args.command.now c.in-Ok.thing c.change.result c.change.new.scope.process
    (ap (find h s) (sym c.about.ensures) ∙ sym c.find.ensures ∙ c.in-Ok.is) c.change.ensures.row

pub returns-in-Err-clause-row : goal.returns-in-Err-clause-row
returns-in-Err-clause-row c =
    let s = c.args.scope.now.process in
    let h = c.args.here.now in
    unfound_does h c.args.depth c.args.moment s c.args.command.now c.in-Err.why c.reply_of.result
    (ap (find h s) (sym c.about.ensures) ∙ sym c.find.ensures ∙ c.in-Err.is) c.reply_of.ensures
