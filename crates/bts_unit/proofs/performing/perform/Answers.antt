use Rattle.std.proofs.Common.{sym, ap, ◌∙◌, subst}
use Rattle.bts_command.specs.declared.command.Command.TheVariants as command
use Rattle.bts_unit.specs.Calls.{called_on_top}
use Rattle.bts_unit.specs.OnWork.{GoesOn, IsMarked, Steps}
use Rattle.bts_unit.specs.OnWork as on
use Rattle.bts_unit.proofs.Performed.{abends, abends_go_on, abends_marked, ends_none, returns, returns_go_on, returns_marked, rolls, rolls_go_on, rolls_marked, steps, steps_back, steps_go_on, steps_marked}
use Rattle.bts_unit.proofs.performing.perform.Goals as goal

pub returns-in-Return-clause-ok : goal.returns-in-Return-clause-ok
returns-in-Return-clause-ok c =
    let w = c.args.work.now in
    subst (λ x. Steps w c.return_from.new.work c.return_from.result (called_on_top x)) (sym c.in-Return.is)
    (subst (λ y. Steps w y.1 y.0 (called_on_top (command.Return c.in-Return.end_activity))) (sym c.return_from.ensures) (returns w c.in-Return.end_activity c.requires.open))

pub returns-in-Return-clause-goes_on : goal.returns-in-Return-clause-goes_on
returns-in-Return-clause-goes_on c = subst (λ y. GoesOn c.args.work.now y.1) (sym c.return_from.ensures) (returns_go_on c.args.work.now c.in-Return.end_activity c.requires.fits)

pub returns-in-Abend-clause-goes_on : goal.returns-in-Abend-clause-goes_on
returns-in-Abend-clause-goes_on c = subst (GoesOn c.args.work.now) (sym c.abend.ensures) (abends_go_on c.args.work.now c.in-Abend.code c.requires.fits)

pub returns-in-Rollback-clause-goes_on : goal.returns-in-Rollback-clause-goes_on
returns-in-Rollback-clause-goes_on c = subst (λ y. GoesOn c.args.work.now y.1) (sym c.roll_back.ensures) (rolls_go_on c.args.work.now c.requires.fits)

pub returns-in-Return-clause-marked : goal.returns-in-Return-clause-marked
returns-in-Return-clause-marked c =
    subst (λ y. IsMarked y.1.frame y.1.scope) (sym c.return_from.ensures)
    (returns_marked c.args.work.now c.in-Return.end_activity c.requires.marked)

pub returns-in-Abend-clause-marked : goal.returns-in-Abend-clause-marked
returns-in-Abend-clause-marked c =
    subst (λ v. IsMarked v.frame v.scope) (sym c.abend.ensures)
    (abends_marked c.args.work.now c.in-Abend.code c.requires.marked)

pub returns-in-Rollback-clause-marked : goal.returns-in-Rollback-clause-marked
returns-in-Rollback-clause-marked c =
    subst (λ y. IsMarked y.1.frame y.1.scope) (sym c.roll_back.ensures)
    (rolls_marked c.args.work.now c.requires.marked)

pub returns-in-Abend-clause-ok : goal.returns-in-Abend-clause-ok
returns-in-Abend-clause-ok c =
    let w = c.args.work.now in
    subst (λ x. Steps w c.abend.new.work c.normal_reply.result (called_on_top x)) (sym c.in-Abend.is)
    (subst (λ y. Steps w y c.normal_reply.result (called_on_top (command.Abend c.in-Abend.code))) (sym c.abend.ensures)
    (subst (λ r. Steps w (on.abended c.in-Abend.code w) r (called_on_top (command.Abend c.in-Abend.code))) (sym c.normal_reply.ensures) (abends w c.in-Abend.code c.requires.open)))

pub returns-in-Rollback-clause-ok : goal.returns-in-Rollback-clause-ok
returns-in-Rollback-clause-ok c =
    let w = c.args.work.now in
    subst (λ x. Steps w c.roll_back.new.work c.roll_back.result (called_on_top x)) (sym c.in-Rollback.is)
    (subst (λ y. Steps w y.1 y.0 (called_on_top command.Rollback)) (sym c.roll_back.ensures) (rolls w c.requires.open))

pub returns-in_default : goal.returns-in_default
returns-in_default c =
    let w = c.args.work.now in
    let x = c.args.command.now in
    let goes_on = ends_none x c.in_default.not-Return c.in_default.not-Abend c.in_default.not-Rollback in
    record {
      ok = steps w x c.step.new.work c.step.result c.requires.open goes_on c.requires.one_frame c.step.ensures.rest c.step.ensures.row c.step.ensures.ok;
      err = steps_back w c.step.new.work c.step.result _ c.step.ensures.rest c.step.ensures.row c.step.ensures.err;
      marked = steps_marked w x c.step.new.work c.step.result c.requires.open c.requires.marked c.step.ensures.rest c.step.ensures.ok c.step.ensures.err;
      goes_on = steps_go_on w x c.step.new.work c.step.result c.requires.fits c.step.ensures.ok c.step.ensures.err;
    }
