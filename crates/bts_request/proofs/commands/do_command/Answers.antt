use Rattle.std.proofs.Common.{Ok, cond, refl, sym, subst}
use Rattle.bts_act.specs.Does.{Does}
use Rattle.bts_act.proofs.Lifts.{lift_does}
use Rattle.bts_rows.specs.RequestRows.{request_row}
use Rattle.bts_rows.specs.Rows.{keeping, request_in, thing_row}
use Rattle.bts_rows.specs.declared.places.Here.TheVariants as here
use Rattle.bts_request.proofs.Later.{later}
use Rattle.bts_request.proofs.commands.do_command.Goals as goal

pub returns-in_default : goal.returns-in_default
returns-in_default c =
    let h = c.args.held.now in
    let s = c.args.scope.now.process in
    let x = thing_row (here.Request h) c.args.depth c.args.moment s c.args.command.now in
    record {
      row = subst (λ b. Does c.perform.result (s, h) (c.perform.new.scope.process, h) (cond b (request_row h s c.args.command.now) (keeping h x)))
          (sym (later c.args.command.now c.in_default.not-DefineProcess c.in_default.not-AcquireProcess c.in_default.not-AcquireActivity c.in_default.not-PurgeProcess))
          (lift_does (λ y. (y, h)) c.perform.result s c.perform.new.scope.process (s, h) x refl c.perform.ensures.row);
      rest = c.perform.ensures.rest;
    }

pub returns-in-DefineProcess-clause-row : goal.returns-in-DefineProcess-clause-row
unfolding request_row
returns-in-DefineProcess-clause-row c =
    subst (λ x. Does c.define_process.result (c.args.scope.now.process, c.args.held.now) (c.define_process.new.scope.process, c.define_process.new.held) (request_in c.args.held.now c.args.depth c.args.moment c.args.scope.now.process x)) (sym c.in-DefineProcess.is) c.define_process.ensures.row

pub returns-in-AcquireProcess-clause-row : goal.returns-in-AcquireProcess-clause-row
unfolding request_row
returns-in-AcquireProcess-clause-row c =
    subst (λ x. Does (Ok c.acquire_process.result) (c.args.scope.now.process, c.args.held.now) (c.args.scope.now.process, c.acquire_process.new.held) (request_in c.args.held.now c.args.depth c.args.moment c.args.scope.now.process x)) (sym c.in-AcquireProcess.is) c.acquire_process.ensures

pub returns-in-AcquireActivity-clause-row : goal.returns-in-AcquireActivity-clause-row
unfolding request_row
returns-in-AcquireActivity-clause-row c =
    subst (λ x. Does (Ok c.acquire_activity.result) (c.args.scope.now.process, c.args.held.now) (c.args.scope.now.process, c.acquire_activity.new.held) (request_in c.args.held.now c.args.depth c.args.moment c.args.scope.now.process x)) (sym c.in-AcquireActivity.is) c.acquire_activity.ensures

pub returns-in-PurgeProcess-clause-row : goal.returns-in-PurgeProcess-clause-row
unfolding request_row
returns-in-PurgeProcess-clause-row c =
    subst (λ x. Does c.purge.result (c.args.scope.now.process, c.args.held.now) (c.purge.new.scope.process, c.purge.new.held) (request_in c.args.held.now c.args.depth c.args.moment c.args.scope.now.process x)) (sym c.in-PurgeProcess.is) c.purge.ensures.row
