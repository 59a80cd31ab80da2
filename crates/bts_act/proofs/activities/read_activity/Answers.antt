use Rattle.std.proofs.Common.{false, Ok, Some, refl, sym, subst}
use Rattle.bts_rows.specs.OnActivity.{on_activity, with_own}
use Rattle.bts_rows.specs.OnContainers.{put}
use Rattle.bts_act.specs.Built.{only_reads}
use Rattle.bts_act.specs.Does.{Reads}
use Rattle.bts_act.proofs.Lifts.{lift_does, lift_reads}
use Rattle.bts_act.proofs.activities.read_activity.Goals as goal

pub returns-in_ok-get_container-in-GetContainer : goal.returns-in_ok-get_container-in-GetContainer
unfolding on_activity
returns-in_ok-get_container-in-GetContainer c =
    let a = c.args.activity.now in
    subst (λ x. Reads (only_reads x) (Ok (Some c.in_ok-get_container-in-GetContainer.field-0)) a (on_activity c.args.depth c.args.moment x a)) (sym c.in-GetContainer.is)
    (lift_does (λ x. record a { containers = x }) (Ok c.in_ok-get_container-in-GetContainer.field-0) a.containers a.containers a _ refl c.in_ok-get_container-in-GetContainer.ensures)

pub returns-in-PutContainer : goal.returns-in-PutContainer
unfolding on_activity
returns-in-PutContainer c =
    let a = c.args.activity.now in
    subst (λ x. Reads (only_reads x) (Ok c.refuses_put.result) a (on_activity c.args.depth c.args.moment x a)) (sym c.in-PutContainer.is)
    (subst (λ bytes. Reads false (Ok c.refuses_put.result) a (with_own (put c.in-PutContainer.container bytes) a)) c.as_slice.ensures
    (lift_reads (λ x. record a { containers = x }) false c.refuses_put.result a.containers _ c.refuses_put.ensures))

pub returns-in-ForceTimer : goal.returns-in-ForceTimer
unfolding on_activity
returns-in-ForceTimer c =
    subst (λ x. Reads (only_reads x) (Ok c.refuses_force_timer.result) c.args.activity.now (on_activity c.args.depth c.args.moment x c.args.activity.now)) (sym c.in-ForceTimer.is) c.refuses_force_timer.ensures
