use Rattle.std.proofs.Common.{◌≡◌, true, refl, sym, subst}
use Rattle.bts_names.specs.declared.reply.Resp.TheVariants.{Timererr}
use Rattle.bts_timer.specs.Timers.{force_refusal}
use Rattle.bts_tree.specs.declared.activity.Activity.{Activity}
use Rattle.bts_rows.specs.OnActivity.{on_activity, with_own}
use Rattle.bts_rows.specs.OnContainers.{put}
use Rattle.bts_act.specs.Does.{Does, is_done}
use Rattle.bts_act.proofs.Allowed.{allowed_for}
use Rattle.bts_act.proofs.Lifts.{lift_does}
use Rattle.bts_act.proofs.activities.change_activity.Goals as goal

pub returns-in-PutContainer : goal.returns-in-PutContainer
unfolding on_activity
returns-in-PutContainer c =
    let a = c.args.activity.now in
    let b : Activity = record a { containers = c.put_container.new.pool } in
    subst (λ x. Does c.put_container.result a b (on_activity c.args.depth c.args.moment x a)) (sym c.in-PutContainer.is)
    (subst (λ bytes. Does c.put_container.result a b (with_own (put c.in-PutContainer.container bytes) a)) c.as_slice.ensures
    (lift_does (λ x. record a { containers = x }) c.put_container.result a.containers c.put_container.new.pool a _ refl c.put_container.ensures))

pub returns-in-AddSubevent : goal.returns-in-AddSubevent
unfolding on_activity
returns-in-AddSubevent c = subst (λ x. Does c.add_subevent.result c.args.activity.now c.add_subevent.new.activity (on_activity c.args.depth c.args.moment x c.args.activity.now)) (sym c.in-AddSubevent.is) c.add_subevent.ensures

pub returns-in-RemoveSubevent : goal.returns-in-RemoveSubevent
unfolding on_activity
returns-in-RemoveSubevent c =
    subst (λ x. Does c.remove_subevent.result c.args.activity.now c.remove_subevent.new.activity (on_activity c.args.depth c.args.moment x c.args.activity.now)) (sym c.in-RemoveSubevent.is) c.remove_subevent.ensures

pub force_timer-requires-clause-allowed : goal.force_timer-requires-clause-allowed
unfolding on_activity
force_timer-requires-clause-allowed c =
    let a = c.args.activity.now in
    allowed_for Timererr (force_refusal c.in-ForceTimer.timer a.timers) _ (subst (λ x. is_done (on_activity c.args.depth c.args.moment x a) ≡ true) c.in-ForceTimer.is c.requires.allowed)

pub returns-in-ForceTimer : goal.returns-in-ForceTimer
unfolding on_activity
returns-in-ForceTimer c = subst (λ x. Does c.force_timer.result c.args.activity.now c.force_timer.new.activity (on_activity c.args.depth c.args.moment x c.args.activity.now)) (sym c.in-ForceTimer.is) c.force_timer.ensures
