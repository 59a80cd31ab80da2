use Rattle.bts_act.proofs.Allowed.{is_running}
use Rattle.bts_act.proofs.Late.{event_may_fire_unexpired}
use Rattle.bts_act.proofs.timers.force_timer.Goals as goal

pub fire_event_of-requires-clause-unfired : goal.fire_event_of-requires-clause-unfired
fire_event_of-requires-clause-unfired c n e =
    let a = c.args.activity.now in
    event_may_fire_unexpired a c.args.timer n c.facts.ensures.events.ordered c.requires.late (is_running c.args.timer a.timers c.requires.allowed) e
