use Rattle.std.proofs.Common.{sym, ◌∙◌}
use Rattle.bts_act.proofs.Atomics.{timer_event_is_atomic}
use Rattle.bts_act.proofs.timers.drop_timer.Goals as goal

pub remove-requires-clause-atomic : goal.remove-requires-clause-atomic
remove-requires-clause-atomic c =
    timer_event_is_atomic c.args.timer c.args.activity.now.pool.events c.in-Some.event c.facts.ensures.events.ordered (sym c.event_of.ensures ∙ c.in-Some.is)
