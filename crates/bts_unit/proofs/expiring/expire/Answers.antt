use Rattle.std.proofs.Common.{sym, ◌∙◌}
use Rattle.bts_act.proofs.Late.{event_may_fire_unexpired}
use Rattle.bts_unit.proofs.expiring.expire.Goals as goal

pub fire_unfired-requires-clause-unfired : goal.fire_unfired-requires-clause-unfired
fire_unfired-requires-clause-unfired c =
    event_may_fire_unexpired c.args.activity.now c.args.timer c.in-Some.event c.facts.ensures.events.ordered c.requires.late c.requires.unexpired (sym c.event_of.ensures ∙ c.in-Some.is)
