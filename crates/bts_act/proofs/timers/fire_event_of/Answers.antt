use Rattle.std.proofs.Common.{sym, ◌∙◌}
use Rattle.bts_act.proofs.timers.fire_event_of.Goals as goal

pub fire_unfired-requires-clause-unfired : goal.fire_unfired-requires-clause-unfired
fire_unfired-requires-clause-unfired c = c.requires.unfired c.in-Some.event (sym c.event_of.ensures ∙ c.in-Some.is)
