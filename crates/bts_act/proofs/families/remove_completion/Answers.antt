use Rattle.std.proofs.Common.{sym, ◌∙◌}
use Rattle.bts_act.proofs.Children.{child_event_is_atomic}
use Rattle.bts_act.proofs.families.remove_completion.Goals as goal

pub remove-requires-clause-atomic : goal.remove-requires-clause-atomic
remove-requires-clause-atomic c =
    child_event_is_atomic c.args.child c.args.pool.now.events c.in-Some.event c.facts.ensures.events.ordered (sym c.completion_of.ensures ∙ c.in-Some.is)
