use Rattle.bts_event.proofs.laws.retrieving_a_subevent_ends_one_firing.Goals as goal
use Rattle.bts_event.proofs.Falls.{subevent_off, subevent_others}

pub returns-clause-fired : goal.returns-clause-fired
returns-clause-fired c = subevent_off

pub returns-clause-others : goal.returns-clause-others
returns-clause-others c = subevent_others
