use Rattle.bts_event.proofs.laws.retrieving_ends_one_firing.Goals as goal
use Rattle.bts_event.proofs.Falls.{retrieved_off, retrieved_others}

pub returns-clause-fired : goal.returns-clause-fired
returns-clause-fired c = retrieved_off

pub returns-clause-others : goal.returns-clause-others
returns-clause-others c = retrieved_others
