use Rattle.bts_event.proofs.laws.no_composite_turns_where_a_firing_goes.Goals as goal
use Rattle.bts_event.proofs.Falls.{entered_calm, retrieved_calm, subevent_retrieved_calm, unfired_calm}
use Rattle.bts_names.specs.Names.{initial_name}

pub returns-clause-retrieve : goal.returns-clause-retrieve
returns-clause-retrieve c = retrieved_calm

pub returns-clause-retrieve_subevent : goal.returns-clause-retrieve_subevent
returns-clause-retrieve_subevent c = λ p n. subevent_retrieved_calm n p

pub returns-clause-unfire : goal.returns-clause-unfire
returns-clause-unfire c = λ p n. unfired_calm n p

pub returns-clause-start : goal.returns-clause-start
returns-clause-start c = entered_calm initial_name
