use Rattle.bts_unit.proofs.BoundedUnits.{starts_lone, stays_lone, stops_lone}
use Rattle.bts_unit.proofs.laws.a_lone_root_stays_alone.Goals as goal

pub returns-clause-starts : goal.returns-clause-starts
returns-clause-starts c = starts_lone

pub returns-clause-calls : goal.returns-clause-calls
returns-clause-calls c = stays_lone

pub returns-clause-stops : goal.returns-clause-stops
returns-clause-stops c = stops_lone
