use Rattle.bts_unit.proofs.Committed.{stays_all_sound}
use Rattle.bts_unit.proofs.BoundedUnits.{starts_in, stays_in, stops_in}
use Rattle.bts_unit.proofs.laws.calls_keep_the_format_of_a_unit.Goals as goal

pub returns-clause-starts : goal.returns-clause-starts
returns-clause-starts c = starts_in

pub returns-clause-calls : goal.returns-clause-calls
returns-clause-calls c = stays_in

pub returns-clause-stops : goal.returns-clause-stops
returns-clause-stops c = stops_in

pub returns-clause-after : goal.returns-clause-after
returns-clause-after c = stays_all_sound
