use Rattle.bts_unit.proofs.BoundedUnits.{calls_rise, starts_within, stops_within, unit_below, unit_generation}
use Rattle.bts_unit.proofs.laws.numbers_rise_with_the_calls.Goals as goal

pub returns-clause-starts : goal.returns-clause-starts
returns-clause-starts c = starts_within

pub returns-clause-rise : goal.returns-clause-rise
returns-clause-rise c = calls_rise

pub returns-clause-stops : goal.returns-clause-stops
returns-clause-stops c = stops_within

pub returns-clause-below : goal.returns-clause-below
returns-clause-below c = λ g n m u h l. unit_below g n m u h l

pub returns-clause-once : goal.returns-clause-once
returns-clause-once c = unit_generation
