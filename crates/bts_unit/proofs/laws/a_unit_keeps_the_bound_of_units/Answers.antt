use Rattle.bts_unit.proofs.Committed.{keeps_bound}
use Rattle.bts_unit.proofs.laws.a_unit_keeps_the_bound_of_units.Goals as goal

pub returns : goal.returns
returns c = keeps_bound
