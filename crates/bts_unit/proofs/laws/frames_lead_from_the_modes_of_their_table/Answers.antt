use Rattle.bts_unit.proofs.Leading.{begins_from, ends_from}
use Rattle.bts_unit.proofs.laws.frames_lead_from_the_modes_of_their_table.Goals as goal

pub returns-clause-opens : goal.returns-clause-opens
returns-clause-opens c = begins_from

pub returns-clause-ends : goal.returns-clause-ends
returns-clause-ends c = ends_from
