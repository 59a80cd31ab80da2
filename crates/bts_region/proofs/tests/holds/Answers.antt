use Rattle.bts_region.proofs.Begins.{opens_nowhere}
use Rattle.bts_region.proofs.tests.holds.Goals as goal

pub tell-requires-clause-opens : goal.tell-requires-clause-opens
tell-requires-clause-opens c = opens_nowhere c.empty.result c.first.result c.empty.ensures
