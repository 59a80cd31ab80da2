use Rattle.bts_region.proofs.Begins.{opens_nowhere}
use Rattle.bts_tool.proofs.session.do_session.Goals as goal

pub do_named-requires-clause-opens : goal.do_named-requires-clause-opens
do_named-requires-clause-opens c = opens_nowhere c.empty.result c.first.result c.empty.ensures
