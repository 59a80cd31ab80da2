use Rattle.bts_unit.specs.Frames.{path_of}
use Rattle.bts_unit.proofs.replay_tests.is_answered_by.Goals as goal

pub apply-requires-clause-given : goal.apply-requires-clause-given
apply-requires-clause-given c = c.in-Some.ensures.given (path_of c.in-Some.ended.unit)
