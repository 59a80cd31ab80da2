use Rattle.bts_session.proofs.Short.{session_short}
use Rattle.bts_session.proofs.laws.what_a_session_gives_is_short.Goals as goal

pub returns : goal.returns
returns c = session_short
