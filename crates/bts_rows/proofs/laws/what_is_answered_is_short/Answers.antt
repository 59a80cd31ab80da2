use Rattle.bts_rows.proofs.Values.{answered_short}
use Rattle.bts_rows.proofs.laws.what_is_answered_is_short.Goals as goal

pub returns : goal.returns
returns c = answered_short
