use Rattle.bts_unit.proofs.ShortReplies.{reply_short}
use Rattle.bts_unit.proofs.laws.replies_are_short.Goals as goal

pub returns : goal.returns
returns c = reply_short
