use Rattle.bts_event.proofs.laws.calls_keep_the_facts.Goals as goal
use Rattle.bts_event.proofs.Accounts.{behind_sound}

pub returns : goal.returns
returns c = λ p calls s o. behind_sound calls p o s
