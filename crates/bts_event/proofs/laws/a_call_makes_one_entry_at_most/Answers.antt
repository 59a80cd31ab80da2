use Rattle.bts_event.proofs.laws.a_call_makes_one_entry_at_most.Goals as goal
use Rattle.bts_event.proofs.Accounts.{behind_sound, made_few}
use Rattle.bts_event.specs.Calls.{behind}

pub returns : goal.returns
returns c = λ p calls call s o w. made_few call (behind calls p) w (behind_sound calls p o s)
