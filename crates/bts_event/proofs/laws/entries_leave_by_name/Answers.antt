use Rattle.bts_event.proofs.laws.entries_leave_by_name.Goals as goal
use Rattle.bts_event.proofs.Accounts.{behind_sound, parts}
use Rattle.bts_event.specs.Calls.{behind}

pub returns : goal.returns
returns c = λ p calls call s o w. parts call (behind calls p) w (behind_sound calls p o s)
