use Rattle.bts_rows.proofs.laws.commands_keep_soundness.Goals as goal
use Rattle.bts_rows.proofs.Tables.{acquired_sound, act_at_sound, request_in_sound}

pub returns-clause-frame : goal.returns-clause-frame
returns-clause-frame c = act_at_sound

pub returns-clause-acquired : goal.returns-clause-acquired
returns-clause-acquired c = acquired_sound

pub returns-clause-request : goal.returns-clause-request
returns-clause-request c = λ held depth now s command g usual sound. request_in_sound s held depth now command sound g usual
