use Rattle.bts_act.proofs.Late.{sound_none_early}
use Rattle.bts_act.proofs.early.a_sound_process_has_none_early.Goals as goal

pub returns : goal.returns
returns c = sound_none_early
