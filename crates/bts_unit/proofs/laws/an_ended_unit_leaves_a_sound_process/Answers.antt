use Rattle.bts_unit.proofs.SoundUnits.{sound_behind_end}
use Rattle.bts_unit.proofs.laws.an_ended_unit_leaves_a_sound_process.Goals as goal

pub returns : goal.returns
returns c = sound_behind_end
