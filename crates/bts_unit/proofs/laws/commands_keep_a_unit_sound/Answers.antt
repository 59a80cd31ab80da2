use Rattle.bts_unit.proofs.SoundUnits.{runs_sound}
use Rattle.bts_unit.proofs.laws.commands_keep_a_unit_sound.Goals as goal

pub returns : goal.returns
returns c = runs_sound
