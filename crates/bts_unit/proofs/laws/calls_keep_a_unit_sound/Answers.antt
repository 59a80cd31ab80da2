use Rattle.bts_unit.proofs.SoundUnits.{stays_sound}
use Rattle.bts_unit.proofs.laws.calls_keep_a_unit_sound.Goals as goal

pub returns : goal.returns
returns c = stays_sound
