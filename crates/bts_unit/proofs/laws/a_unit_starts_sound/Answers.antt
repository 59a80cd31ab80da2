use Rattle.bts_unit.proofs.SoundUnits.{starts_sound}
use Rattle.bts_unit.proofs.laws.a_unit_starts_sound.Goals as goal

pub returns : goal.returns
returns c = starts_sound
