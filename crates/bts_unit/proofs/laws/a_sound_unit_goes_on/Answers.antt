use Rattle.bts_unit.proofs.SoundUnits.{sound_unit_late, sound_unit_there}
use Rattle.bts_unit.proofs.laws.a_sound_unit_goes_on.Goals as goal

pub returns-clause-there : goal.returns-clause-there
returns-clause-there c = sound_unit_there

pub returns-clause-late : goal.returns-clause-late
returns-clause-late c = sound_unit_late
