use Rattle.bts_unit.proofs.SoundUnits.{stops_sound}
use Rattle.bts_unit.proofs.laws.an_abend_keeps_a_unit_sound.Goals as goal

pub returns : goal.returns
returns c = stops_sound
