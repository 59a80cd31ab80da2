use Rattle.bts_region.proofs.Fronts.{front_of_serial, one_serial}
use Rattle.bts_region.proofs.laws.the_serial_history_is_one.Goals as goal

pub returns-clause-one : goal.returns-clause-one
returns-clause-one c = one_serial

pub returns-clause-front : goal.returns-clause-front
returns-clause-front c = front_of_serial
