use Rattle.bts_codec.proofs.StoredUnits.{is_stored}
use Rattle.bts_codec.proofs.codec.stored_units_are_given.Goals as goal

pub returns : goal.returns
returns c = is_stored
