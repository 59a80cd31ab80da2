use Rattle.bts_codec.proofs.UnitFormats.{unit_found, unit_spelled}
use Rattle.bts_codec.proofs.codec.reads_what_is_spelled.Goals as goal

pub returns : goal.returns
returns c = λ bytes e. (unit_found bytes e, unit_spelled bytes e)
