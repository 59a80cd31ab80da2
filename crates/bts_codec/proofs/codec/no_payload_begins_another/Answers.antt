use Rattle.bts_codec.specs.Units.{unit}
use Rattle.bts_codec.proofs.UnitFormats.{unit_is, no_prefix}
use Rattle.bts_codec.proofs.codec.no_payload_begins_another.Goals as goal

pub returns : goal.returns
returns c = no_prefix unit unit_is.again
