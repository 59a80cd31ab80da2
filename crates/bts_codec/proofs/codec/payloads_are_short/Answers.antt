use Rattle.bts_codec.proofs.PayloadLengths.{payload_long, payload_fits}
use Rattle.bts_codec.proofs.codec.payloads_are_short.Goals as goal

pub returns : goal.returns
returns c = record { bound = payload_long; fits = payload_fits }
