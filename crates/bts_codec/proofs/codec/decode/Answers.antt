use Rattle.bts_codec.proofs.Decoded.{is_found, is_malformed, is_stored_unit}
use Rattle.bts_codec.proofs.codec.decode.Goals as goal

pub returns-clause-found : goal.returns-clause-found
returns-clause-found c = is_found c.args.bytes.now c.whole_unit.result c.whole_unit.ensures

pub returns-clause-malformed : goal.returns-clause-malformed
returns-clause-malformed c = is_malformed c.args.bytes.now c.whole_unit.result c.whole_unit.ensures

pub returns-clause-stored : goal.returns-clause-stored
returns-clause-stored c = is_stored_unit c.args.bytes.now c.whole_unit.result c.whole_unit.ensures
