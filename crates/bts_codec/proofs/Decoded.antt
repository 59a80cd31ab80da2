-- What an answer says of all units.
use Rattle.std.proofs.Common.{Result, Ok, Err}
use Rattle.std.specs.Prelude.{IfOk}
use Rattle.bts_names.specs.Names.{Bytes}
use Rattle.bts_command.specs.declared.ended.Ended.{Ended}
use Rattle.bts_codec.specs.declared.decode_error.DecodeError.{DecodeError}
use Rattle.bts_codec.specs.declared.decode_error.DecodeError.TheVariants as error
use Rattle.bts_codec.specs.Units.{unit_in}
use Rattle.bts_codec.specs.Answers.{Decodes, IsPayload, IfMalformed}
use Rattle.bts_codec.specs.Sizes.{IsStored}
use Rattle.bts_codec.proofs.StoredUnits.{is_stored}
use Rattle.bts_codec.proofs.UnitFormats.{unit_found, no_unit}

pub is_found : (bytes : Bytes) (r : Result Ended DecodeError) → Decodes r (unit_in bytes) → IfOk r (λ e. IsPayload e bytes)
is_found bytes (Ok e) h = unit_found bytes e h
is_found bytes (Err why) h = tt

pub is_malformed : (bytes : Bytes) (r : Result Ended DecodeError) → Decodes r (unit_in bytes) → IfMalformed r ((e : Ended) → IsPayload e bytes → ⊥)
is_malformed bytes (Ok e) h = tt
is_malformed bytes (Err error.NoMemory) h = tt
is_malformed bytes (Err error.Malformed) h = no_unit bytes h

pub is_stored_unit : (bytes : Bytes) (r : Result Ended DecodeError) → Decodes r (unit_in bytes) → IfOk r (λ e. IsStored e)
is_stored_unit bytes (Ok e) h = is_stored e (unit_found bytes e h).fits
is_stored_unit bytes (Err why) h = tt
