-- What readers and writers of the code answer.
use Rattle.std.specs.Prelude.{◌≡◌, Option, Some, None, Result, Ok, Err, IsTrue}
use Rattle.bts_names.specs.Names.{Bytes}
use Rattle.bts_codec.specs.declared.decode_error.DecodeError.{DecodeError}
use Rattle.bts_codec.specs.declared.decode_error.DecodeError.TheVariants as error
use Rattle.bts_command.specs.declared.ended.Ended.{Ended}
use Rattle.bts_codec.specs.Units.{is_unit, payload}

-- why nothing is answered: nothing was found, or memory ran out
abbrev pub Fails : {Y : Type 0} → DecodeError → Option Y → Type 0
Fails error.NoMemory found = Unit {0}
Fails error.Malformed found = found ≡ None

-- what was found at the front of the bytes is answered, and what stands behind it is left
abbrev pub Gives : {A : Type 0} → Result A DecodeError → Bytes → Option (A × Bytes) → Type 0
Gives (Ok x) left found = found ≡ Some (x, left)
Gives (Err e) left found = Fails e found

-- an answer, seen by what its slice shows
abbrev pub shown : {X A : Type 0} → (X → A) → Result X DecodeError → Result A DecodeError
shown view (Ok x) = Ok (view x)
shown view (Err e) = Err e

-- what was found in all of the bytes is answered
abbrev pub Decodes : Result Ended DecodeError → Option Ended → Type 0
Decodes (Ok e) found = found ≡ Some e
Decodes (Err why) found = Fails why found

-- the bytes are the payload of the unit
pub record IsPayload (e : Ended) (bytes : Bytes) : Type 0 where
  pub fits : IsTrue (is_unit e)
  pub spelled : bytes ≡ payload e

-- where the answer is that the bytes are malformed, this holds
abbrev pub IfMalformed : Result Ended DecodeError → Type 0 → Type 0
IfMalformed (Err error.Malformed) fact = fact
IfMalformed _ fact = Unit {0}
