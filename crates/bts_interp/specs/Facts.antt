-- What a frame's own calls have shown, and what depends on it.
use Rattle.std.specs.Prelude.{Bool, false, List, [], ◌∷◌, Option, Some, None, unwrap_or, replicate}
use Rattle.std.specs.Option.{option_or}
use Rattle.std.specs.Str.{bytes_eq}
use Rattle.bts_names.specs.Names.{Name, Bytes, same}
use Rattle.bts_names.specs.Vocabulary.{resp_word}
use Rattle.bts_names.specs.declared.reply.Resp.{Resp}
use Rattle.bts_names.specs.declared.reply.Value.{Value}
use Rattle.bts_names.specs.declared.reply.Value.TheVariants as value
use Rattle.bts_names.specs.declared.state.Status.{Status}
use Rattle.bts_browse.specs.Met.{same_status}
use Rattle.bts_command.specs.declared.command.Call.{Call}
use Rattle.bts_forms.specs.declared.statement.Cond.{Cond}
use Rattle.bts_forms.specs.declared.statement.Cond.TheVariants as when
use Rattle.bts_forms.specs.declared.statement.Given.{Given}
use Rattle.bts_forms.specs.declared.statement.Given.TheVariants as given

-- ---- what a call shows

abbrev pub event_in : Value → Option Name
event_in (value.Event name kind) = Some name
event_in _ = None

abbrev pub status_in : Value → Option Status
status_in (value.Activity mode status suspended code) = Some status
status_in _ = None

abbrev pub bytes_in : Value → Option Bytes
bytes_in (value.Bytes bytes) = Some bytes
bytes_in _ = None

abbrev pub fired_in : Value → Option Bool
fired_in (value.Fired fired) = Some fired
fired_in _ = None

-- ---- what the calls of a frame show

-- what the last call shows of those that show something
abbrev pub latest : {A : Type 0} → (Call → Option A) → List Call → Option A
latest shows [] = None
latest shows (c ∷ cs) = option_or (latest shows cs) (shows c)

abbrev pub last_response : List Call → Option Resp
last_response = latest (λ c. Some c.reply.resp)

-- the event of the last RETRIEVE that was NORMAL, the status of the last CHECK, the bytes of the last GET, and
-- whether the last TEST said FIRED: a refused call has no value
abbrev pub last_event : List Call → Option Name
last_event = latest (λ c. event_in c.reply.value)

abbrev pub last_status : List Call → Option Status
last_status = latest (λ c. status_in c.reply.value)

abbrev pub last_bytes : List Call → Option Bytes
last_bytes = latest (λ c. bytes_in c.reply.value)

abbrev pub last_fired : List Call → Option Bool
last_fired = latest (λ c. fired_in c.reply.value)

-- ---- conditions

-- responses are the same where their words are
abbrev pub same_resp : Resp → Resp → Bool
same_resp a b = bytes_eq (resp_word a) (resp_word b)

-- whether what was shown passes a test; it doesn't where nothing was
abbrev pub has_shown : {A : Type 0} → (A → Bool) → Option A → Bool
has_shown test None = false
has_shown test (Some x) = test x

-- whether a condition holds behind a frame's own calls
abbrev pub is_so : List Call → Cond → Bool
is_so own (when.Resp resp) = has_shown (same_resp resp) (last_response own)
is_so own (when.Event name) = has_shown (same name) (last_event own)
is_so own (when.Status status) = has_shown (same_status status) (last_status own)
is_so own (when.Gave bytes) = has_shown (same bytes) (last_bytes own)
is_so own when.Fired = unwrap_or (last_fired own) false

-- ---- FROM

-- the bytes that a FROM gives; LAST is those of the last GET, and none before one
abbrev pub bytes_of : List Call → Given → Bytes
bytes_of own (given.Literal bytes) = bytes
bytes_of own (given.Fill count) = replicate count 42
bytes_of own given.Last = unwrap_or (last_bytes own) []
