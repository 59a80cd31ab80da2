-- The words of replies and states, with their numbers in stored bytes.
use Rattle.std.specs.Prelude.{ℕ, List, [], ◌∷◌, Option, Some, None, codes}
use Rattle.std.specs.List.{find, slice_get}
use Rattle.std.specs.Str.{bytes_eq}
use Rattle.bts_names.specs.Names.{Bytes}
use Rattle.bts_names.specs.declared.reply.Resp.{Resp}
use Rattle.bts_names.specs.declared.reply.Resp.TheVariants as resp
use Rattle.bts_names.specs.declared.reply.Reason.{Reason}
use Rattle.bts_names.specs.declared.reply.Reason.TheVariants as reason
use Rattle.bts_names.specs.declared.state.Mode.{Mode}
use Rattle.bts_names.specs.declared.state.Mode.TheVariants as mode
use Rattle.bts_names.specs.declared.state.Status.{Status}
use Rattle.bts_names.specs.declared.state.Status.TheVariants as status
use Rattle.bts_names.specs.declared.state.EventKind.{EventKind}
use Rattle.bts_names.specs.declared.state.EventKind.TheVariants as kind
use Rattle.bts_names.specs.declared.state.TimerStatus.{TimerStatus}
use Rattle.bts_names.specs.declared.state.TimerStatus.TheVariants as timer

-- the value with this number, among values in the order of their numbers from 0
abbrev pub at_number : {A : Type 0} → List A → ℕ → Option A
at_number = slice_get

-- the value with this word
abbrev pub at_word : {A : Type 0} → (A → Bytes) → List A → Bytes → Option A
at_word word values bytes = find (λ x. bytes_eq (word x) bytes) values

abbrev pub resp_word : Resp → Bytes
resp_word resp.Normal = codes "NORMAL"
resp_word resp.Invreq = codes "INVREQ"
resp_word resp.Lengerr = codes "LENGERR"
resp_word resp.End = codes "END"
resp_word resp.Processerr = codes "PROCESSERR"
resp_word resp.Activityerr = codes "ACTIVITYERR"
resp_word resp.Containererr = codes "CONTAINERERR"
resp_word resp.Eventerr = codes "EVENTERR"
resp_word resp.Timererr = codes "TIMERERR"

abbrev pub resp_number : Resp → ℕ
resp_number resp.Normal = 0
resp_number resp.Invreq = 1
resp_number resp.Lengerr = 2
resp_number resp.End = 3
resp_number resp.Processerr = 4
resp_number resp.Activityerr = 5
resp_number resp.Containererr = 6
resp_number resp.Eventerr = 7
resp_number resp.Timererr = 8

abbrev pub resps : List Resp
resps = resp.Normal ∷ resp.Invreq ∷ resp.Lengerr ∷ resp.End ∷ resp.Processerr ∷ resp.Activityerr ∷ resp.Containererr ∷ resp.Eventerr ∷ resp.Timererr ∷ []

abbrev pub reason_word : Reason → Bytes
reason_word reason.None = codes "None"
reason_word reason.Place = codes "Place"
reason_word reason.Acquired = codes "Acquired"
reason_word reason.NotAcquired = codes "NotAcquired"
reason_word reason.Taken = codes "Taken"
reason_word reason.Missing = codes "Missing"
reason_word reason.Mode = codes "Mode"
reason_word reason.Started = codes "Started"
reason_word reason.InputGiven = codes "InputGiven"
reason_word reason.InputMissing = codes "InputMissing"
reason_word reason.Kind = codes "Kind"
reason_word reason.Fired = codes "Fired"
reason_word reason.Depth = codes "Depth"
reason_word reason.Limit = codes "Limit"
reason_word reason.ReadOnly = codes "ReadOnly"
reason_word reason.Long = codes "Long"
reason_word reason.NotAtomic = codes "NotAtomic"
reason_word reason.NotComposite = codes "NotComposite"
reason_word reason.IsSubevent = codes "IsSubevent"
reason_word reason.NotSubevent = codes "NotSubevent"
reason_word reason.Empty = codes "Empty"
reason_word reason.Range = codes "Range"
reason_word reason.Ended = codes "Ended"

abbrev pub reason_number : Reason → ℕ
reason_number reason.None = 0
reason_number reason.Place = 1
reason_number reason.Acquired = 2
reason_number reason.NotAcquired = 3
reason_number reason.Taken = 4
reason_number reason.Missing = 5
reason_number reason.Mode = 6
reason_number reason.Started = 7
reason_number reason.InputGiven = 8
reason_number reason.InputMissing = 9
reason_number reason.Kind = 10
reason_number reason.Fired = 11
reason_number reason.Depth = 12
reason_number reason.Limit = 13
reason_number reason.ReadOnly = 14
reason_number reason.Long = 15
reason_number reason.NotAtomic = 16
reason_number reason.NotComposite = 17
reason_number reason.IsSubevent = 18
reason_number reason.NotSubevent = 19
reason_number reason.Empty = 20
reason_number reason.Range = 21
reason_number reason.Ended = 22

abbrev pub reasons : List Reason
reasons = reason.None ∷ reason.Place ∷ reason.Acquired ∷ reason.NotAcquired ∷ reason.Taken ∷ reason.Missing ∷ reason.Mode ∷ reason.Started ∷ reason.InputGiven ∷ reason.InputMissing ∷ reason.Kind ∷ reason.Fired ∷ reason.Depth ∷ reason.Limit ∷ reason.ReadOnly ∷ reason.Long ∷ reason.NotAtomic ∷ reason.NotComposite ∷ reason.IsSubevent ∷ reason.NotSubevent ∷ reason.Empty ∷ reason.Range ∷ reason.Ended ∷ []

abbrev pub mode_word : Mode → Bytes
mode_word mode.Initial = codes "INITIAL"
mode_word mode.Active = codes "ACTIVE"
mode_word mode.Dormant = codes "DORMANT"
mode_word mode.Complete = codes "COMPLETE"

-- ACTIVE has no number
abbrev pub mode_number : Mode → Option ℕ
mode_number mode.Initial = Some 0
mode_number mode.Active = None
mode_number mode.Dormant = Some 1
mode_number mode.Complete = Some 2

abbrev pub stored_modes : List Mode
stored_modes = mode.Initial ∷ mode.Dormant ∷ mode.Complete ∷ []

abbrev pub status_word : Status → Bytes
status_word status.Incomplete = codes "INCOMPLETE"
status_word status.Normal = codes "NORMAL"
status_word status.Abend = codes "ABEND"
status_word status.Forced = codes "FORCED"

abbrev pub status_number : Status → ℕ
status_number status.Incomplete = 0
status_number status.Normal = 1
status_number status.Abend = 2
status_number status.Forced = 3

abbrev pub statuses : List Status
statuses = status.Incomplete ∷ status.Normal ∷ status.Abend ∷ status.Forced ∷ []

abbrev pub kind_word : EventKind → Bytes
kind_word kind.System = codes "SYSTEM"
kind_word kind.Input = codes "INPUT"
kind_word kind.Activity = codes "ACTIVITY"
kind_word kind.Timer = codes "TIMER"
kind_word kind.Composite = codes "COMPOSITE"

abbrev pub kind_number : EventKind → ℕ
kind_number kind.System = 0
kind_number kind.Input = 1
kind_number kind.Activity = 2
kind_number kind.Timer = 3
kind_number kind.Composite = 4

abbrev pub kinds : List EventKind
kinds = kind.System ∷ kind.Input ∷ kind.Activity ∷ kind.Timer ∷ kind.Composite ∷ []

abbrev pub timer_word : TimerStatus → Bytes
timer_word timer.Unexpired = codes "UNEXPIRED"
timer_word timer.Expired = codes "EXPIRED"
timer_word timer.Forced = codes "FORCED"

abbrev pub timer_number : TimerStatus → ℕ
timer_number timer.Unexpired = 0
timer_number timer.Expired = 1
timer_number timer.Forced = 2

abbrev pub timer_statuses : List TimerStatus
timer_statuses = timer.Unexpired ∷ timer.Expired ∷ timer.Forced ∷ []
