-- Reports and lists, byte for byte.
use Rattle.std.proofs.Common.{◌≡◌, ℕ, ◌+◌, Bool, true, false, List, [], ◌∷◌, ◌++◌, Some, None, codes, map, refl}
use Rattle.std.specs.List.{flat_map, enumerate_from}
use Rattle.std.specs.Fmt.{digits}
use Rattle.bts_names.specs.Names.{Bytes, Name, ActivityPath, initial_name, root_name}
use Rattle.bts_names.specs.declared.key.Key.{Key}
use Rattle.bts_names.specs.declared.reply.Reply.{Reply}
use Rattle.bts_names.specs.declared.reply.Resp.TheVariants as resp
use Rattle.bts_names.specs.declared.reply.Reason.TheVariants as reason
use Rattle.bts_names.specs.declared.reply.Value.TheVariants as value
use Rattle.bts_names.specs.declared.reply.Leaving.TheVariants as leaving
use Rattle.bts_names.specs.declared.row.Row.{Row}
use Rattle.bts_names.specs.declared.state.EventKind.TheVariants as kind
use Rattle.bts_names.specs.declared.state.Mode.TheVariants as mode
use Rattle.bts_names.specs.declared.state.Status.TheVariants as status
use Rattle.bts_names.specs.declared.state.TimerStatus.TheVariants as timer
use Rattle.bts_command.specs.declared.command.Call.{Call}
use Rattle.bts_command.specs.declared.command.Command.{Command}
use Rattle.bts_command.specs.declared.command.Command.TheVariants as command
use Rattle.bts_command.specs.declared.command.Due.TheVariants.{After}
use Rattle.bts_command.specs.declared.command.Spot.{Spot}
use Rattle.bts_command.specs.declared.command.Spot.TheVariants as spot
use Rattle.bts_command.specs.declared.command.Target.TheVariants as target
use Rattle.bts_command.specs.declared.ended.End.{End}
use Rattle.bts_command.specs.declared.ended.End.TheVariants.{Commit, Rollback, Abend}
use Rattle.bts_command.specs.declared.ended.Ended.{Ended}
use Rattle.bts_command.specs.declared.ended.UnitKind.{UnitKind}
use Rattle.bts_command.specs.declared.ended.UnitKind.TheVariants as unit
use Rattle.bts_timer.specs.Calendar.{civil_of, year_of, month_within, days_of_months}
use Rattle.bts_timer.specs.Moments.{civil_text}
use Rattle.bts_report.specs.Reports.{call_line, row_line, list_line, unit_line, unit_text, report, list_text}
use Rattle.bts_worked.proofs.Tables.{ok, event, normal, refusal}

-- ---- the form of an example

abbrev orders : Name → Key
orders name = record { ptype = codes "ORDERS"; pname = name }

infix 6 ◌gives◌
abbrev ◌gives◌ : Command → Reply → Call
c gives r = record { command = c; reply = r }

abbrev ended_at : ℕ → UnitKind → End → List Call → Ended
ended_at m u e calls = record { unit = u; moment = m; end = e; calls = calls; rows = []; seq = 1 }

-- at the first moment, with COMMIT
abbrev done : UnitKind → List Call → Ended
done u calls = ended_at 0 u Commit calls

-- a history behind so many units
abbrev report_behind : ℕ → List Ended → Bytes
report_behind n history = flat_map unit_text (enumerate_from (n + 1) history)

-- lines as a text
abbrev text : List Bytes → Bytes
text = flat_map (λ l. l ++ 10 ∷ [])

-- ---- a first request, and one that is refused; the bytes that are put are not printed

abbrev acquired : Spot
acquired = spot.Of target.AcqProcess

first_request : report (
    done (unit.Request 1 (orders (codes "P1"))) (
    (command.DefineProcess (codes "ORD1") (codes "ROOT") gives ok) ∷
    (command.PutContainer (codes "MSG") acquired (codes "hello") gives ok) ∷
    (command.GetContainer (codes "MSG") acquired gives normal (value.Bytes (codes "hello"))) ∷
    (command.Return false gives ok) ∷ []) ∷
    done (unit.Request 2 (orders (codes "P1"))) (
    (command.DefineProcess (codes "ORD1") (codes "ROOT") gives refusal resp.Processerr reason.Taken) ∷
    (command.PutContainer (codes "MSG") acquired [] gives refusal resp.Lengerr reason.Long) ∷
    (command.Return false gives ok) ∷ []) ∷ []) ≡ text (
    codes "1 REQUEST ORDERS P1 1970-01-01T00:00:00 COMMIT" ∷
    codes "  DEFINE PROCESS NORMAL" ∷
    codes "  PUT CONTAINER(MSG) NORMAL" ∷
    codes "  GET CONTAINER(MSG) NORMAL X'68656C6C6F'" ∷
    codes "  RETURN NORMAL" ∷
    codes "2 REQUEST ORDERS P1 1970-01-01T00:00:00 COMMIT" ∷
    codes "  DEFINE PROCESS PROCESSERR Taken" ∷
    codes "  PUT CONTAINER(MSG) LENGERR Long" ∷
    codes "  RETURN NORMAL" ∷ [])
unfolding digits unit_line call_line unit_text civil_text civil_of year_of month_within days_of_months
first_request = refl

-- ---- an order

abbrev p6 : Key
p6 = orders (codes "P6")

abbrev initial : Call
initial = command.RetrieveReattach gives event initial_name kind.System

abbrev left : Bool → Reply → Call
left end_activity r = command.Return end_activity gives r

abbrev leaf : List Call
leaf = initial ∷ left true (normal (value.Left leaving.Complete)) ∷ []

abbrev child : Name → Name → ℕ → Call
child a t n = command.DefineActivity a None t (codes "LEAF") gives normal (value.Id (n ∷ []))

abbrev checked : Name → Call
checked a = command.Check (target.Activity a) gives normal (value.Activity mode.Complete status.Normal false None)

abbrev bill : Name
bill = codes "BILL"

abbrev ship : Name
ship = codes "SHIP"

abbrev both : Name
both = codes "BOTH"

abbrev order : List Ended
order =
    done (unit.Request 1 p6) (
    (command.DefineProcess (codes "ORD1") (codes "ORDER") gives ok) ∷
    (command.Run target.AcqProcess false None gives ok) ∷
    left false ok ∷ []) ∷
    done (unit.Activation p6 []) (
    initial ∷
    child bill (codes "BIL1") 1 ∷
    child ship (codes "SHP1") 2 ∷
    (command.DefineComposite both true (bill ∷ ship ∷ []) gives ok) ∷
    (command.Run (target.Activity bill) false None gives ok) ∷
    (command.Run (target.Activity ship) false None gives ok) ∷
    left false (normal (value.Left leaving.Dormant)) ∷ []) ∷
    done (unit.Activation p6 (1 ∷ [])) leaf ∷
    done (unit.Notice p6 (1 ∷ [])) [] ∷
    done (unit.Activation p6 (2 ∷ [])) leaf ∷
    done (unit.Notice p6 (2 ∷ [])) [] ∷
    done (unit.Activation p6 []) (
    (command.RetrieveReattach gives event both kind.Composite) ∷
    checked bill ∷
    checked ship ∷
    (command.DeleteEvent both gives ok) ∷
    left false (normal (value.Left leaving.Complete)) ∷ []) ∷ []

order_report : report order ≡ text (
    codes "1 REQUEST ORDERS P6 1970-01-01T00:00:00 COMMIT" ∷
    codes "  DEFINE PROCESS NORMAL" ∷
    codes "  RUN ACQPROCESS NORMAL" ∷
    codes "  RETURN NORMAL" ∷
    codes "2 ACTIVATION ORDERS P6 / 1970-01-01T00:00:00 COMMIT" ∷
    codes "  RETRIEVE REATTACH NORMAL DFHINITIAL SYSTEM" ∷
    codes "  DEFINE ACTIVITY(BILL) NORMAL /1" ∷
    codes "  DEFINE ACTIVITY(SHIP) NORMAL /2" ∷
    codes "  DEFINE COMPOSITE(BOTH) NORMAL" ∷
    codes "  RUN ACTIVITY(BILL) NORMAL" ∷
    codes "  RUN ACTIVITY(SHIP) NORMAL" ∷
    codes "  RETURN NORMAL DORMANT" ∷
    codes "3 ACTIVATION ORDERS P6 /1 1970-01-01T00:00:00 COMMIT" ∷
    codes "  RETRIEVE REATTACH NORMAL DFHINITIAL SYSTEM" ∷
    codes "  RETURN ENDACTIVITY NORMAL COMPLETE" ∷
    codes "4 NOTICE ORDERS P6 /1 1970-01-01T00:00:00 COMMIT" ∷
    codes "5 ACTIVATION ORDERS P6 /2 1970-01-01T00:00:00 COMMIT" ∷
    codes "  RETRIEVE REATTACH NORMAL DFHINITIAL SYSTEM" ∷
    codes "  RETURN ENDACTIVITY NORMAL COMPLETE" ∷
    codes "6 NOTICE ORDERS P6 /2 1970-01-01T00:00:00 COMMIT" ∷
    codes "7 ACTIVATION ORDERS P6 / 1970-01-01T00:00:00 COMMIT" ∷
    codes "  RETRIEVE REATTACH NORMAL BOTH COMPOSITE" ∷
    codes "  CHECK ACTIVITY(BILL) NORMAL COMPLETE NORMAL NOTSUSPENDED -" ∷
    codes "  CHECK ACTIVITY(SHIP) NORMAL COMPLETE NORMAL NOTSUSPENDED -" ∷
    codes "  DELETE EVENT(BOTH) NORMAL" ∷
    codes "  RETURN NORMAL COMPLETE" ∷ [])
unfolding digits unit_line call_line unit_text civil_text civil_of year_of month_within days_of_months
order_report = refl

abbrev of_order : ActivityPath → Name → Name → Name → Row
of_order p n t g = record {
  key = p6;
  generation = 1;
  path = p;
  name = n;
  mode = mode.Complete;
  status = status.Normal;
  suspended = false;
  queued = 0;
  transid = t;
  program = g;
}

abbrev rows : List Row
rows =
    of_order [] root_name (codes "ORD1") (codes "ORDER")
    ∷ of_order (1 ∷ []) bill (codes "BIL1") (codes "LEAF")
    ∷ of_order (2 ∷ []) ship (codes "SHP1") (codes "LEAF") ∷ []

-- the list of its activities
order_list : list_text rows ≡ text (
    codes "ORDERS P6 1 / DFHROOT COMPLETE NORMAL NOTSUSPENDED 0 ORD1 ORDER" ∷
    codes "ORDERS P6 1 /1 BILL COMPLETE NORMAL NOTSUSPENDED 0 BIL1 LEAF" ∷
    codes "ORDERS P6 1 /2 SHIP COMPLETE NORMAL NOTSUSPENDED 0 SHP1 LEAF" ∷ [])
unfolding digits list_line
order_list = refl

-- the same list in a browse
order_browse : report_behind 7 (
    done (unit.Settle 2) [] ∷
    record { unit = unit.Browse 3; moment = 0; end = Commit; calls = []; rows = rows; seq = 0 } ∷ []) ≡ text (
    codes "8 SETTLE 1970-01-01T00:00:00 COMMIT" ∷
    codes "9 BROWSE 1970-01-01T00:00:00 COMMIT" ∷
    codes "  ORDERS P6 1 / DFHROOT COMPLETE NORMAL NOTSUSPENDED 0 ORD1 ORDER" ∷
    codes "  ORDERS P6 1 /1 BILL COMPLETE NORMAL NOTSUSPENDED 0 BIL1 LEAF" ∷
    codes "  ORDERS P6 1 /2 SHIP COMPLETE NORMAL NOTSUSPENDED 0 SHP1 LEAF" ∷ [])
unfolding digits unit_line row_line unit_text civil_text civil_of year_of month_within days_of_months
order_browse = refl

-- a row of another process, suspended, with entries, deep in its tree
deep_row : list_text (record {
  key = orders (codes "P15");
  generation = 12;
  path = 4294967295 ∷ 10 ∷ [];
  name = codes "A";
  mode = mode.Dormant;
  status = status.Incomplete;
  suspended = true;
  queued = 307;
  transid = codes "T1";
  program = codes "WAITER";
} ∷ []) ≡ text (
    codes "ORDERS P15 12 /4294967295/10 A DORMANT INCOMPLETE SUSPENDED 307 T1 WAITER" ∷ [])
unfolding digits list_line
deep_row = refl

-- ---- sub-events, timers and moments

abbrev p7 : Key
p7 = orders (codes "P7")

abbrev either : Command
either = command.RetrieveSubevent (codes "EITHER")

-- an entry of a composite, and its two sub-events
subevents : report_behind 4 (
    done (unit.Activation p7 []) (
    (command.RetrieveReattach gives event (codes "EITHER") kind.Composite) ∷
    (either gives event (codes "I2") kind.Input) ∷
    (either gives event (codes "I1") kind.Input) ∷
    (either gives refusal resp.End reason.Empty) ∷
    left false (normal (value.Left leaving.Dormant)) ∷ []) ∷ []) ≡ text (
    codes "5 ACTIVATION ORDERS P7 / 1970-01-01T00:00:00 COMMIT" ∷
    codes "  RETRIEVE REATTACH NORMAL EITHER COMPOSITE" ∷
    codes "  RETRIEVE SUBEVENT(EITHER) NORMAL I2 INPUT" ∷
    codes "  RETRIEVE SUBEVENT(EITHER) NORMAL I1 INPUT" ∷
    codes "  RETRIEVE SUBEVENT(EITHER) END Empty" ∷
    codes "  RETURN NORMAL DORMANT" ∷ [])
unfolding digits unit_line call_line unit_text civil_text civil_of year_of month_within days_of_months
subevents = refl

abbrev p13 : Key
p13 = orders (codes "P13")

abbrev t1 : Name
t1 = codes "T1"

abbrev t2 : Name
t2 = codes "T2"

-- the clock reaches a timer
timers : report_behind 3 (
    ended_at 60 (unit.Clock 3) Commit [] ∷
    ended_at 60 (unit.Expiry p13 [] t1) Commit [] ∷
    ended_at 60 (unit.Activation p13 []) Commit (
    (command.RetrieveReattach gives event t1 kind.Timer) ∷
    (command.CheckTimer t1 gives normal (value.Timer timer.Expired)) ∷
    (command.CheckTimer t2 gives normal (value.Timer timer.Unexpired)) ∷
    (command.DeleteTimer t2 gives ok) ∷
    left false (normal (value.Left leaving.Complete)) ∷ []) ∷
    ended_at 60 (unit.Settle 4) Commit [] ∷ []) ≡ text (
    codes "4 CLOCK 1970-01-01T00:01:00 COMMIT" ∷
    codes "5 EXPIRY ORDERS P13 / T1 1970-01-01T00:01:00 COMMIT" ∷
    codes "6 ACTIVATION ORDERS P13 / 1970-01-01T00:01:00 COMMIT" ∷
    codes "  RETRIEVE REATTACH NORMAL T1 TIMER" ∷
    codes "  CHECK TIMER(T1) NORMAL EXPIRED" ∷
    codes "  CHECK TIMER(T2) NORMAL UNEXPIRED" ∷
    codes "  DELETE TIMER(T2) NORMAL" ∷
    codes "  RETURN NORMAL COMPLETE" ∷
    codes "7 SETTLE 1970-01-01T00:01:00 COMMIT" ∷ [])
unfolding digits unit_line call_line unit_text civil_text civil_of year_of month_within days_of_months
timers = refl

-- the last moment, and a unit of two digits
last_moment : report_behind 9 (ended_at 253402300799 (unit.Expiry p13 (3 ∷ 12 ∷ []) t1) Commit ((command.DefineTimer t1 None (After 1) gives refusal resp.Invreq reason.Range) ∷ []) ∷ []) ≡ text (
    codes "10 EXPIRY ORDERS P13 /3/12 T1 9999-12-31T23:59:59 COMMIT" ∷
    codes "  DEFINE TIMER(T1) INVREQ Range" ∷ [])
unfolding digits unit_line call_line unit_text civil_text civil_of year_of month_within days_of_months
last_moment = refl

-- ---- rollback and abends

abbrev p9 : Key
p9 = orders (codes "P9")

abbrev p19 : Key
p19 = orders (codes "P19")

-- a return without a retrieval, and what is then checked
no_retrieval : report_behind 1 (
    ended_at 0 (unit.Activation p9 []) (Abend (codes "NORT")) (
    (command.PutContainer (codes "X") spot.Own (codes "1") gives ok) ∷
    left false (normal (value.Left (leaving.Abended (codes "NORT")))) ∷ []) ∷
    done (unit.Settle 2) [] ∷
    done (unit.Request 3 p9) (
    (command.AcquireActivity [] gives ok) ∷
    (command.GetContainer (codes "X") (spot.Of target.AcqActivity) gives refusal resp.Containererr reason.Missing) ∷
    (command.Check target.AcqActivity gives normal (value.Activity mode.Complete status.Abend false (Some (codes "NORT")))) ∷
    left false ok ∷ []) ∷ []) ≡ text (
    codes "2 ACTIVATION ORDERS P9 / 1970-01-01T00:00:00 ABEND NORT" ∷
    codes "  PUT CONTAINER(X) NORMAL" ∷
    codes "  RETURN NORMAL ABEND NORT" ∷
    codes "3 SETTLE 1970-01-01T00:00:00 COMMIT" ∷
    codes "4 REQUEST ORDERS P9 1970-01-01T00:00:00 COMMIT" ∷
    codes "  ACQUIRE ACTIVITYID(/) NORMAL" ∷
    codes "  GET CONTAINER(X) CONTAINERERR Missing" ∷
    codes "  CHECK ACQACTIVITY NORMAL COMPLETE ABEND NOTSUSPENDED NORT" ∷
    codes "  RETURN NORMAL" ∷ [])
unfolding digits unit_line call_line unit_text civil_text civil_of year_of month_within days_of_months
no_retrieval = refl

-- a rollback, an activity whose program is not there, and one that never stops
stopped : report (
    ended_at 0 (unit.Request 1 p19) Rollback (
    (command.DefineProcess (codes "ORD1") (codes "ROOT") gives ok) ∷
    (command.Rollback gives ok) ∷ []) ∷
    ended_at 0 (unit.Activation p19 []) (Abend (codes "NOPG")) ((command.Abend (codes "NOPG") gives ok) ∷ []) ∷
    ended_at 0 (unit.Activation p19 []) (Abend (codes "STEP")) [] ∷ []) ≡ text (
    codes "1 REQUEST ORDERS P19 1970-01-01T00:00:00 ROLLBACK" ∷
    codes "  DEFINE PROCESS NORMAL" ∷
    codes "  ROLLBACK NORMAL" ∷
    codes "2 ACTIVATION ORDERS P19 / 1970-01-01T00:00:00 ABEND NOPG" ∷
    codes "  ABEND(NOPG) NORMAL" ∷
    codes "3 ACTIVATION ORDERS P19 / 1970-01-01T00:00:00 ABEND STEP" ∷ [])
unfolding digits unit_line call_line unit_text civil_text civil_of year_of month_within days_of_months
stopped = refl

-- ---- all commands, and all values

abbrev calls_text : List Call → Bytes
calls_text = flat_map call_line

abbrev x : Name
x = codes "X"

abbrev ok_of : Command → Call
ok_of c = c gives ok

abbrev commands : List Command
commands =
    (command.DefineProcess x x) ∷
    command.AcquireProcess ∷
    (command.AcquireActivity (1 ∷ 2 ∷ [])) ∷
    command.PurgeProcess ∷
    (command.DefineActivity (codes "A") (Some x) x x) ∷
    (command.DeleteActivity (codes "A")) ∷
    (command.Run (target.Activity (codes "A")) true (Some x)) ∷
    (command.Link target.AcqProcess (Some x)) ∷
    (command.Check target.AcqActivity) ∷
    (command.Cancel (target.Activity (codes "A"))) ∷
    (command.Reset target.AcqProcess) ∷
    (command.Suspend target.AcqActivity) ∷
    (command.Resume (target.Activity (codes "A"))) ∷
    (command.PutContainer (codes "C") spot.Process x) ∷
    (command.GetContainer (codes "C") spot.Own) ∷
    (command.DeleteContainer (codes "C") spot.Own) ∷
    (command.DefineInput (codes "E")) ∷
    (command.DefineComposite (codes "E") false (x ∷ [])) ∷
    (command.AddSubevent (codes "S") x) ∷
    (command.RemoveSubevent (codes "S") x) ∷
    (command.DeleteEvent (codes "E")) ∷
    (command.TestEvent (codes "E")) ∷
    command.RetrieveReattach ∷
    (command.RetrieveSubevent (codes "E")) ∷
    (command.DefineTimer (codes "T") (Some x) (After 1)) ∷
    (command.ForceTimer (codes "T") (Some target.AcqProcess)) ∷
    (command.CheckTimer (codes "T")) ∷
    (command.DeleteTimer (codes "T")) ∷
    (command.Return false) ∷
    (command.Return true) ∷
    (command.Abend x) ∷
    command.Rollback ∷ []

all_commands : calls_text (map ok_of commands) ≡ text (
    codes "  DEFINE PROCESS NORMAL" ∷
    codes "  ACQUIRE PROCESS NORMAL" ∷
    codes "  ACQUIRE ACTIVITYID(/1/2) NORMAL" ∷
    codes "  PURGE ACQPROCESS NORMAL" ∷
    codes "  DEFINE ACTIVITY(A) NORMAL" ∷
    codes "  DELETE ACTIVITY(A) NORMAL" ∷
    codes "  RUN ACTIVITY(A) NORMAL" ∷
    codes "  LINK ACQPROCESS NORMAL" ∷
    codes "  CHECK ACQACTIVITY NORMAL" ∷
    codes "  CANCEL ACTIVITY(A) NORMAL" ∷
    codes "  RESET ACQPROCESS NORMAL" ∷
    codes "  SUSPEND ACQACTIVITY NORMAL" ∷
    codes "  RESUME ACTIVITY(A) NORMAL" ∷
    codes "  PUT CONTAINER(C) NORMAL" ∷
    codes "  GET CONTAINER(C) NORMAL" ∷
    codes "  DELETE CONTAINER(C) NORMAL" ∷
    codes "  DEFINE INPUT(E) NORMAL" ∷
    codes "  DEFINE COMPOSITE(E) NORMAL" ∷
    codes "  ADD SUBEVENT(S) NORMAL" ∷
    codes "  REMOVE SUBEVENT(S) NORMAL" ∷
    codes "  DELETE EVENT(E) NORMAL" ∷
    codes "  TEST EVENT(E) NORMAL" ∷
    codes "  RETRIEVE REATTACH NORMAL" ∷
    codes "  RETRIEVE SUBEVENT(E) NORMAL" ∷
    codes "  DEFINE TIMER(T) NORMAL" ∷
    codes "  FORCE TIMER(T) NORMAL" ∷
    codes "  CHECK TIMER(T) NORMAL" ∷
    codes "  DELETE TIMER(T) NORMAL" ∷
    codes "  RETURN NORMAL" ∷
    codes "  RETURN ENDACTIVITY NORMAL" ∷
    codes "  ABEND(X) NORMAL" ∷
    codes "  ROLLBACK NORMAL" ∷ [])
unfolding digits call_line
all_commands = refl

abbrev replies : List Reply
replies =
    normal value.Nothing ∷
    normal (value.Bytes []) ∷
    normal (value.Bytes (0 ∷ 9 ∷ 10 ∷ 15 ∷ 16 ∷ 171 ∷ 255 ∷ [])) ∷
    normal (value.Id []) ∷
    normal (value.Id (1 ∷ 20 ∷ [])) ∷
    normal (value.Event x kind.System) ∷
    normal (value.Event x kind.Activity) ∷
    normal (value.Fired true) ∷
    normal (value.Fired false) ∷
    normal (value.Activity mode.Initial status.Incomplete true None) ∷
    normal (value.Activity mode.Complete status.Forced false None) ∷
    normal (value.Activity mode.Active status.Abend false (Some (codes "OOPS"))) ∷
    normal (value.Timer timer.Forced) ∷
    normal (value.Ran true) ∷
    normal (value.Ran false) ∷
    normal (value.Left leaving.Dormant) ∷
    normal (value.Left leaving.Complete) ∷
    normal (value.Left (leaving.Abended (codes "CHLD"))) ∷ []

all_values : calls_text (map (λ r. command.TestEvent x gives r) replies) ≡ text (
    codes "  TEST EVENT(X) NORMAL" ∷
    codes "  TEST EVENT(X) NORMAL X''" ∷
    codes "  TEST EVENT(X) NORMAL X'00090A0F10ABFF'" ∷
    codes "  TEST EVENT(X) NORMAL /" ∷
    codes "  TEST EVENT(X) NORMAL /1/20" ∷
    codes "  TEST EVENT(X) NORMAL X SYSTEM" ∷
    codes "  TEST EVENT(X) NORMAL X ACTIVITY" ∷
    codes "  TEST EVENT(X) NORMAL FIRED" ∷
    codes "  TEST EVENT(X) NORMAL NOTFIRED" ∷
    codes "  TEST EVENT(X) NORMAL INITIAL INCOMPLETE SUSPENDED -" ∷
    codes "  TEST EVENT(X) NORMAL COMPLETE FORCED NOTSUSPENDED -" ∷
    codes "  TEST EVENT(X) NORMAL ACTIVE ABEND NOTSUSPENDED OOPS" ∷
    codes "  TEST EVENT(X) NORMAL FORCED" ∷
    codes "  TEST EVENT(X) NORMAL RAN" ∷
    codes "  TEST EVENT(X) NORMAL WAITS" ∷
    codes "  TEST EVENT(X) NORMAL DORMANT" ∷
    codes "  TEST EVENT(X) NORMAL COMPLETE" ∷
    codes "  TEST EVENT(X) NORMAL ABEND CHLD" ∷ [])
unfolding digits call_line
all_values = refl
