-- The forms of lines: one entry for each row of the tables.
use Rattle.std.specs.Prelude.{Bool, true, false, not, ◌&&◌, List, [], ◌∷◌, ◌++◌, codes, Option, Some, None, is_some, Result, option_map}
use Rattle.bts_names.specs.Names.{Bytes, Name}
use Rattle.bts_forms.specs.Texts.{◌>>=◌}
use Rattle.bts_command.specs.declared.command.Command.{Command}
use Rattle.bts_command.specs.declared.command.Command.TheVariants as command
use Rattle.bts_command.specs.declared.command.Target.{Target}
use Rattle.bts_command.specs.declared.command.Target.TheVariants as targets
use Rattle.bts_command.specs.declared.command.Spot.{Spot}
use Rattle.bts_command.specs.declared.command.Spot.TheVariants as spots
use Rattle.bts_command.specs.declared.command.Due.{Due}
use Rattle.bts_command.specs.declared.command.Due.TheVariants as dues
use Rattle.bts_forms.specs.declared.statement.Cond.{Cond}
use Rattle.bts_forms.specs.declared.statement.Cond.TheVariants as when
use Rattle.bts_forms.specs.declared.statement.Statement.{Statement}
use Rattle.bts_forms.specs.declared.statement.Statement.TheVariants as statement
use Rattle.bts_forms.specs.declared.line.Word.{Word}
use Rattle.bts_forms.specs.declared.line.Setting.{Setting}
use Rattle.bts_forms.specs.declared.line.Setting.TheVariants as setting
use Rattle.bts_forms.specs.declared.line.Line.{Line}
use Rattle.bts_forms.specs.declared.line.Line.TheVariants as line
use Rattle.bts_forms.specs.Pieces.{Piece, says, bare, given, given_to_last, maybe, up_to, ended, result_of, behind_word, argument_in, ◌▸◌, ◌▹◌, ◌or◌}
use Rattle.bts_forms.specs.Arguments.{name, event_name, process_name, process_type, program_name, transid, code, path, number, moment, resp, mode, status, literal, source}

-- a form: where it belongs, which lines of it are let through, and what a line says, nothing where it isn't of the form; spaces at the line's ends are dropped
pub record Form : Type 0 where
  pub belongs : Setting
  pub lets_through : Bytes → Bool
  pub reads : Bytes → Option (Result Line Word)

-- a target, and the place of a container
unfoldable pub target : Piece Target
target = says targets.Activity ▹ given (codes "ACTIVITY") name or says targets.AcqProcess ▸ codes "ACQPROCESS" or says targets.AcqActivity ▸ codes "ACQACTIVITY"

unfoldable pub spot : Piece Spot
spot = says spots.Of ▹ target or says spots.Process ▸ codes "PROCESS" or says spots.Own

-- one of two words
unfoldable pub either : Bytes → Bytes → Piece Bool
either yes_word no_word = says true ▸ yes_word or says false ▸ no_word

unfoldable pub synchrony : Piece Bool
synchrony = either (codes "SYNCHRONOUS") (codes "ASYNCHRONOUS")

unfoldable pub connective : Piece Bool
connective = either (codes "AND") (codes "OR")

unfoldable pub whether : Bytes → Piece Bool
whether word = says true ▸ word or says false

unfoldable pub input : Piece (Option Name)
input = maybe (given (codes "INPUTEVENT") name)

unfoldable pub due : Piece Due
due = says dues.After ▹ given (codes "AFTER") number or says dues.At ▹ given (codes "AT") moment

-- how FORCE TIMER names what was acquired
unfoldable pub acquired : Piece Target
acquired = says targets.AcqProcess ▸ codes "ACQPROCESS" or says targets.AcqActivity ▸ codes "ACQACTIVITY"

-- a condition
unfoldable pub early_condition : Piece Cond
early_condition = says when.Resp ▹ given (codes "RESP") resp or says when.Event ▹ given (codes "EVENT") event_name or says when.Status ▹ given (codes "STATUS") status

unfoldable pub late_condition : Piece Cond
late_condition = says when.Gave ▹ given_to_last (codes "DATA") literal or says when.Fired ▸ codes "FIRED"

unfoldable pub condition : Piece Cond
condition = early_condition or late_condition

-- ---- the lines of a session

unfoldable pub program_line : Piece Line
program_line = says line.Program ▸ codes "PROGRAM" ▹ bare program_name

unfoldable pub request_line : Piece Line
request_line = says (λ t n. line.Request (record { ptype = t; pname = n })) ▸ codes "REQUEST" ▹ bare process_type ▹ bare process_name

unfoldable pub end_line : Piece Line
end_line = says line.End ▸ codes "END"

unfoldable pub clock_line : Piece Line
clock_line = says line.Clock ▸ codes "CLOCK" ▹ bare moment

unfoldable pub settle_line : Piece Line
settle_line = says line.Settle ▸ codes "SETTLE"

unfoldable pub browse_line : Piece Line
browse_line = says line.Browse ▸ codes "BROWSE" ▹ maybe (given (codes "TYPE") process_type) ▹ maybe (given (codes "PROCESS") process_name) ▹ maybe (given (codes "MODE") mode) ▹ maybe (given (codes "STATUS") status) ▹ whether (codes "SUSPENDED")

-- ---- statements of scripts

unfoldable pub label_line : Piece Statement
label_line = says statement.Label ▸ codes "LABEL" ▹ bare name

unfoldable pub goto_line : Piece Statement
goto_line = says statement.Goto ▸ codes "GOTO" ▹ bare name

unfoldable pub when_line : Piece Statement
when_line = says statement.When ▸ codes "WHEN" ▹ condition ▸ codes "GOTO" ▹ bare name

-- ---- the 31 commands, in the order of their numbers

unfoldable pub define_process : Piece Command
define_process = says command.DefineProcess ▸ codes "DEFINE" ▸ codes "PROCESS" ▹ given (codes "TRANSID") transid ▹ given (codes "PROGRAM") program_name

unfoldable pub acquire_process : Piece Command
acquire_process = says command.AcquireProcess ▸ codes "ACQUIRE" ▸ codes "PROCESS"

unfoldable pub acquire_activity : Piece Command
acquire_activity = says command.AcquireActivity ▸ codes "ACQUIRE" ▹ given (codes "ACTIVITYID") path

unfoldable pub purge_process : Piece Command
purge_process = says command.PurgeProcess ▸ codes "PURGE" ▸ codes "ACQPROCESS"

unfoldable pub define_activity : Piece Command
define_activity = says command.DefineActivity ▸ codes "DEFINE" ▹ given (codes "ACTIVITY") name ▹ maybe (given (codes "EVENT") name) ▹ given (codes "TRANSID") transid ▹ given (codes "PROGRAM") program_name

unfoldable pub delete_activity : Piece Command
delete_activity = says command.DeleteActivity ▸ codes "DELETE" ▹ given (codes "ACTIVITY") name

unfoldable pub run : Piece Command
run = says command.Run ▸ codes "RUN" ▹ target ▹ synchrony ▹ input

unfoldable pub link : Piece Command
link = says command.Link ▸ codes "LINK" ▹ target ▹ input

unfoldable pub check : Piece Command
check = says command.Check ▸ codes "CHECK" ▹ target

unfoldable pub cancel : Piece Command
cancel = says command.Cancel ▸ codes "CANCEL" ▹ target

unfoldable pub reset : Piece Command
reset = says command.Reset ▸ codes "RESET" ▹ target

unfoldable pub suspend : Piece Command
suspend = says command.Suspend ▸ codes "SUSPEND" ▹ target

unfoldable pub resume : Piece Command
resume = says command.Resume ▸ codes "RESUME" ▹ target

unfoldable pub put_container : Piece Statement
put_container = says statement.Put ▸ codes "PUT" ▹ given (codes "CONTAINER") name ▹ spot ▹ given_to_last (codes "FROM") source

unfoldable pub get_container : Piece Command
get_container = says command.GetContainer ▸ codes "GET" ▹ given (codes "CONTAINER") name ▹ spot

unfoldable pub delete_container : Piece Command
delete_container = says command.DeleteContainer ▸ codes "DELETE" ▹ given (codes "CONTAINER") name ▹ spot

unfoldable pub define_input : Piece Command
define_input = says command.DefineInput ▸ codes "DEFINE" ▸ codes "INPUT" ▹ given (codes "EVENT") name

unfoldable pub define_composite : Piece Command
define_composite = says command.DefineComposite ▸ codes "DEFINE" ▸ codes "COMPOSITE" ▹ given (codes "EVENT") name ▹ connective ▹ up_to 8 (given (codes "SUBEVENT") name)

unfoldable pub add_subevent : Piece Command
add_subevent = says command.AddSubevent ▸ codes "ADD" ▹ given (codes "SUBEVENT") name ▹ given (codes "EVENT") name

unfoldable pub remove_subevent : Piece Command
remove_subevent = says command.RemoveSubevent ▸ codes "REMOVE" ▹ given (codes "SUBEVENT") name ▹ given (codes "EVENT") name

unfoldable pub delete_event : Piece Command
delete_event = says command.DeleteEvent ▸ codes "DELETE" ▹ given (codes "EVENT") name

unfoldable pub test_event : Piece Command
test_event = says command.TestEvent ▸ codes "TEST" ▹ given (codes "EVENT") name

unfoldable pub retrieve_reattach : Piece Command
retrieve_reattach = says command.RetrieveReattach ▸ codes "RETRIEVE" ▸ codes "REATTACH" ▸ codes "EVENT"

unfoldable pub retrieve_subevent : Piece Command
retrieve_subevent = says command.RetrieveSubevent ▸ codes "RETRIEVE" ▸ codes "SUBEVENT" ▹ given (codes "EVENT") name

unfoldable pub define_timer : Piece Command
define_timer = says command.DefineTimer ▸ codes "DEFINE" ▹ given (codes "TIMER") name ▹ maybe (given (codes "EVENT") name) ▹ due

unfoldable pub force_timer : Piece Command
force_timer = says command.ForceTimer ▸ codes "FORCE" ▹ given (codes "TIMER") name ▹ maybe acquired

unfoldable pub check_timer : Piece Command
check_timer = says command.CheckTimer ▸ codes "CHECK" ▹ given (codes "TIMER") name

unfoldable pub delete_timer : Piece Command
delete_timer = says command.DeleteTimer ▸ codes "DELETE" ▹ given (codes "TIMER") name

unfoldable pub plain_return : Piece Command
plain_return = says (command.Return false) ▸ codes "RETURN"

unfoldable pub return_ending : Piece Command
return_ending = says (command.Return true) ▸ codes "RETURN" ▸ codes "ENDACTIVITY"

unfoldable pub abend : Piece Command
abend = says command.Abend ▸ codes "ABEND" ▹ given (codes "ABCODE") code

unfoldable pub rollback : Piece Command
rollback = says command.Rollback ▸ codes "ROLLBACK"

-- ---- which lines of a form are let through: their words, options and kind of target decide, and never an argument

-- all of them, and none yet
abbrev pub today : Bytes → Bool
today line = true

abbrev pub later : Bytes → Bool
later line = false

-- whether a test holds of what stands behind the front of a line
abbrev pub holds_of : (Bytes → Bool) → Option Bytes → Bool
holds_of test None = false
holds_of test (Some rest) = test rest

-- no ACTIVITY(a) stands next
unfoldable pub isnt_child : Bytes → Bool
isnt_child rest = not (is_some (argument_in (codes "ACTIVITY") rest))

unfoldable pub isnt_synchronous : Bytes → Bool
isnt_synchronous rest = not (is_some (behind_word (codes "SYNCHRONOUS") rest))

-- what stands behind a target, and behind a container's name
unfoldable pub behind_target : Bytes → Option Bytes
behind_target rest = option_map (λ x. x.1) (target rest)

unfoldable pub behind_container : Bytes → Bytes → Option Bytes
behind_container word line = behind_word word line >>= (λ rest. option_map (λ x. x.1) (argument_in (codes "CONTAINER") rest))

-- RUN of what was acquired, but for SYNCHRONOUS
unfoldable pub asynchronous : Bytes → Bool
asynchronous rest = isnt_child rest && holds_of isnt_synchronous (behind_target rest)

unfoldable pub run_through : Bytes → Bool
run_through line = holds_of asynchronous (behind_word (codes "RUN") line)

-- CHECK of what was acquired
unfoldable pub check_through : Bytes → Bool
check_through line = holds_of isnt_child (behind_word (codes "CHECK") line)

-- containers but for those of a child
unfoldable pub container_through : Bytes → Bytes → Bool
container_through word line = holds_of isnt_child (behind_container word line)

-- ---- the table: each form with where it belongs, and which lines of it are let through

-- what a whole line says by a piece
unfoldable pub reads_by : {A : Type 0} → (A → Line) → Piece A → Bytes → Option (Result Line Word)
reads_by f p line = option_map (result_of f) (ended (p line))

abbrev pub command_of : Command → Line
command_of c = line.Statement (statement.Command c)

abbrev pub statement_of : Statement → Line
statement_of s = line.Statement s

abbrev pub item : (Bytes → Bool) → Piece Line → Form
item through p = record { belongs = setting.Outside; lets_through = through; reads = reads_by (λ x. x) p }

abbrev pub end_of_block : (Bytes → Bool) → Piece Line → Form
end_of_block through p = record { belongs = setting.Closing; lets_through = through; reads = reads_by (λ x. x) p }

abbrev pub other : (Bytes → Bool) → Piece Statement → Form
other through p = record { belongs = setting.InBlocks; lets_through = through; reads = reads_by statement_of p }

abbrev pub call : (Bytes → Bool) → Piece Command → Form
call through p = record { belongs = setting.InBlocks; lets_through = through; reads = reads_by command_of p }

abbrev pub only_in_programs : (Bytes → Bool) → Piece Command → Form
only_in_programs through p = record { belongs = setting.InPrograms; lets_through = through; reads = reads_by command_of p }

abbrev pub only_in_requests : (Bytes → Bool) → Piece Command → Form
only_in_requests through p = record { belongs = setting.InRequests; lets_through = through; reads = reads_by command_of p }

abbrev pub session_forms : List Form
session_forms =
    item today program_line ∷
    item today request_line ∷
    end_of_block today end_line ∷
    item later clock_line ∷
    item today settle_line ∷
    item later browse_line ∷
    []

abbrev pub script_forms : List Form
script_forms =
    other today label_line ∷
    other today goto_line ∷
    other today when_line ∷
    []

abbrev pub process_forms : List Form
process_forms =
    call today define_process ∷
    call today acquire_process ∷
    call today acquire_activity ∷
    call today purge_process ∷
    []

abbrev pub activity_forms : List Form
activity_forms =
    call later define_activity ∷
    call later delete_activity ∷
    call run_through run ∷
    call later link ∷
    call check_through check ∷
    call later cancel ∷
    call later reset ∷
    call later suspend ∷
    call later resume ∷
    []

abbrev pub container_forms : List Form
container_forms =
    other (container_through (codes "PUT")) put_container ∷
    call (container_through (codes "GET")) get_container ∷
    call (container_through (codes "DELETE")) delete_container ∷
    []

abbrev pub early_event_forms : List Form
early_event_forms =
    call today define_input ∷
    call today define_composite ∷
    []

abbrev pub late_event_forms : List Form
late_event_forms =
    call today add_subevent ∷
    call today remove_subevent ∷
    call today delete_event ∷
    call today test_event ∷
    call today retrieve_reattach ∷
    call today retrieve_subevent ∷
    []

abbrev pub timer_forms : List Form
timer_forms =
    call later define_timer ∷
    call later force_timer ∷
    call later check_timer ∷
    call later delete_timer ∷
    []

abbrev pub ending_forms : List Form
ending_forms =
    call today plain_return ∷
    only_in_programs today return_ending ∷
    call today abend ∷
    only_in_requests today rollback ∷
    []

-- all forms
abbrev pub forms : List Form
forms = session_forms ++ script_forms ++ process_forms ++ activity_forms ++ container_forms ++ early_event_forms ++ late_event_forms ++ timer_forms ++ ending_forms

-- where the form of a line belongs, whether the line is let through, and what it says
abbrev pub Saying : Type 0
Saying = Setting × Bool × Result Line Word

abbrev pub or_next : Setting → Bool → Option Saying → Option (Result Line Word) → Option Saying
or_next at passes others None = others
or_next at passes others (Some x) = Some (at, passes, x)

abbrev pub form_of : List Form → Bytes → Option Saying
form_of [] line = None
form_of (f ∷ fs) line = or_next f.belongs (f.lets_through line) (form_of fs line) (f.reads line)
