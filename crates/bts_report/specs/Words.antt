-- How units, commands, replies and rows are written, as lists of words.
use Rattle.std.specs.Prelude.{ℕ, Bool, true, false, if◌then◌else◌, ◌+◌, ◌/◌, ◌%◌, nat_lt, List, [], ◌∷◌, ◌++◌, codes, Option, Some, None}
use Rattle.std.specs.List.{flat_map}
use Rattle.std.specs.Fmt.{decimal}
use Rattle.bts_names.specs.Names.{Bytes, Name, ActivityPath}
use Rattle.bts_names.specs.Vocabulary.{resp_word, reason_word, mode_word, status_word, kind_word, timer_word}
use Rattle.bts_names.specs.declared.reply.Reason.{Reason}
use Rattle.bts_names.specs.declared.reply.Reason.TheVariants as reason
use Rattle.bts_names.specs.declared.reply.Value.{Value}
use Rattle.bts_names.specs.declared.reply.Value.TheVariants as value
use Rattle.bts_names.specs.declared.reply.Leaving.{Leaving}
use Rattle.bts_names.specs.declared.reply.Leaving.TheVariants as leaving
use Rattle.bts_names.specs.declared.reply.Reply.{Reply}
use Rattle.bts_names.specs.declared.key.Key.{Key}
use Rattle.bts_names.specs.declared.row.Row.{Row}
use Rattle.bts_command.specs.declared.command.Command.{Command}
use Rattle.bts_command.specs.declared.command.Command.TheVariants as command
use Rattle.bts_command.specs.declared.command.Target.{Target}
use Rattle.bts_command.specs.declared.command.Target.TheVariants as target
use Rattle.bts_command.specs.declared.ended.End.{End}
use Rattle.bts_command.specs.declared.ended.End.TheVariants.{Commit, Rollback, Abend}
use Rattle.bts_command.specs.declared.ended.UnitKind.{UnitKind}
use Rattle.bts_command.specs.declared.ended.UnitKind.TheVariants as unit

-- ---- single words

-- a word with an argument in parentheses
abbrev pub with_argument : Bytes → Bytes → Bytes
with_argument word argument = word ++ codes "(" ++ argument ++ codes ")"

-- `/`, `/1`, `/1/2`
abbrev pub path_text : ActivityPath → Bytes
path_text [] = codes "/"
path_text (n ∷ p) = flat_map (λ x. 47 ∷ decimal x) (n ∷ p)

-- X'..' with capital hexadecimal pairs
abbrev pub hex_digit : ℕ → ℕ
hex_digit n = if nat_lt n 10 then 48 + n else 55 + n

abbrev pub hex_pair : ℕ → Bytes
hex_pair b = hex_digit (b / 16) ∷ hex_digit (b % 16) ∷ []

abbrev pub bytes_text : Bytes → Bytes
bytes_text bytes = codes "X'" ++ flat_map hex_pair bytes ++ codes "'"

abbrev pub suspended_word : Bool → Bytes
suspended_word true = codes "SUSPENDED"
suspended_word false = codes "NOTSUSPENDED"

abbrev pub code_word : Option Name → Bytes
code_word None = codes "-"
code_word (Some c) = c

abbrev pub target_word : Target → Bytes
target_word (target.Activity a) = with_argument (codes "ACTIVITY") a
target_word target.AcqProcess = codes "ACQPROCESS"
target_word target.AcqActivity = codes "ACQACTIVITY"

-- ---- replies: the response, the reason of a refusal, and the value where there is one

abbrev pub reason_words : Reason → List Bytes
reason_words reason.None = []
reason_words why = reason_word why ∷ []

abbrev pub leaving_words : Leaving → List Bytes
leaving_words leaving.Dormant = codes "DORMANT" ∷ []
leaving_words leaving.Complete = codes "COMPLETE" ∷ []
leaving_words (leaving.Abended c) = codes "ABEND" ∷ c ∷ []

abbrev pub value_words : Value → List Bytes
value_words value.Nothing = []
value_words (value.Bytes bytes) = bytes_text bytes ∷ []
value_words (value.Id p) = path_text p ∷ []
value_words (value.Event n k) = n ∷ kind_word k ∷ []
value_words (value.Fired true) = codes "FIRED" ∷ []
value_words (value.Fired false) = codes "NOTFIRED" ∷ []
value_words (value.Activity m s b c) = mode_word m ∷ status_word s ∷ suspended_word b ∷ code_word c ∷ []
value_words (value.Timer t) = timer_word t ∷ []
value_words (value.Ran true) = codes "RAN" ∷ []
value_words (value.Ran false) = codes "WAITS" ∷ []
value_words (value.Left l) = leaving_words l

abbrev pub reply_words : Reply → List Bytes
reply_words r = resp_word r.resp ∷ reason_words r.reason ++ value_words r.value

-- ---- commands: the verb, and what it is done with; options, programs, places and data are left out

abbrev pub command_words : Command → List Bytes
command_words (command.DefineProcess t p) = codes "DEFINE" ∷ codes "PROCESS" ∷ []
command_words command.AcquireProcess = codes "ACQUIRE" ∷ codes "PROCESS" ∷ []
command_words (command.AcquireActivity p) = codes "ACQUIRE" ∷ with_argument (codes "ACTIVITYID") (path_text p) ∷ []
command_words command.PurgeProcess = codes "PURGE" ∷ codes "ACQPROCESS" ∷ []
command_words (command.DefineActivity a e t p) = codes "DEFINE" ∷ with_argument (codes "ACTIVITY") a ∷ []
command_words (command.DeleteActivity a) = codes "DELETE" ∷ with_argument (codes "ACTIVITY") a ∷ []
command_words (command.Run t s i) = codes "RUN" ∷ target_word t ∷ []
command_words (command.Link t i) = codes "LINK" ∷ target_word t ∷ []
command_words (command.Check t) = codes "CHECK" ∷ target_word t ∷ []
command_words (command.Cancel t) = codes "CANCEL" ∷ target_word t ∷ []
command_words (command.Reset t) = codes "RESET" ∷ target_word t ∷ []
command_words (command.Suspend t) = codes "SUSPEND" ∷ target_word t ∷ []
command_words (command.Resume t) = codes "RESUME" ∷ target_word t ∷ []
command_words (command.PutContainer c s d) = codes "PUT" ∷ with_argument (codes "CONTAINER") c ∷ []
command_words (command.GetContainer c s) = codes "GET" ∷ with_argument (codes "CONTAINER") c ∷ []
command_words (command.DeleteContainer c s) = codes "DELETE" ∷ with_argument (codes "CONTAINER") c ∷ []
command_words (command.DefineInput e) = codes "DEFINE" ∷ with_argument (codes "INPUT") e ∷ []
command_words (command.DefineComposite e b ss) = codes "DEFINE" ∷ with_argument (codes "COMPOSITE") e ∷ []
command_words (command.AddSubevent s e) = codes "ADD" ∷ with_argument (codes "SUBEVENT") s ∷ []
command_words (command.RemoveSubevent s e) = codes "REMOVE" ∷ with_argument (codes "SUBEVENT") s ∷ []
command_words (command.DeleteEvent e) = codes "DELETE" ∷ with_argument (codes "EVENT") e ∷ []
command_words (command.TestEvent e) = codes "TEST" ∷ with_argument (codes "EVENT") e ∷ []
command_words command.RetrieveReattach = codes "RETRIEVE" ∷ codes "REATTACH" ∷ []
command_words (command.RetrieveSubevent e) = codes "RETRIEVE" ∷ with_argument (codes "SUBEVENT") e ∷ []
command_words (command.DefineTimer t e d) = codes "DEFINE" ∷ with_argument (codes "TIMER") t ∷ []
command_words (command.ForceTimer t o) = codes "FORCE" ∷ with_argument (codes "TIMER") t ∷ []
command_words (command.CheckTimer t) = codes "CHECK" ∷ with_argument (codes "TIMER") t ∷ []
command_words (command.DeleteTimer t) = codes "DELETE" ∷ with_argument (codes "TIMER") t ∷ []
command_words (command.Return false) = codes "RETURN" ∷ []
command_words (command.Return true) = codes "RETURN" ∷ codes "ENDACTIVITY" ∷ []
command_words (command.Abend c) = with_argument (codes "ABEND") c ∷ []
command_words command.Rollback = codes "ROLLBACK" ∷ []

-- ---- units: what each is and what it is of, and how it ended

abbrev pub activity_words : Key → ActivityPath → List Bytes
activity_words k p = k.ptype ∷ k.pname ∷ path_text p ∷ []

abbrev pub unit_words : UnitKind → List Bytes
unit_words (unit.Request n k) = codes "REQUEST" ∷ k.ptype ∷ k.pname ∷ []
unit_words (unit.Activation k p) = codes "ACTIVATION" ∷ activity_words k p
unit_words (unit.Notice k p) = codes "NOTICE" ∷ activity_words k p
unit_words (unit.Expiry k p t) = codes "EXPIRY" ∷ activity_words k p ++ t ∷ []
unit_words (unit.Clock n) = codes "CLOCK" ∷ []
unit_words (unit.Settle n) = codes "SETTLE" ∷ []
unit_words (unit.Browse n) = codes "BROWSE" ∷ []

abbrev pub end_words : End → List Bytes
end_words Commit = codes "COMMIT" ∷ []
end_words Rollback = codes "ROLLBACK" ∷ []
end_words (Abend c) = codes "ABEND" ∷ c ∷ []

-- ---- rows: where an activity stands, and what it is

abbrev pub row_place : Row → List Bytes
row_place r = r.key.ptype ∷ r.key.pname ∷ decimal r.generation ∷ path_text r.path ∷ r.name ∷ []

abbrev pub row_state : Row → List Bytes
row_state r =
    mode_word r.mode ∷ status_word r.status ∷ suspended_word r.suspended ∷ decimal r.queued ∷ r.transid ∷ r.program ∷ []

abbrev pub row_words : Row → List Bytes
row_words r = row_place r ++ row_state r
