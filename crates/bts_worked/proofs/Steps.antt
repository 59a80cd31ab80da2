-- The next command of a script: what a frame's own calls have shown, and which statements count.
use Rattle.std.proofs.Common.{◌≡◌, ℕ, Bool, true, false, [], ◌∷◌, Option, Some, None, codes, map, refl}
use Rattle.bts_names.specs.Names.{Name, initial_name}
use Rattle.bts_names.specs.declared.reply.Resp.TheVariants as resp
use Rattle.bts_names.specs.declared.reply.Reason.TheVariants as reason
use Rattle.bts_names.specs.declared.reply.Reply.{Reply}
use Rattle.bts_names.specs.declared.reply.Value.TheVariants as value
use Rattle.bts_names.specs.declared.state.EventKind.TheVariants as kind
use Rattle.bts_names.specs.declared.state.Mode.TheVariants as mode
use Rattle.bts_names.specs.declared.state.Status.TheVariants as status
use Rattle.bts_names.specs.declared.state.TimerStatus.TheVariants as timer
use Rattle.bts_command.specs.declared.command.Call.{Call}
use Rattle.bts_command.specs.declared.command.Command.{Command}
use Rattle.bts_command.specs.declared.command.Command.TheVariants as command
use Rattle.bts_command.specs.declared.command.Spot.TheVariants as spot
use Rattle.bts_command.specs.declared.command.Target.TheVariants as target
use Rattle.bts_forms.specs.declared.statement.Cond.TheVariants as when
use Rattle.bts_forms.specs.declared.statement.Given.TheVariants as given
use Rattle.bts_forms.specs.declared.statement.Statement.{Statement}
use Rattle.bts_forms.specs.declared.statement.Statement.TheVariants as statement
use Rattle.bts_interp.specs.Facts.{is_so, bytes_of}
use Rattle.bts_interp.specs.Steps.{Script, Reached, next, next_of, place_behind}
use Rattle.bts_worked.proofs.Tables.{event, normal, refusal}

abbrev a : Name
a = codes "A"

abbrev e : Name
e = codes "E"

infix 6 ◌gives◌
abbrev ◌gives◌ : Command → Reply → Call
c gives r = record { command = c; reply = r }

-- ---- what was shown

abbrev retrieved : Name → Call
retrieved n = command.RetrieveReattach gives event n kind.Input

abbrev none_left : Call
none_left = command.RetrieveReattach gives refusal resp.End reason.Empty

abbrev tested : Bool → Call
tested fired = command.TestEvent e gives normal (value.Fired fired)

abbrev checked : Call
checked = command.Check (target.Activity a) gives normal (value.Activity mode.Complete status.Abend false (Some (codes "OOPS")))

abbrev timer_checked : Call
timer_checked = command.CheckTimer a gives normal (value.Timer timer.Forced)

abbrev got : Call
got = command.GetContainer a spot.Own gives normal (value.Bytes (codes "x"))

abbrev none_there : Call
none_there = command.GetContainer a spot.Own gives refusal resp.Containererr reason.Missing

-- nothing holds before a call, not even that nothing was given
before : map (is_so []) (when.Resp resp.Normal ∷ when.Event e ∷ when.Status status.Incomplete ∷ when.Gave [] ∷ when.Fired ∷ []) ≡ false ∷ false ∷ false ∷ false ∷ false ∷ []
before = refl

-- a refused call leaves what an earlier one showed, and is the last that answered
refused_later : map (is_so (retrieved e ∷ got ∷ checked ∷ none_left ∷ none_there ∷ [])) (when.Event e ∷ when.Gave (codes "x") ∷ when.Status status.Abend ∷ when.Resp resp.Normal ∷ when.Resp resp.Containererr ∷ []) ≡ true ∷ true ∷ true ∷ false ∷ true ∷ []
refused_later = refl

-- the last of two counts, of each kind for itself; a timer that is checked has no such status
last_of_two : map (is_so (retrieved e ∷ retrieved initial_name ∷ tested true ∷ tested false ∷ checked ∷ timer_checked ∷ [])) (when.Event e ∷ when.Event initial_name ∷ when.Fired ∷ when.Status status.Abend ∷ when.Status status.Forced ∷ []) ≡ false ∷ true ∷ false ∷ true ∷ false ∷ []
last_of_two = refl

fired : is_so (tested false ∷ tested true ∷ got ∷ []) when.Fired ≡ true
fired = refl

given_bytes : map (bytes_of (got ∷ none_there ∷ [])) (given.Literal [] ∷ given.Fill 3 ∷ given.Last ∷ []) ≡ [] ∷ codes "***" ∷ codes "x" ∷ []
given_bytes = refl

nothing_got : bytes_of (none_there ∷ []) given.Last ≡ []
nothing_got = refl

-- ---- steps

abbrev label : Name → Statement
label = statement.Label

abbrev test_event : Statement
test_event = statement.Command (command.TestEvent e)

abbrev go : Name → Statement
go = statement.Goto

abbrev command_of : Option Reached → Option (Command × ℕ)
command_of None = None
command_of (Some r) = Some (r.command, r.count)

-- behind the last line stands RETURN, which counts; labels don't
ends : command_of (next_of (label a ∷ label e ∷ []) []) ≡ Some (command.Return false, 1)
unfolding next place_behind
ends = refl

-- a jump forward and one back, by a condition
abbrev waits : Script
waits = statement.When (when.Event e) e ∷ label a ∷ test_event ∷ go a ∷ label e ∷ statement.Put a spot.Own given.Last ∷ []

first_step : command_of (next_of waits []) ≡ Some (command.TestEvent e, 2)
unfolding next place_behind
first_step = refl

goes_back : command_of (next_of waits (tested false ∷ [])) ≡ Some (command.TestEvent e, 2)
unfolding next place_behind
goes_back = refl

-- no command is reached within the statements of a unit
never : next_of (label a ∷ go a ∷ []) [] ≡ None
unfolding next place_behind
never = refl
