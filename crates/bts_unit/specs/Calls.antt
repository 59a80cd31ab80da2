-- What each call of a unit of work answers, and the unit behind it.
use Rattle.std.specs.Prelude.{◌+◌, Bool, true, false, cond, ◌||◌, List, [], ◌∷◌, ◌++◌, length, map, Option, Some, None, Result, Ok, Err}
use Rattle.bts_names.specs.Answer.{Answer, refused, done}
use Rattle.bts_names.specs.Names.{ActivityPath}
use Rattle.bts_names.specs.declared.reply.Reply.{Reply}
use Rattle.bts_names.specs.declared.reply.Value.{Value}
use Rattle.bts_names.specs.declared.reply.Value.TheVariants as value
use Rattle.bts_command.specs.declared.command.Call.{Call}
use Rattle.bts_command.specs.declared.command.Command.{Command}
use Rattle.bts_command.specs.declared.command.Command.TheVariants as command
use Rattle.bts_command.specs.declared.command.Target.{Target}
use Rattle.bts_tree.specs.Processes.{Process}
use Rattle.bts_rows.specs.declared.places.Held.{Held}
use Rattle.bts_rows.specs.Rows.{answer}
use Rattle.bts_rows.specs.declared.places.Here.{Here}
use Rattle.bts_rows.specs.declared.places.Unfound.{Unfound}
use Rattle.bts_rows.specs.Places.{find_target}
use Rattle.bts_act.specs.Replies.{normal, refusal}
use Rattle.bts_unit.specs.Ends.{abended, out_of_place, returned, rolled_back}
use Rattle.bts_unit.specs.Frames.{OpenFrame, UnitOfWork, activated, here, program_at}
use Rattle.bts_unit.specs.Standings.{behind, with_process}

-- ---- frames that commands open

-- the target on which a command opens a frame, and whether that frame's abend gives back what stood
abbrev pub opens_on : Command → Option (Target × Bool)
opens_on (command.Run target true event) = Some (target, true)
opens_on (command.Link target event) = Some (target, false)
opens_on _ = None

abbrev pub says_ran : Value → Bool
says_ran (value.Ran ran) = ran
says_ran _ = false

-- the frame of the activity at a path opens above the others; the call that opens it counts as made
abbrev pub with_frame : ActivityPath → Bool → UnitOfWork → UnitOfWork
with_frame p keeps u =
    record u {
      now = with_process (activated p u.now.process) u.now;
      frames = record { at = Some p; program = program_at (Some p) u.now.process; opened = length u.calls + 1; retrieved = false; kept = cond keeps (Some u.now) None } ∷ u.frames;
    }

abbrev pub with_frame_at : Result ActivityPath Unfound → Bool → UnitOfWork → UnitOfWork
with_frame_at (Err why) keeps u = u
with_frame_at (Ok p) keeps u = with_frame p keeps u

-- behind a command that was done: whether it says that a frame opens
abbrev pub opened_by : Here → Option (Target × Bool) → Bool → UnitOfWork → UnitOfWork
opened_by h None ran u = u
opened_by h (Some t) false u = u
opened_by h (Some t) true u = with_frame_at (find_target h u.now.process t.0) t.1 u

-- ---- one command

abbrev pub is_retrieval : Command → Bool
is_retrieval command.RetrieveReattach = true
is_retrieval _ = false

-- behind a command that was done, and that left this process and this acquired
abbrev pub stepped : Command → OpenFrame → List OpenFrame → UnitOfWork → Process × Held → UnitOfWork
stepped c frame below u x =
    record u {
      held = x.1;
      now = behind (is_retrieval c) u.now x.0;
      frames = record frame { retrieved = frame.retrieved || is_retrieval c } ∷ below;
    }

-- a command that was refused leaves the unit as it was
abbrev pub answered : Here → Command → OpenFrame → List OpenFrame → UnitOfWork → Answer (Process × Held) → Reply × UnitOfWork
answered h c frame below u (refused r why) = (refusal r why, u)
answered h c frame below u (done v x) = (normal v, opened_by h (opens_on c) (says_ran v) (stepped c frame below u x))

-- a command by its row in the table
abbrev pub done_in : OpenFrame → List OpenFrame → UnitOfWork → Command → Reply × UnitOfWork
done_in frame below u c =
    answered (here u.held frame.at) c frame below u (answer (here u.held frame.at) u.held (length (frame ∷ below)) u.moment u.now.process c)

-- one command in the top frame
unfoldable pub called_in : OpenFrame → List OpenFrame → UnitOfWork → Command → Reply × UnitOfWork
called_in frame below u (command.Return end_activity) = returned end_activity frame.at frame below u
called_in frame below u (command.Abend code) = (normal value.Nothing, abended frame below code u)
called_in frame below u command.Rollback = rolled_back frame.at frame u
called_in frame below u c = done_in frame below u c

-- in the top frame of a unit that has one
abbrev pub called_in_top : List OpenFrame → UnitOfWork → Command → Reply × UnitOfWork
called_in_top [] u c = (out_of_place, u)
called_in_top (f ∷ fs) u c = called_in f fs u c

abbrev pub called_on_top : Command → UnitOfWork → Reply × UnitOfWork
called_on_top c u = called_in_top u.frames u c

-- ---- calls

-- one call more
abbrev pub with_call : Command → Reply × UnitOfWork → Reply × UnitOfWork
with_call c x = (x.0, record (x.1) { calls = x.1.calls ++ record { command = c; reply = x.0 } ∷ [] })

abbrev pub called_by : List OpenFrame → UnitOfWork → Command → Reply × UnitOfWork
called_by [] u c = (out_of_place, u)
called_by (f ∷ fs) u c = with_call c (called_in f fs u c)

-- the reply to a command, and the unit behind it; a unit that has ended stays as it is
unfoldable pub call : UnitOfWork → Command → Reply × UnitOfWork
call u c = called_by u.frames u c

-- the unit behind commands, as far as it hasn't ended
unfoldable pub run : UnitOfWork → List Command → UnitOfWork
run u [] = u
run u (c ∷ cs) = elim u.frames [ [] ↦ u | f ∷ fs ↦ run (with_call c (called_in f fs u c)).1 cs ]

abbrev pub commands_of : List Call → List Command
commands_of calls = map (λ c. c.command) calls

-- the unit behind the commands of some calls
unfoldable pub unit_behind : UnitOfWork → List Call → UnitOfWork
unit_behind u calls = run u (commands_of calls)

-- the calls that commands make, as far as the unit hasn't ended
abbrev pub made_first : List OpenFrame → Call → List Call → List Call
made_first [] c cs = []
made_first (f ∷ fs) c cs = c ∷ cs

abbrev pub made : UnitOfWork → List Command → List Call
made u [] = []
made u (k ∷ ks) = made_first u.frames (record { command = k; reply = (call u k).0 }) (made (call u k).1 ks)
