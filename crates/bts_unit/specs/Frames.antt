-- The open frames of a unit of work, and how it begins.
use Rattle.std.specs.Prelude.{ℕ, Bool, true, false, List, [], ◌∷◌, length, Option, Some, None, is_some}
use Rattle.std.specs.List.{filter_map}
use Rattle.std.specs.Option.{option_map}
use Rattle.bts_names.specs.Names.{Name, ActivityPath}
use Rattle.bts_command.specs.declared.command.Call.{Call}
use Rattle.bts_command.specs.declared.ended.End.{End}
use Rattle.bts_command.specs.declared.ended.UnitKind.{UnitKind}
use Rattle.bts_command.specs.declared.ended.UnitKind.TheVariants as unit
use Rattle.bts_tree.specs.Activities.{by_cause}
use Rattle.bts_tree.specs.Modes.{frame_opens}
use Rattle.bts_tree.specs.Processes.{Process, activity_at, edited}
use Rattle.bts_rows.specs.declared.places.Held.{Held}
use Rattle.bts_rows.specs.declared.places.Held.TheVariants as held
use Rattle.bts_rows.specs.declared.places.Here.{Here}
use Rattle.bts_rows.specs.declared.places.Here.TheVariants as stands
use Rattle.bts_unit.specs.Standings.{Standing, standing, with_process}
use Rattle.bts_unit.specs.declared.frame.Frame.{Frame}

-- whose frame it is, and the program of that activity when it opened, or none for a request's first one; how many
-- calls were made before it opened; whether an entry was retrieved in it; and what its abend gives back, or none where
-- it gives nothing back
pub record OpenFrame : Type 0 where
  pub at : Option ActivityPath
  pub program : Option Name
  pub opened : ℕ
  pub retrieved : Bool
  pub kept : Option Standing

-- a unit behind some calls: its moment, the process at its start, what it has acquired, what stands now, its open
-- frames with the top one first, its calls, and its end where it has ended
pub record UnitOfWork : Type 0 where
  pub moment : ℕ
  pub base : Process
  pub held : Held
  pub now : Standing
  pub frames : List OpenFrame
  pub calls : List Call
  pub end : Option End

-- the paths of the activities whose frames are open
abbrev pub open_paths : UnitOfWork → List ActivityPath
open_paths u = filter_map (λ f. f.at) u.frames

-- where a command stands in a frame
abbrev pub here : Held → Option ActivityPath → Here
here h None = stands.Request h
here h (Some p) = stands.Activity p

-- the program of a frame that opens in a process
abbrev pub program_at : Option ActivityPath → Process → Option Name
program_at None s = None
program_at (Some p) s = option_map (λ a. a.program) (activity_at p s)

-- the top frame, as a caller sees it
abbrev pub top_frame : List OpenFrame → Option Frame
top_frame [] = None
top_frame (f ∷ fs) = Some (record { at = f.at; program = f.program; depth = length (f ∷ fs) })

-- the activity of a frame is there
abbrev pub is_there_at : Option ActivityPath → Process → Bool
is_there_at None s = true
is_there_at (Some p) s = is_some (activity_at p s)

-- ---- the beginning

-- the frame of an activity opens: it is ACTIVE
abbrev pub activated : ActivityPath → Process → Process
activated p = edited p (by_cause frame_opens None)

abbrev pub opened_at : Option ActivityPath → Process → Process
opened_at None s = s
opened_at (Some p) s = activated p s

-- the path whose activity runs in a unit's first frame
abbrev pub path_of : UnitKind → Option ActivityPath
path_of (unit.Activation key path) = Some path
path_of _ = None

-- the first frame, whose abend gives back the process at the unit's start
abbrev pub first_frame : Option ActivityPath → Process → OpenFrame
first_frame at s = record { at = at; program = program_at at s; opened = 0; retrieved = false; kept = Some (standing s) }

-- a request or an activation before its first call
abbrev pub start : UnitKind → ℕ → Process → UnitOfWork
start kind moment s =
    record {
      moment = moment;
      base = s;
      held = held.Never;
      now = with_process (opened_at (path_of kind) s) (standing s);
      frames = first_frame (path_of kind) s ∷ [];
      calls = [];
      end = None;
    }
