-- The commands of units with one frame.
use Rattle.std.specs.Prelude.{◌≡◌, Bool, true, false, ◌&&◌, nat_le, List, [], ◌∷◌, Option, is_none}
use Rattle.std.specs.Option.{option_map, unwrap_or}
use Rattle.bts_names.specs.Names.{ActivityPath}
use Rattle.bts_command.specs.Numbers.{command_number}
use Rattle.bts_command.specs.declared.command.Command.{Command}
use Rattle.bts_command.specs.declared.ended.UnitKind.{UnitKind}
use Rattle.bts_command.specs.declared.ended.UnitKind.TheVariants as unit
use Rattle.bts_tree.specs.Activities.{is_ready}
use Rattle.bts_tree.specs.Processes.{Process, activity_at}
use Rattle.bts_rows.specs.declared.places.Held.TheVariants as held
use Rattle.bts_act.specs.Built.{is_built}
use Rattle.bts_unit.specs.Calls.{opens_on}
use Rattle.bts_unit.specs.Frames.{OpenFrame, here}

-- at most one frame is open: that of this activity, or a request's first one
abbrev pub StandsIn : Option ActivityPath → List OpenFrame → Type 0
StandsIn at [] = Unit {0}
StandsIn at (f ∷ []) = f.at ≡ at
StandsIn at (f ∷ g ∷ fs) = ⊥

-- all commands but those that open a frame and those that aren't done yet
abbrev pub is_of_one_frame : Option ActivityPath → Command → Bool
is_of_one_frame at c = is_none (opens_on c) && is_built (here held.Never at) c

-- the commands that end a frame
abbrev pub ends_frame : Command → Bool
ends_frame c = nat_le 29 (command_number c)

abbrev pub is_ready_in : ActivityPath → Process → Bool
is_ready_in p s = unwrap_or (option_map is_ready (activity_at p s)) false

-- a unit that a process lets begin: a request, or an activation that is enabled
abbrev pub may_begin : UnitKind → Process → Bool
may_begin (unit.Request item key) s = true
may_begin (unit.Activation key path) s = is_ready_in path s
may_begin _ s = false
