-- What a command on a family asks of the open frames, and of the process.
use Rattle.std.specs.Prelude.{◌≡◌, Bool, true, false, not, List, Some}
use Rattle.std.specs.List.{list_any}
use Rattle.bts_names.specs.Names.{Name, ActivityPath, same, initial_name}
use Rattle.bts_command.specs.declared.command.Command.{Command}
use Rattle.bts_command.specs.declared.command.Command.TheVariants as command
use Rattle.bts_command.specs.declared.command.Target.{Target}
use Rattle.bts_command.specs.declared.command.Target.TheVariants as of
use Rattle.bts_tree.specs.declared.activity.Activity.{Activity}
use Rattle.bts_tree.specs.Paths.{leads_to}
use Rattle.bts_tree.specs.Processes.{Process, activity_at}
use Rattle.bts_rows.specs.declared.places.Here.{Here}
use Rattle.bts_rows.specs.declared.places.Here.TheVariants as here

-- no frame is open below that in which the command stands; beside a request's first frame none is
abbrev pub IsTop : List ActivityPath → Here → Type 0
IsTop frames (here.Activity q) = (r : ActivityPath) → leads_to q r ≡ true → same q r ≡ false → list_any (same r) frames ≡ false
IsTop frames (here.Request h) = (r : ActivityPath) → list_any (same r) frames ≡ false

-- whether a target is a child of the frame's activity
abbrev pub is_child : Target → Bool
is_child (of.Activity a) = true
is_child of.AcqProcess = false
is_child of.AcqActivity = false

-- whether a command resets what a request has acquired
abbrev pub resets : Command → Bool
resets (command.Reset target) = not (is_child target)
resets _ = false

-- no completion event has the name that the system keeps for itself
abbrev pub AreUsual : Process → Type 0
AreUsual s = (p : ActivityPath) (a : Activity) (n : Name) → activity_at p s ≡ Some a → a.completion ≡ Some n → same n initial_name ≡ false

-- whether a command may define the completion event of a child again
abbrev pub rearms : Here → Command → Bool
rearms (here.Request h) c = resets c
rearms (here.Activity p) (command.Reset target) = true
rearms (here.Activity p) _ = false
