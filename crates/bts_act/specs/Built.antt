-- Which commands are done here, and which only read.
use Rattle.std.specs.Prelude.{Bool, true, false, not}
use Rattle.bts_command.specs.declared.command.Command.{Command}
use Rattle.bts_command.specs.declared.command.Command.TheVariants as command
use Rattle.bts_rows.specs.declared.places.Here.{Here}
use Rattle.bts_rows.specs.declared.places.Here.TheVariants as here
use Rattle.bts_rows.specs.Families.{is_child, resets}

-- all but DEFINE ACTIVITY and RESET of a child in an activity's frame, and RESET of what is acquired in a request's first one
abbrev pub is_built : Here → Command → Bool
is_built (here.Activity p) (command.DefineActivity a e transid program) = false
is_built (here.Activity p) (command.Reset target) = not (is_child target)
is_built (here.Activity p) _ = true
is_built (here.Request h) c = not (resets c)

-- the commands that only read the activity that they are about
abbrev pub only_reads : Command → Bool
only_reads (command.Check target) = true
only_reads (command.GetContainer c place) = true
only_reads (command.TestEvent e) = true
only_reads _ = false
