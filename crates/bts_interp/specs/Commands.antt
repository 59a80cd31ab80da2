-- The command that is called where a statement is reached, and the places from which the next one is.
use Rattle.std.specs.Prelude.{false, List, Option, Some}
use Rattle.bts_command.specs.declared.command.Call.{Call}
use Rattle.bts_command.specs.declared.command.Command.{Command}
use Rattle.bts_command.specs.declared.command.Command.TheVariants as command
use Rattle.bts_forms.specs.declared.statement.Statement.{Statement}
use Rattle.bts_forms.specs.declared.statement.Statement.TheVariants as statement
use Rattle.bts_interp.specs.Facts.{bytes_of}

-- that of a statement; RETURN stands behind the last one, and for those that only lead on
abbrev pub command_said : List Call → Option Statement → Command
command_said own (Some (statement.Command c)) = c
command_said own (Some (statement.Put container spot given)) = command.PutContainer container spot (bytes_of own given)
command_said own _ = command.Return false
