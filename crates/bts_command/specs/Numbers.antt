-- The numbers of commands in stored bytes.
use Rattle.std.specs.Prelude.{ℕ}
use Rattle.bts_command.specs.declared.command.Command.{Command}
use Rattle.bts_command.specs.declared.command.Command.TheVariants as command

abbrev pub command_number : Command → ℕ
command_number (command.DefineProcess transid program) = 1
command_number command.AcquireProcess = 2
command_number (command.AcquireActivity path) = 3
command_number command.PurgeProcess = 4
command_number (command.DefineActivity activity event transid program) = 5
command_number (command.DeleteActivity activity) = 6
command_number (command.Run target synchronous input) = 7
command_number (command.Link target input) = 8
command_number (command.Check target) = 9
command_number (command.Cancel target) = 10
command_number (command.Reset target) = 11
command_number (command.Suspend target) = 12
command_number (command.Resume target) = 13
command_number (command.PutContainer container spot from) = 14
command_number (command.GetContainer container spot) = 15
command_number (command.DeleteContainer container spot) = 16
command_number (command.DefineInput event) = 17
command_number (command.DefineComposite event all subs) = 18
command_number (command.AddSubevent sub event) = 19
command_number (command.RemoveSubevent sub event) = 20
command_number (command.DeleteEvent event) = 21
command_number (command.TestEvent event) = 22
command_number command.RetrieveReattach = 23
command_number (command.RetrieveSubevent event) = 24
command_number (command.DefineTimer timer event due) = 25
command_number (command.ForceTimer timer target) = 26
command_number (command.CheckTimer timer) = 27
command_number (command.DeleteTimer timer) = 28
command_number (command.Return end_activity) = 29
command_number (command.Abend code) = 30
command_number command.Rollback = 31
