-- What the lines that are let through today say.
use Rattle.std.specs.Prelude.{◌≡◌, Bool, true, false, not, ◌&&◌}
use Rattle.bts_names.specs.Names.{Bytes}
use Rattle.bts_command.specs.Given.{IsGiven}
use Rattle.bts_command.specs.declared.command.Command.{Command}
use Rattle.bts_command.specs.declared.command.Command.TheVariants as command
use Rattle.bts_command.specs.declared.command.Target.{Target}
use Rattle.bts_command.specs.declared.command.Target.TheVariants as of
use Rattle.bts_command.specs.declared.command.Spot.{Spot}
use Rattle.bts_command.specs.declared.command.Spot.TheVariants as spot
use Rattle.bts_forms.specs.declared.statement.Statement.{Statement}
use Rattle.bts_forms.specs.declared.statement.Statement.TheVariants as statement
use Rattle.bts_forms.specs.declared.line.Line.{Line}
use Rattle.bts_forms.specs.declared.line.Line.TheVariants as line

-- a target that was acquired, and no child
abbrev pub is_acquired : Target → Bool
is_acquired (of.Activity a) = false
is_acquired of.AcqProcess = true
is_acquired of.AcqActivity = true

-- a place of containers that isn't a child's
abbrev pub is_no_childs : Spot → Bool
is_no_childs spot.Own = true
is_no_childs spot.Process = true
is_no_childs (spot.Of target) = is_acquired target

-- the commands that are done today
abbrev pub is_done_today : Command → Bool
is_done_today (command.DefineProcess transid program) = true
is_done_today command.AcquireProcess = true
is_done_today (command.AcquireActivity path) = true
is_done_today command.PurgeProcess = true
is_done_today (command.Run target synchronous input) = is_acquired target && not synchronous
is_done_today (command.Check target) = is_acquired target
is_done_today (command.PutContainer container place from) = is_no_childs place
is_done_today (command.GetContainer container place) = is_no_childs place
is_done_today (command.DeleteContainer container place) = is_no_childs place
is_done_today (command.DefineInput event) = true
is_done_today (command.DefineComposite event all subs) = true
is_done_today (command.AddSubevent sub event) = true
is_done_today (command.RemoveSubevent sub event) = true
is_done_today (command.DeleteEvent event) = true
is_done_today (command.TestEvent event) = true
is_done_today command.RetrieveReattach = true
is_done_today (command.RetrieveSubevent event) = true
is_done_today (command.Return end_activity) = true
is_done_today (command.Abend code) = true
is_done_today command.Rollback = true
is_done_today _ = false

-- a command that is done today, with what whoever hands it in owes
pub record IsCommandOfToday (c : Command) : Type 0 where
  pub done : is_done_today c ≡ true
  pub given : IsGiven c

-- a statement that calls no other commands, whatever bytes a PUT is given
abbrev pub IsOfToday : Statement → Type 0
IsOfToday (statement.Command c) = IsCommandOfToday c
IsOfToday (statement.Put container place given) = (bytes : Bytes) → IsCommandOfToday (command.PutContainer container place bytes)
IsOfToday (statement.Label label) = Unit {0}
IsOfToday (statement.Goto label) = Unit {0}
IsOfToday (statement.When cond label) = Unit {0}

-- a line that says such a statement, opens or closes a block, or settles
abbrev pub IsLineOfToday : Line → Type 0
IsLineOfToday (line.Statement s) = IsOfToday s
IsLineOfToday (line.Program name) = Unit {0}
IsLineOfToday (line.Request key) = Unit {0}
IsLineOfToday line.End = Unit {0}
IsLineOfToday line.Settle = Unit {0}
IsLineOfToday (line.Clock moment) = ⊥
IsLineOfToday (line.Browse ptype pname mode status suspended) = ⊥
