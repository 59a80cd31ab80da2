-- What is done today may be called, and the scripts that hold nothing else can be executed.
use Rattle.std.proofs.Common.{◌≡◌, true, false, List, [], ◌∷◌, Some, None, refl}
use Rattle.std.specs.List.{AllByRecursion}
use Rattle.bts_command.specs.declared.command.Command.{Command}
use Rattle.bts_command.specs.declared.command.Command.TheVariants as command
use Rattle.bts_command.specs.declared.command.Target.TheVariants as of
use Rattle.bts_forms.specs.Today.{IsCommandOfToday, IsOfToday, is_done_today}
use Rattle.bts_forms.specs.declared.statement.Statement.{Statement}
use Rattle.bts_forms.specs.declared.statement.Statement.TheVariants as statement
use Rattle.bts_rows.specs.Bounds.{makes_more}
use Rattle.bts_unit.specs.OneFrame.{is_of_one_frame}
use Rattle.bts_interp.specs.Ready.{IsExecutable, MayBeCalled, MayBeExecuted}

-- the tests that a command of today passes
record Passes (c : Command) : Type 0 where
  in_request : is_of_one_frame None c ≡ true
  in_activity : is_of_one_frame (Some []) c ≡ true
  makes_none : makes_more c ≡ false

passes : (c : Command) → is_done_today c ≡ true → Passes c
passes (command.DefineActivity a e t p) h = cc
passes (command.DeleteActivity a) h = cc
passes (command.Run (of.Activity a) opens e) h = cc
passes (command.Run of.AcqProcess true e) h = cc
passes (command.Run of.AcqProcess false e) h = record { in_request = refl; in_activity = refl; makes_none = refl }
passes (command.Run of.AcqActivity true e) h = cc
passes (command.Run of.AcqActivity false e) h = record { in_request = refl; in_activity = refl; makes_none = refl }
passes (command.Link target e) h = cc
passes (command.Check (of.Activity a)) h = cc
passes (command.Check of.AcqProcess) h = record { in_request = refl; in_activity = refl; makes_none = refl }
passes (command.Check of.AcqActivity) h = record { in_request = refl; in_activity = refl; makes_none = refl }
passes (command.Cancel target) h = cc
passes (command.Reset target) h = cc
passes (command.Suspend target) h = cc
passes (command.Resume target) h = cc
passes (command.DefineTimer t e due) h = cc
passes (command.ForceTimer t target) h = cc
passes (command.CheckTimer t) h = cc
passes (command.DeleteTimer t) h = cc
passes _ h = record { in_request = refl; in_activity = refl; makes_none = refl }

pub may_be_called : (c : Command) → IsCommandOfToday c → MayBeCalled c
may_be_called c h =
    let p = passes c h.done in
    record { given = h.given; in_request = p.in_request; in_activity = p.in_activity; makes_none = p.makes_none }

may_be_executed : (s : Statement) → IsOfToday s → MayBeExecuted s
may_be_executed (statement.Command c) h = may_be_called c h
may_be_executed (statement.Put container spot given) h = λ bytes. may_be_called (command.PutContainer container spot bytes) (h bytes)
may_be_executed (statement.Label l) h = tt
may_be_executed (statement.Goto l) h = tt
may_be_executed (statement.When c l) h = tt

pub executable : (script : List Statement) → AllByRecursion IsOfToday script → IsExecutable script
executable [] h = tt
executable (s ∷ script) h = (may_be_executed s h.0, executable script h.1)
