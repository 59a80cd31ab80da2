-- When a unit can be run.
use Rattle.std.specs.Prelude.{◌≡◌, ℕ, ◌^◌, true, false, [], Some, None}
use Rattle.std.specs.List.{AllByRecursion}
use Rattle.bts_names.specs.Names.{Bytes}
use Rattle.bts_command.specs.declared.command.Command.{Command}
use Rattle.bts_command.specs.declared.command.Command.TheVariants as command
use Rattle.bts_command.specs.declared.ended.UnitKind.{UnitKind}
use Rattle.bts_forms.specs.declared.statement.Statement.{Statement}
use Rattle.bts_forms.specs.declared.statement.Statement.TheVariants as statement
use Rattle.bts_tree.specs.Processes.{Process}
use Rattle.bts_tree.specs.Soundness.{IsSoundInFrames, is_within}
use Rattle.bts_rows.specs.Bounds.{makes_more}
use Rattle.bts_command.specs.Given.{IsGiven}
use Rattle.bts_unit.specs.OneFrame.{is_of_one_frame, may_begin}
use Rattle.bts_session.specs.declared.session.Session.{Session}
use Rattle.bts_interp.specs.Items.{texts_of}
use Rattle.bts_interp.specs.Names.{Named}
use Rattle.bts_interp.specs.Steps.{Script}
use Rattle.bts_interp.specs.Texts.{Texts}

-- a command that a line gives, that a unit with one frame can do, whosever frame it is, and that makes no child and no
-- timer
pub record MayBeCalled (c : Command) : Type 0 where
  pub given : IsGiven c
  pub in_request : is_of_one_frame None c ≡ true
  pub in_activity : is_of_one_frame (Some []) c ≡ true
  pub makes_none : makes_more c ≡ false

-- so does each command of a script, whatever its FROM gives
abbrev pub MayBeExecuted : Statement → Type 0
MayBeExecuted (statement.Command c) = MayBeCalled c
MayBeExecuted (statement.Put container spot given) = (bytes : Bytes) → MayBeCalled (command.PutContainer container spot bytes)
MayBeExecuted _ = Unit {0}

abbrev pub IsExecutable : Script → Type 0
IsExecutable script = AllByRecursion MayBeExecuted script

pub record AreExecutable (texts : Texts) : Type 0 where
  pub programs : AllByRecursion (λ x. IsExecutable x.1) texts.programs
  pub block : IsExecutable texts.block

-- numbers above this one are never reached
abbrev pub number_limit : ℕ
number_limit = 2 ^ 62

-- the unit may begin on the process, which is sound and far from the last numbers, and follow these texts
pub record IsRunnable (kind : UnitKind) (base : Process) (script : Texts) : Type 0 where
  pub sound : IsSoundInFrames [] base
  pub begins : may_begin kind base ≡ true
  pub bounded : is_within number_limit number_limit base ≡ true
  pub texts : AreExecutable script

-- a job of a name: it follows the texts of the name's session
pub record IsOf (name : Named) (session : Session) (kind : UnitKind) (base : Process) : Type 0 where
  pub named : session ≡ name.session
  pub runnable : IsRunnable kind base (texts_of session kind)
