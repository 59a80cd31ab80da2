-- Units that are taken away to be run, and what became of them.
use Rattle.std.specs.Prelude.{◌≡◌, ℕ, List, [], Some}
use Rattle.bts_command.specs.declared.command.Call.{Call}
use Rattle.bts_command.specs.declared.ended.End.{End}
use Rattle.bts_command.specs.declared.ended.End.TheVariants.{Commit}
use Rattle.bts_command.specs.declared.ended.UnitKind.{UnitKind}
use Rattle.bts_command.specs.declared.ended.UnitKind.TheVariants as unit
use Rattle.bts_tree.specs.Processes.{Process}
use Rattle.bts_unit.specs.Frames.{UnitOfWork}
use Rattle.bts_unit.specs.Playing.{begun, budgeted}
use Rattle.bts_interp.specs.Budgets.{statements_of}
use Rattle.bts_unit.specs.Calls.{unit_behind}
use Rattle.bts_interp.specs.Talks.{IsTalk}
use Rattle.bts_interp.specs.Texts.{Texts}

-- the ticket of a unit, what it is, the process and the moment that it begins with, and the texts that it follows
pub record Job : Type 0 where
  pub ticket : ℕ
  pub unit : UnitKind
  pub base : Process
  pub moment : ℕ
  pub texts : Texts

-- the same with what became of it
pub record Done : Type 0 where
  pub job : Job
  pub calls : List Call
  pub after : Process
  pub end : End

abbrev pub unit_of : Job → UnitOfWork
unit_of j = begun j.unit j.moment j.base

-- the unit of a job behind its calls, at its end
abbrev pub done_unit : Done → UnitOfWork
done_unit d = budgeted d.end (unit_behind (unit_of d.job) d.calls)

-- the calls and the end are those of the texts; units that follow none have no calls, and commit
pub record HasNoCalls (d : Done) : Type 0 where
  pub calls : d.calls ≡ []
  pub end : d.end ≡ Commit

abbrev pub FollowsTexts : UnitKind → Done → Type 0
FollowsTexts (unit.Request item key) d = IsTalk d.job.texts (unit_of d.job) d.calls d.end
FollowsTexts (unit.Activation key path) d = IsTalk d.job.texts (unit_of d.job) d.calls d.end
FollowsTexts _ d = HasNoCalls d

-- what became of a job is what its texts give from its base
pub record IsDone (d : Done) : Type 0 where
  pub texts : FollowsTexts d.job.unit d
  pub calls : (done_unit d).calls ≡ d.calls
  pub after : (done_unit d).now.process ≡ d.after
  pub end : (done_unit d).end ≡ Some d.end

-- ---- the statements that were executed

abbrev pub executed_by : UnitKind → Done → ℕ
executed_by (unit.Request item key) d = statements_of d.job.texts (unit_of d.job) d.calls
executed_by (unit.Activation key path) d = statements_of d.job.texts (unit_of d.job) d.calls
executed_by _ d = 0

abbrev pub executed : Done → ℕ
executed d = executed_by d.job.unit d
