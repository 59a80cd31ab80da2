-- Which ended units processes give, and what becomes of the processes.
use Rattle.std.specs.Prelude.{◌≡◌, ℕ, Bool, true, false, cond, ◌||◌, [], Option, Some, None, IsTrue, codes}
use Rattle.std.specs.Option.{option_map, unwrap_or}
use Rattle.bts_names.specs.Names.{Name, ActivityPath, same}
use Rattle.bts_names.specs.declared.key.Key.{Key}
use Rattle.bts_command.specs.declared.ended.End.{End}
use Rattle.bts_command.specs.declared.ended.End.TheVariants.{Commit, Rollback, Abend}
use Rattle.bts_command.specs.declared.ended.Ended.{Ended}
use Rattle.bts_command.specs.declared.ended.UnitKind.{UnitKind}
use Rattle.bts_command.specs.declared.ended.UnitKind.TheVariants as unit
use Rattle.bts_tree.specs.Activities.{is_untold}
use Rattle.bts_tree.specs.Processes.{Process, activity_at}
use Rattle.bts_tree.specs.Repositories.{Processes, process_at, put, is_ready_at}
use Rattle.bts_unit.specs.Calls.{run, commands_of}
use Rattle.bts_unit.specs.Ends.{abended_whole}
use Rattle.bts_unit.specs.Frames.{UnitOfWork, start}
use Rattle.bts_unit.specs.Systems.{has_due, system}

-- ---- a unit played again

abbrev pub begun : UnitKind → ℕ → Process → UnitOfWork
begun (unit.Request item key) moment s = start (unit.Request item key) moment s
begun (unit.Activation key path) moment s = start (unit.Activation key path) moment s
begun kind moment s = system kind moment s

-- the codes by which the limits of a unit end it
abbrev pub is_budget : Name → Bool
is_budget code = same code (codes "STEP") || same code (codes "CMDS") || same code (codes "SIZE")

-- such an end is that of a unit whose first frame is open; all its frames abend
abbrev pub budgeted_by : Name → Option End → UnitOfWork → UnitOfWork
budgeted_by code (Some e) u = u
budgeted_by code None u = cond (is_budget code) (abended_whole code u) u

abbrev pub budgeted : End → UnitOfWork → UnitOfWork
budgeted (Abend code) u = budgeted_by code u.end u
budgeted Commit u = u
budgeted Rollback u = u

-- the unit behind the commands of an ended one, and at its end
abbrev pub replayed : Ended → Process → UnitOfWork
replayed e s = run (begun e.unit e.moment s) (commands_of e.calls)

abbrev pub finished : Ended → Process → UnitOfWork
finished e s = budgeted e.end (replayed e s)

-- ---- what is enabled

abbrev pub is_untold_at : Key → ActivityPath → Processes → Bool
is_untold_at key p repo = unwrap_or (option_map is_untold (activity_at p (process_at key repo))) false

abbrev pub is_due_at : ℕ → Key → ActivityPath → Name → Processes → Bool
is_due_at now key p t repo = unwrap_or (option_map (λ a. has_due now t a.timers) (activity_at p (process_at key repo))) false

-- whether these processes let a unit run at a moment; the session's items have a rule of their own besides
abbrev pub may_run : UnitKind → ℕ → Processes → Bool
may_run (unit.Activation key path) now repo = is_ready_at key path repo
may_run (unit.Notice key path) now repo = is_untold_at key path repo
may_run (unit.Expiry key path timer) now repo = is_due_at now key path timer repo
may_run _ now repo = true

-- ---- ended units that processes give

-- the calls of an ended unit, with their replies, and its end are those that its process gives
pub record IsReplay (e : Ended) (s : Process) : Type 0 where
  pub calls : (replayed e s).calls ≡ e.calls
  pub end : (finished e s).end ≡ Some e.end

-- a unit without a process has no calls, and commits
pub record IsPlain (e : Ended) : Type 0 where
  pub calls : e.calls ≡ []
  pub end : e.end ≡ Commit

-- the process that a unit is about
abbrev pub process_of : UnitKind → Processes → Option Process
process_of (unit.Request item key) repo = Some (process_at key repo)
process_of (unit.Activation key path) repo = Some (process_at key repo)
process_of (unit.Notice key path) repo = Some (process_at key repo)
process_of (unit.Expiry key path timer) repo = Some (process_at key repo)
process_of _ repo = None

abbrev pub PlaysOn : Ended → Option Process → Type 0
PlaysOn e (Some s) = IsReplay e s
PlaysOn e None = IsPlain e

-- an ended unit is one that these processes give
pub record Plays (repo : Processes) (e : Ended) : Type 0 where
  pub enabled : IsTrue (may_run e.unit e.moment repo)
  pub given : PlaysOn e (process_of e.unit repo)

-- ---- the processes behind an ended unit

abbrev pub put_back : End → Option Process → Processes → Processes
put_back e None repo = repo
put_back Rollback (Some s) repo = repo
put_back Commit (Some s) repo = put s repo
put_back (Abend code) (Some s) repo = put s repo

abbrev pub after : Processes → Ended → Processes
after repo e = put_back e.end (option_map (λ s. (finished e s).now.process) (process_of e.unit repo)) repo
