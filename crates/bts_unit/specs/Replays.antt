-- A unit from its beginning, its calls and the code that stopped it; and one whose calls are made again.
use Rattle.std.specs.Prelude.{◌≡◌, ◌+◌, ◌^◌, ◌≤◌, true, List, [], ◌∷◌, length, Option, Some, None, is_none, is_some}
use Rattle.std.specs.List.{AllByRecursion}
use Rattle.bts_names.specs.Names.{Name, ActivityPath}
use Rattle.bts_command.specs.Given.{IsGiven}
use Rattle.bts_command.specs.declared.command.Call.{Call}
use Rattle.bts_command.specs.declared.ended.End.{End}
use Rattle.bts_command.specs.declared.ended.UnitKind.{UnitKind}
use Rattle.bts_tree.specs.Scopes.{held_whole}
use Rattle.bts_unit.specs.Calls.{commands_of, run}
use Rattle.bts_unit.specs.Ends.{abended_whole}
use Rattle.bts_unit.specs.Frames.{OpenFrame, UnitOfWork, start}
use Rattle.bts_unit.specs.OneFrame.{StandsIn, is_of_one_frame}
use Rattle.bts_unit.specs.OnWork.{IsMarked, unit_of}
use Rattle.bts_unit.specs.Soundness.{IsSoundUnit, IsSoundWithin}
use Rattle.bts_unit.specs.declared.work.Work.{Work}

-- all frames abend with a code, where there is one
abbrev pub stopped_by : Option Name → UnitOfWork → UnitOfWork
stopped_by None u = u
stopped_by (Some code) u = abended_whole code u

abbrev pub behind_calls : UnitKind → Work → List Call → Option Name → UnitOfWork
behind_calls kind w calls stopped = stopped_by stopped (run (start kind w.moment w.base.process) (commands_of calls))

-- the work of a unit is what the unit shows
pub record IsWorkOf (w : Work) (calls : List Call) (stopped : Option Name) (u : UnitOfWork) : Type 0 where
  pub unit : u ≡ unit_of w u.now calls
  pub process : u.now.process ≡ w.scope.process
  pub fits : is_none w.end ≡ is_some w.frame
  pub base : w.base ≡ held_whole w.base.process
  pub marked : IsMarked w.frame w.scope
  pub goes_on : is_none w.end ≡ true → stopped ≡ None

-- the activity of the top frame
abbrev pub top_path : List OpenFrame → Option ActivityPath
top_path [] = None
top_path (f ∷ fs) = f.at

-- a unit with an open frame hasn't ended
abbrev pub Fits : List OpenFrame → Option End → Type 0
Fits [] e = Unit {0}
Fits (f ∷ fs) e = e ≡ None

abbrev pub IsFit : UnitOfWork → Type 0
IsFit u = Fits u.frames u.end

-- ---- a unit whose calls are made again

-- a unit of one frame that can make these calls more
pub record CanRepeat (u : UnitOfWork) (calls : List Call) : Type 0 where
  pub at : Option ActivityPath
  pub stands : StandsIn at u.frames
  pub fits : IsFit u
  pub sound : IsSoundUnit u
  pub within : IsSoundWithin (2 ^ 63) (2 ^ 63 + length u.calls) u
  pub few : length u.calls + length calls ≤ 500
  pub given : AllByRecursion (λ c. IsGiven c.command × (is_of_one_frame at c.command ≡ true)) calls
