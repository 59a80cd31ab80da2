use Rattle.std.proofs.Common.{◌≡◌, ◌≤◌, ℕ, true, is_none}
use Rattle.bts_unit.specs.Frames.{UnitOfWork}
use Rattle.bts_interp.specs.Running.{CanGoOn, IsRun, IsUnderWay, first_point, point_of, turns_left}
use Rattle.bts_interp.specs.Steps.{statement_limit}
use Rattle.bts_interp.specs.Texts.{Texts}
use Rattle.bts_interp.proofs.playing.play.Given as goal

abbrev pub invariant-loop-progress : goal.invariant-loop-progress
invariant-loop-progress g l =
    record {
      can : is_none l.unit.end ≡ true → CanGoOn l.script l.progress.place.now l.unit;
      used_fits : l.progress.used ≤ statement_limit;
      base : l.unit.base ≡ l.fn.unit.base;
      later : l.fn.steps ≤ l.steps;
      run : (texts : Texts) (begun : UnitOfWork) (before : ℕ) → IsUnderWay texts l.script begun before l.fn.unit (first_point l.script l.fn.steps)
          → IsRun texts l.script begun before l.unit (point_of l.progress l.steps);
    }

abbrev pub decreases-loop-progress : goal.decreases-loop-progress
decreases-loop-progress g l = turns_left l.unit
