-- A unit on its way through its script.
use Rattle.std.specs.Prelude.{◌≡◌, ℕ, ◌+◌, ◌-◌, ◌<◌, ◌≤◌, true, List, [], ◌∷◌, length, Option, Some, None, is_some}
use Rattle.bts_command.specs.declared.ended.End.{End}
use Rattle.bts_command.specs.declared.ended.UnitKind.{UnitKind}
use Rattle.bts_unit.specs.Frames.{OpenFrame, UnitOfWork, start}
use Rattle.bts_unit.specs.Playing.{budgeted}
use Rattle.bts_unit.specs.Soundness.{IsSoundUnit, IsSoundWithin}
use Rattle.bts_command.specs.Sizes.{data_bytes}
use Rattle.bts_interp.specs.Budgets.{call_limit, data_limit, statements_of, statements_to}
use Rattle.bts_unit.specs.Calls.{unit_behind}
use Rattle.bts_interp.specs.NextCalls.{own_calls}
use Rattle.bts_interp.specs.Ready.{IsExecutable, IsRunnable, number_limit}
use Rattle.bts_interp.specs.declared.playing.Progress.{Progress}
use Rattle.bts_interp.specs.Steps.{Reached, Script, next, place_behind, statement_limit}
use Rattle.bts_interp.specs.Talks.{Follows, IsTalk}
use Rattle.bts_interp.specs.Texts.{Texts, frame_script}

-- ---- where a unit is

-- the place in its script, the statements and the bytes of data that it has used, and the count of all statements
pub record Point : Type 0 where
  pub place : Script
  pub used : ℕ
  pub bytes : ℕ
  pub steps : ℕ

abbrev pub point_of : Progress → ℕ → Point
point_of p steps = record { place = p.place.now; used = p.used; bytes = p.bytes; steps = steps }

abbrev pub first_point : Script → ℕ → Point
first_point script steps = record { place = script; used = 0; bytes = 0; steps = steps }

-- ---- what a unit needs to be run further

-- a unit of one frame, of which this is said, or of none where it has ended
abbrev pub HasFrame : (OpenFrame → Type 0) → List OpenFrame → Option End → Type 0
HasFrame P [] e = is_some e ≡ true
HasFrame P (f ∷ []) e = P f
HasFrame P (f ∷ g ∷ fs) e = ⊥

-- a unit that can do the commands of a script, from a place in it on
pub record CanGoOn (script place : Script) (u : UnitOfWork) : Type 0 where
  pub script_may : IsExecutable script
  pub place_may : IsExecutable place
  pub frame : HasFrame (λ f. Unit {0}) u.frames u.end
  pub few_calls : length u.calls ≤ call_limit
  pub sound : IsSoundUnit u
  pub within : IsSoundWithin number_limit (number_limit + length u.calls) u

-- it reaches this command, and no end is due before its call
pub record MayCall (script : Script) (u : UnitOfWork) (at : Point) (r : Reached) : Type 0 where
  pub next_is : next (statement_limit - at.used) script u.calls at.place ≡ Some r
  pub calls_left : length u.calls < call_limit
  pub bytes_fit : at.bytes ≤ data_limit

-- a unit that is open makes a call or ends at most so often
abbrev pub turns_by : ℕ → Option End → ℕ
turns_by made None = 501 - made
turns_by made (Some e) = 0

abbrev pub turns_left : UnitOfWork → ℕ
turns_left u = turns_by (length u.calls) u.end

-- ---- what it has done

abbrev pub FollowsFirst : Texts → Script → OpenFrame → Type 0
FollowsFirst texts script f = (f.opened ≡ 0) × (frame_script texts f ≡ script)

-- a unit that began so and follows a script is at this point; the count of all statements was `before` at the beginning
pub record IsUnderWay (texts : Texts) (script : Script) (begun : UnitOfWork) (before : ℕ) (u : UnitOfWork) (at : Point)
    : Type 0 where
  pub open_first : begun.end ≡ None
  pub unit : u ≡ unit_behind begun u.calls
  pub frames : HasFrame (FollowsFirst texts script) u.frames u.end
  pub follows : Follows texts begun u.calls
  pub own : own_calls 0 begun u.calls ≡ u.calls
  pub place_is : at.place ≡ place_behind script [] u.calls script
  pub used_is : at.used ≡ statements_to texts begun u.calls
  pub bytes_are : at.bytes ≡ data_bytes u.calls
  pub steps_are : at.steps ≡ before + at.used

-- it has ended so, as its texts say
pub record IsPlayed (texts : Texts) (begun u : UnitOfWork) (before steps : ℕ) (e : End) : Type 0 where
  pub talk : IsTalk texts begun u.calls e
  pub unit : u ≡ budgeted e (unit_behind begun u.calls)
  pub steps_are : steps ≡ before + statements_of texts begun u.calls

-- it is under way as long as it hasn't ended
abbrev pub IsRunBy : Texts → Script → UnitOfWork → ℕ → UnitOfWork → Point → Option End → Type 0
IsRunBy texts script begun before u at None = IsUnderWay texts script begun before u at
IsRunBy texts script begun before u at (Some e) = IsPlayed texts begun u before at.steps e

abbrev pub IsRun : Texts → Script → UnitOfWork → ℕ → UnitOfWork → Point → Type 0
IsRun texts script begun before u at = IsRunBy texts script begun before u at u.end

-- whatever texts give the script, and however the unit began: it goes on from a point to another one
abbrev pub GoesOn : Script → UnitOfWork → Point → UnitOfWork → Point → Type 0
GoesOn script u at u2 at2 =
    (texts : Texts) (begun : UnitOfWork) (before : ℕ) → IsUnderWay texts script begun before u at
    → IsRun texts script begun before u2 at2

-- an end that was due: the unit has ended where it was
pub record Stops (script : Script) (u : UnitOfWork) (at : Point) (u2 : UnitOfWork) (steps2 : ℕ) : Type 0 where
  pub goes_on : GoesOn script u at u2 (record at { steps = steps2 })
  pub ended : is_some u2.end ≡ true
  pub base : u2.base ≡ u.base

-- ---- the beginning

-- a request or an activation that can be run, before its first call
pub record IsBegun (kind : UnitKind) (moment : ℕ) (texts : Texts) (u : UnitOfWork) : Type 0 where
  pub runnable : IsRunnable kind u.base texts
  pub begun : u ≡ start kind moment u.base
  pub sound : IsSoundUnit u
  pub within : IsSoundWithin number_limit number_limit u
