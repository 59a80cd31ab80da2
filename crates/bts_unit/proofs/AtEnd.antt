-- A unit at its end, which may be that of its limits.
use Rattle.std.proofs.Common.{◌≡◌, Bool, true, false, cond, List, [], ◌∷◌, Option, Some, None, refl, sym, ◌∙◌}
use Rattle.bts_names.specs.Names.{Name}
use Rattle.bts_command.specs.declared.ended.End.{End}
use Rattle.bts_command.specs.declared.ended.End.TheVariants.{Commit, Rollback, Abend}
use Rattle.bts_unit.specs.Ends.{abended, abended_whole, first_of}
use Rattle.bts_unit.specs.Frames.{OpenFrame, UnitOfWork}
use Rattle.bts_unit.specs.Playing.{budgeted, budgeted_by, is_budget}
use Rattle.bts_unit.specs.Replays.{Fits, IsFit}
use Rattle.bts_unit.proofs.BoundedUnits.{abended_by}

-- the code with which all frames abend, where the end of the unit is that of its limits
abbrev code_if : Bool → Name → Option Name
code_if true code = Some code
code_if false code = None

abbrev code_by : Name → Option End → Option Name
code_by code (Some e) = None
code_by code None = code_if (is_budget code) code

abbrev pub stopping : End → Option End → Option Name
stopping Commit o = None
stopping Rollback o = None
stopping (Abend code) o = code_by code o

module _ (u : UnitOfWork) where
  by_test : (b : Bool) (code : Name) → cond b (abended_whole code u) u ≡ abended_by (code_if b code) u
  by_test true code = refl
  by_test false code = refl

  by_end : (o : Option End) (code : Name) → budgeted_by code o u ≡ abended_by (code_by code o) u
  by_end (Some e) code = refl
  by_end None code = by_test (is_budget code) code

  pub stops : (e : End) → budgeted e u ≡ abended_by (stopping e u.end) u
  stops Commit = refl
  stops Rollback = refl
  stops (Abend code) = by_end u.end code

  abbrev whole : Name → List OpenFrame → UnitOfWork
  whole code frames = elim frames [ [] ↦ u | f ∷ fs ↦ abended (first_of f fs) [] code u ]

  no_frames : (code : Name) (frames : List OpenFrame) → u.frames ≡ frames → (whole code frames).frames ≡ []
  no_frames code [] e = e
  no_frames code (f ∷ fs) e = refl

  same_calls : (code : Name) (frames : List OpenFrame) → (whole code frames).calls ≡ u.calls
  same_calls code [] = refl
  same_calls code (f ∷ fs) = refl

  pub calls_kept : (o : Option Name) → (abended_by o u).calls ≡ u.calls
  calls_kept None = refl
  calls_kept (Some code) = same_calls code u.frames

  closed_by : (frames : List OpenFrame) (o : Option End) (e : End) → Fits frames o → o ≡ Some e → frames ≡ []
  closed_by [] o e fit h = refl
  closed_by (f ∷ fs) o e fit h = let q : None ≡ Some e = sym fit ∙ h in cc

  pub frames_gone : (o : Option Name) (e : End) → IsFit u → (abended_by o u).end ≡ Some e → (abended_by o u).frames ≡ []
  frames_gone None e fit h = closed_by u.frames u.end e fit h
  frames_gone (Some code) e fit h = no_frames code u.frames refl
