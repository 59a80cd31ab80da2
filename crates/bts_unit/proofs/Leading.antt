-- Frames open and end from the modes that the table of the modes has.
use Rattle.std.proofs.Common.{◌≡◌, true, false, ◌||◌, List, ◌∷◌, Some, option_map, unwrap_or, refl, sym, ap, ◌∙◌}
use Rattle.std.specs.List.{list_any}
use Rattle.bts_event.proofs.Same.{same_refl}
use Rattle.bts_names.specs.Names.{ActivityPath, same}
use Rattle.bts_names.specs.declared.key.Key.{Key}
use Rattle.bts_command.specs.declared.ended.UnitKind.TheVariants as unit
use Rattle.bts_tree.specs.declared.activity.Activity.{Activity}
use Rattle.bts_tree.specs.Activities.{is_dormant, is_initial}
use Rattle.bts_tree.specs.Leading.{leads_from}
use Rattle.bts_tree.specs.Modes.{frame_opens, is_mode_active}
use Rattle.bts_tree.specs.Processes.{Process, activity_at}
use Rattle.bts_tree.specs.Soundness.{IsSoundInFrames}
use Rattle.bts_rows.proofs.Active.{active_at, is_active}
use Rattle.bts_rows.proofs.Leading.{abends_from, finishes_from, opens_from, waits_from}
use Rattle.bts_unit.specs.Frames.{OpenFrame, UnitOfWork}
use Rattle.bts_unit.specs.OneFrame.{may_begin}
use Rattle.bts_unit.specs.Soundness.{IsSoundUnit, LeadsToItsEnds, paths_of}
use Rattle.bts_unit.proofs.Carried.{begins_open}

pub begins_from : (key : Key) (p : ActivityPath) (s : Process) (a : Activity) → may_begin (unit.Activation key p) s ≡ true → activity_at p s ≡ Some a → leads_from frame_opens a.mode ≡ true
begins_from key p s a may there =
    opens_from a.mode (sym (ap (λ o. unwrap_or (option_map (λ x. is_initial x || is_dormant x) o) false) there) ∙ begins_open (unit.Activation key p) s may)

first_path : (f : OpenFrame) (fs : List OpenFrame) (p : ActivityPath) → f.at ≡ Some p → paths_of (f ∷ fs) ≡ p ∷ paths_of fs
first_path f fs p at = rw at refl

top_active : (frames : List OpenFrame) (f : OpenFrame) (fs : List OpenFrame) (p : ActivityPath) (s : Process) (a : Activity) → frames ≡ f ∷ fs → f.at ≡ Some p
    → IsSoundInFrames (paths_of frames) s → activity_at p s ≡ Some a → is_mode_active a.mode ≡ true
top_active frames f fs p s a is at sound there =
    sym (ap is_active there) ∙ active_at (paths_of frames) s sound p
    ∙ ap (list_any (same p)) (ap paths_of is ∙ first_path f fs p at)
    ∙ ap (λ b. b || list_any (same p) (paths_of fs)) (same_refl p)

pub ends_from : (u : UnitOfWork) (f : OpenFrame) (fs : List OpenFrame) (p : ActivityPath) (a : Activity) → IsSoundUnit u → u.frames ≡ f ∷ fs → f.at ≡ Some p → activity_at p u.now.process ≡ Some a → LeadsToItsEnds a
ends_from u f fs p a sound is at there =
    let active = top_active u.frames f fs p u.now.process a is at sound.process there in
    record { waits = waits_from a.mode active; finishes = finishes_from a.mode active; abends = abends_from a.mode active }
