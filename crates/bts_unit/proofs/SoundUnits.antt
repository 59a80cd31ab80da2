-- A unit with one frame keeps its process sound.
use Rattle.std.proofs.Common.{◌≡◌, ℕ, ◌≤◌, ◌||◌, true, false, List, [], ◌∷◌, Option, Some, None, is_some, length, option_map, unwrap_or, refl, ap, ◌∙◌}
use Rattle.std.specs.List.{list_any, AllByRecursion}
use Rattle.bts_event.proofs.Same.{same_refl}
use Rattle.bts_names.specs.Names.{Name, ActivityPath, same}
use Rattle.bts_names.specs.declared.state.Status.TheVariants as status
use Rattle.bts_command.specs.declared.command.Command.{Command}
use Rattle.bts_command.specs.declared.ended.UnitKind.{UnitKind}
use Rattle.bts_tree.specs.declared.activity.Activity.{Activity}
use Rattle.bts_tree.specs.Activities.{is_dormant, is_initial}
use Rattle.bts_tree.specs.Processes.{Process, activity_at}
use Rattle.bts_tree.specs.Soundness.{IsSoundInFrames}
use Rattle.bts_rows.specs.declared.places.Held.{Held}
use Rattle.bts_command.specs.Given.{IsGiven}
use Rattle.bts_rows.proofs.Active.{runs_at}
use Rattle.bts_rows.proofs.Completing.{complete_keeps_soundness, ending_keeps_soundness}
use Rattle.bts_rows.proofs.Tables.{request_in_sound}
use Rattle.bts_rows.proofs.Turned.{opening_keeps_soundness, opens_goes_on, waiting_keeps_soundness}
use Rattle.bts_act.specs.Early.{none_early}
use Rattle.bts_act.proofs.Late.{sound_none_early}
use Rattle.bts_unit.specs.Calls.{call, run}
use Rattle.bts_unit.specs.Ends.{abended_whole}
use Rattle.bts_unit.specs.Frames.{OpenFrame, UnitOfWork, is_there_at, open_paths, path_of, start}
use Rattle.bts_unit.specs.OneFrame.{StandsIn, is_of_one_frame, may_begin}
use Rattle.bts_unit.specs.Replays.{top_path}
use Rattle.bts_unit.specs.Soundness.{IsSoundUnit, may_open, paths_of}
use Rattle.bts_unit.proofs.Carried.{Carries}
use Rattle.bts_unit.proofs.Carried as carried
use Rattle.bts_unit.proofs.InFrames.{sound_in_frame}

-- an activity whose frame may open
record OpensAt (p : ActivityPath) (s : Process) : Type 0 where
  activity : Activity
  found : activity_at p s ≡ Some activity
  waiting : (is_initial activity || is_dormant activity) ≡ true

opens_case : (p : ActivityPath) (s : Process) (o : Option Activity) → activity_at p s ≡ o → unwrap_or (option_map (λ a. is_initial a || is_dormant a) o) false ≡ true → OpensAt p s
opens_case p s None e h = cc
opens_case p s (Some a) e h = record { activity = a; found = e; waiting = h }

opens_at : (p : ActivityPath) (s : Process) → may_open (Some p) s ≡ true → OpensAt p s
opens_at p s h = opens_case p s (activity_at p s) refl h

opened : (p : ActivityPath) → list_any (same p) (p ∷ []) ≡ true
opened p = ap (λ b. b || false) (same_refl p)

abbrev sound : ℕ → Held → List ActivityPath → Process → Type 0
sound n h = IsSoundInFrames

abbrev given : Option ActivityPath → Command → Type 0
given at c = IsGiven c

pub sound_carries : Carries sound given
sound_carries = record {
  later = λ n h frames s k. k;
  opens = λ n h p s k m. let at = opens_at p s m in opening_keeps_soundness [] s p at.activity k at.found at.waiting;
  rests = λ n h p s k. waiting_keeps_soundness [] s p refl k;
  finishes = λ n h p s k. ending_keeps_soundness [] p status.Normal None s refl refl (λ q e. cc) k;
  abends = λ n h p code s k m. let at = opens_at p s m in complete_keeps_soundness [] p status.Abend (Some code) s at.activity refl refl (λ q e. cc) k at.found (opens_goes_on at.activity.mode at.waiting);
  acts = λ n h p now s c g i k. sound_in_frame p 1 now s c i g (ap is_some (runs_at (p ∷ []) p s k (opened p)).found) k;
  requests = λ n h now s c g l k. request_in_sound s h 1 now c k g (λ e. cc);
  acquires = λ n h now s c frames before g l now_sound k. k;
}

pub starts_sound : (kind : UnitKind) (moment : ℕ) (s : Process) → may_begin kind s ≡ true → IsSoundInFrames [] s → IsSoundUnit (start kind moment s)
starts_sound = carried.starts sound given sound_carries 0

pub stays_sound : (u : UnitOfWork) (c : Command) → length u.frames ≤ 1 → IsGiven c → is_of_one_frame (top_path u.frames) c ≡ true → IsSoundUnit u → IsSoundUnit (call u c).1
stays_sound = carried.calls sound given sound_carries 0

-- its frame is the same behind a call, or has ended
pub stays_in_frame : (u : UnitOfWork) (c : Command) → length u.frames ≤ 1 → IsGiven c → is_of_one_frame (top_path u.frames) c ≡ true → IsSoundUnit u
    → StandsIn (top_path u.frames) (call u c).1.frames
stays_in_frame = carried.stays_in sound given sound_carries 0

pub runs_sound : (kind : UnitKind) (moment : ℕ) (s : Process) (cs : List Command) → may_begin kind s ≡ true → IsSoundInFrames [] s
    → AllByRecursion (λ c. IsGiven c × (is_of_one_frame (path_of kind) c ≡ true)) cs → IsSoundUnit (run (start kind moment s) cs)
runs_sound = carried.runs sound given sound_carries 0

pub stops_sound : (code : Name) (u : UnitOfWork) → IsSoundUnit u → IsSoundUnit (abended_whole code u)
stops_sound = carried.stops sound given sound_carries 0

pub sound_behind_end : (u : UnitOfWork) → u.frames ≡ [] → IsSoundUnit u → IsSoundInFrames [] u.now.process
sound_behind_end = carried.behind_end sound given sound_carries 0

-- ---- what a sound unit offers to its next call

there_case : (s : Process) (at : Option ActivityPath) (f : OpenFrame) (fs : List OpenFrame) → f.at ≡ at → IsSoundInFrames (paths_of (f ∷ fs)) s → is_there_at at s ≡ true
there_case s None f fs e h = refl
there_case s (Some p) f fs e h =
    let first : paths_of (f ∷ fs) ≡ p ∷ paths_of fs = rw e refl in
    ap is_some (runs_at (paths_of (f ∷ fs)) p s h (ap (list_any (same p)) first ∙ ap (λ b. b || list_any (same p) (paths_of fs)) (same_refl p))).found

top_there : (fs : List OpenFrame) (s : Process) → IsSoundInFrames (paths_of fs) s → is_there_at (top_path fs) s ≡ true
top_there [] s h = refl
top_there (f ∷ fs) s h = there_case s f.at f fs refl h

-- the activity of its top frame is there
pub sound_unit_there : (u : UnitOfWork) → IsSoundUnit u → is_there_at (top_path u.frames) u.now.process ≡ true
sound_unit_there u h = top_there u.frames u.now.process h.process

-- no event of its process is fired before its timer
pub sound_unit_late : (u : UnitOfWork) → IsSoundUnit u → none_early u.now.process ≡ true
sound_unit_late u h = sound_none_early (open_paths u) u.now.process h.process
