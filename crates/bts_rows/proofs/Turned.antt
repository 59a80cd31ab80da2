-- An activity that isn't COMPLETE becomes ACTIVE, or waits: the process stays sound in the frames that are open then.
use Rattle.std.proofs.Common.{◌≡◌, Bool, true, false, cond, not, ◌||◌, List, [], ◌∷◌, Option, Some, None, is_some, option_map, unwrap_or, refl, sym, ap, ◌∙◌}
use Rattle.std.specs.List.{list_any}
use Rattle.bts_event.proofs.Same.{same_refl, same_sym}
use Rattle.bts_names.specs.Names.{ActivityPath, same, same_exact}
use Rattle.bts_names.specs.Named.{lookup}
use Rattle.bts_names.specs.declared.state.Mode.{Mode}
use Rattle.bts_names.specs.declared.state.Mode.TheVariants as mode
use Rattle.bts_names.specs.declared.state.Status.TheVariants as status
use Rattle.bts_tree.specs.declared.activity.Activity.{Activity}
use Rattle.bts_tree.specs.Activities.{by_cause, changed_at, changed_by, is_complete, is_dormant, is_initial, written_at}
use Rattle.bts_tree.specs.Modes.{frame_opens, is_mode_active, is_mode_complete, is_mode_dormant, is_mode_initial, waits}
use Rattle.bts_tree.specs.Processes.{Process, activity_at, edited, format_of}
use Rattle.bts_tree.specs.Soundness.{IsSoundActivity, IsSoundInFrames}
use Rattle.bts_rows.proofs.Active.{active_at, is_active, runs_at, sound_in_frames}
use Rattle.bts_rows.proofs.Changes.{family_edited}
use Rattle.bts_rows.proofs.Cutting.{stands_at}
use Rattle.bts_rows.proofs.InPlace.{StandsFor, is_childs, stands_replaces, own_sound}
use Rattle.bts_rows.proofs.Keeps.{keeps_same}
use Rattle.bts_rows.proofs.Trees.{tree_from}
use Rattle.bts_rows.proofs.Written.{lookup-written}
use Rattle.bts_rows.proofs.OneFormat.{in_written}

-- ---- modes

pub active_goes_on : (m : Mode) → is_mode_active m ≡ true → is_mode_complete m ≡ false
active_goes_on mode.Initial h = cc
active_goes_on mode.Active h = refl
active_goes_on mode.Dormant h = cc
active_goes_on mode.Complete h = cc

pub opens_goes_on : (m : Mode) → (is_mode_initial m || is_mode_dormant m) ≡ true → is_mode_complete m ≡ false
opens_goes_on mode.Initial h = refl
opens_goes_on mode.Active h = cc
opens_goes_on mode.Dormant h = refl
opens_goes_on mode.Complete h = cc

-- an activity that isn't COMPLETE, in another mode that isn't either
in_mode : (m : Mode) (a : Activity) → IsSoundActivity a → is_complete a ≡ false → is_mode_complete m ≡ false
    → let b : Activity = record a { mode = m; status = status.Incomplete; code = None } in StandsFor a b
in_mode m a s goes_on h =
    let b : Activity = record a { mode = m; status = status.Incomplete; code = None } in
    let e = s.timer_events in
    record {
      sound = record {
        status = ap not (sym h);
        code = refl;
        pool = s.pool;
        timers_rise = s.timers_rise;
        timer_events = record { one_event_each = e.one_event_each; timer_of_each = e.timer_of_each; unexpired = e.unexpired };
        containers = s.containers;
        few_children = s.few_children;
      };
      name = refl;
      completion = refl;
      complete = h ∙ sym goes_on;
      told = refl;
      made = refl;
      format = refl;
      events = keeps_same is_childs a.pool.events;
    }

-- ---- a change at a path

-- the frames are others where the one at the path opened or closed, and all else is as it was
module _ (frames others : List ActivityPath) (s : Process) (q : ActivityPath) (f : Activity → Activity) (a : Activity)
    (sound : IsSoundInFrames frames s) (found : activity_at q s ≡ Some a) (fits : StandsFor a (f a)) where
  read_case : (b : Bool) (p : ActivityPath) (o : Option Activity) → same q p ≡ b → is_mode_active (f a).mode ≡ list_any (same q) others
      → is_active o ≡ list_any (same p) frames → (b ≡ false → list_any (same p) others ≡ list_any (same p) frames)
      → is_active (cond b (Some (f a)) o) ≡ list_any (same p) others
  read_case true p o e own i apart = own ∙ ap (λ n. list_any (same n) others) (same_exact q p e)
  read_case false p o e own i apart = i ∙ sym (apart refl)

  pub turned_sound : is_mode_active (f a).mode ≡ list_any (same q) others
      → ((p : ActivityPath) → same q p ≡ false → list_any (same p) others ≡ list_any (same p) frames)
      → IsSoundInFrames others (edited q f s)
  turned_sound own apart =
      let at = stands_at frames s q a sound found in
      let changed : option_map (changed_at q f) s.tree ≡ Some (written_at q (f a) at.tree) = ap (option_map (changed_at q f)) at.is_tree
      ∙ ap (λ o. Some (changed_by q f o at.tree)) at.found in
      let family = family_edited at.tree at.family q a (f a) at.found (stands_replaces at.tree at.family q a (f a) at.found fits) in
      sound_in_frames others (edited q f s) (written_at q (f a) at.tree) changed
      (tree_from (written_at q (f a) at.tree) family) at.defined sound.containers
      (in_written (format_of s) q (f a) (fits.format ∙ at.format) at.tree at.formats)
      (λ p. ap is_active (lookup-written q (f a) at.tree p (ap is_some at.found))
      ∙ read_case
      (same q p)
      p (lookup p at.tree) refl own (ap (λ o. is_active (lookup p (unwrap_or o []))) (sym at.is_tree) ∙ active_at frames s sound p)
      (apart p))

-- ---- frames

first_apart : (frames : List ActivityPath) (q p : ActivityPath) → same q p ≡ false
    → list_any (same p) (q ∷ frames) ≡ list_any (same p) frames
first_apart frames q p e = ap (λ b. b || list_any (same p) frames) (same_sym p q ∙ e)

first_in : (frames : List ActivityPath) (q : ActivityPath) → list_any (same q) (q ∷ frames) ≡ true
first_in frames q = ap (λ b. b || list_any (same q) frames) (same_refl q)

-- a frame opens of an activity that is INITIAL or DORMANT
pub opening_keeps_soundness : (frames : List ActivityPath) (s : Process) (q : ActivityPath) (a : Activity) → IsSoundInFrames frames s
    → activity_at q s ≡ Some a → (is_initial a || is_dormant a) ≡ true
    → IsSoundInFrames (q ∷ frames) (edited q (by_cause frame_opens None) s)
opening_keeps_soundness frames s q a sound found waiting =
    turned_sound frames (q ∷ frames) s q (by_cause frame_opens None) a sound found
    (in_mode mode.Active a (own_sound frames s sound q a found) (opens_goes_on a.mode waiting) refl)
    (sym (first_in frames q)) (first_apart frames q)

-- the activity of an open frame waits, and its frame closes
pub waiting_keeps_soundness : (frames : List ActivityPath) (s : Process) (q : ActivityPath) → list_any (same q) frames ≡ false
    → IsSoundInFrames (q ∷ frames) s
    → IsSoundInFrames frames (edited q (by_cause waits None) s)
waiting_keeps_soundness frames s q apart sound =
    let at = runs_at (q ∷ frames) q s sound (first_in frames q) in
    turned_sound (q ∷ frames) frames s q (by_cause waits None) at.activity sound at.found
    (in_mode mode.Dormant at.activity (own_sound (q ∷ frames) s sound q at.activity at.found)
    (active_goes_on at.activity.mode at.active) refl)
    (sym apart) (λ p e. sym (first_apart frames q p e))
