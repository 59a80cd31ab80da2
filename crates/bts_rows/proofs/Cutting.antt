-- A process stays sound where one activity changes, and some of those below it go.
use Rattle.std.proofs.Common.{◌≡◌, ◌≤◌, Bool, true, false, cond, List, [], Option, Some, None, is_some, option_map, unwrap_or, refl, sym, ap, subst, ◌∙◌, true≢false}
use Rattle.std.specs.List.{filter, list_any}
use Rattle.bts_names.specs.Names.{ActivityPath, same, same_exact}
use Rattle.bts_names.specs.Named.{lookup}
use Rattle.bts_tree.specs.declared.activity.Activity.{Activity}
use Rattle.bts_tree.specs.Activities.{Activities, changed_at, changed_by, written_at}
use Rattle.bts_tree.specs.Modes.{is_mode_active}
use Rattle.bts_tree.specs.Processes.{Process, activity_at, edited, on_tree, format_of}
use Rattle.bts_tree.specs.Soundness.{IsSoundInFrames, IsSoundUnder}
use Rattle.bts_rows.proofs.Active.{active_at, is_active, sound_in_frames}
use Rattle.bts_rows.proofs.Edits.{missing}
use Rattle.bts_rows.proofs.Written.{lookup-written, all_found}
use Rattle.bts_rows.proofs.Changes.{Cuts, Replaces, all, all_cuts, all_left, all_stay, family_replaced}
use Rattle.bts_rows.proofs.Trees.{IsFamily, family_from, found_passing, tree_from}
use Rattle.bts_rows.proofs.OneFormat.{AreIn, in_written}
use Rattle.bts_rows.proofs.Entries.{all_filtered}

-- the tree of a sound process in which an activity stands
pub record StandsAt (s : Process) (p : ActivityPath) (a : Activity) : Type 0 where
  pub tree : Activities
  pub is_tree : s.tree ≡ Some tree
  pub found : lookup p tree ≡ Some a
  pub family : IsFamily tree
  pub defined : 1 ≤ s.generation
  pub formats : AreIn (format_of s) tree
  pub format : a.containers.format ≡ format_of s

pub stands_at : (frames : List ActivityPath) (s : Process) (p : ActivityPath) (a : Activity) → IsSoundInFrames frames s
    → activity_at p s ≡ Some a → StandsAt s p a
stands_at frames s p a sound h = by s.tree refl sound.tree sound.formats h
  where
    by : (o : Option Activities) → s.tree ≡ o → IsSoundUnder s o → AreIn (format_of s) (unwrap_or o []) → lookup p (unwrap_or o []) ≡ Some a → StandsAt s p a
    by None e u f k = cc
    by (Some t) e u f k = record {
      tree = t;
      is_tree = e;
      found = k;
      family = family_from t u.0;
      defined = u.1;
      formats = f;
      format = all_found (λ x. x.1.containers.format ≡ format_of s) p a t f k;
    }

-- ---- the change

module _ (keeps : ActivityPath → Bool) (p : ActivityPath) (g : Activity → Activity) where
  abbrev pub cut : Activities → Activities
  cut t = changed_at p g (filter (λ x. keeps x.0) t)

  module _ (cuts : Cuts keeps p) (a : Activity) where
    pub cut_writes : (t : Activities) → lookup p t ≡ Some a → cut t ≡ written_at p (g a) (filter (λ x. keeps x.0) t)
    cut_writes t h = ap (λ o. changed_by p g o (filter (λ x. keeps x.0) t)) (found_passing keeps p t cuts.own ∙ h)

    pub read_cut : (t : Activities) → lookup p t ≡ Some a → (q : ActivityPath)
        → lookup q (cut t) ≡ cond (same p q) (Some (g a)) (lookup q (filter (λ x. keeps x.0) t))
    read_cut t h q =
        ap (lookup q) (cut_writes t h)
        ∙ lookup-written p (g a) (filter (λ x. keeps x.0) t) q (ap is_some (found_passing keeps p t cuts.own ∙ h))

    module _ (frames : List ActivityPath) (closed : (q : ActivityPath) → keeps q ≡ false → list_any (same q) frames ≡ false)
        (mode : is_mode_active (g a).mode ≡ is_mode_active a.mode) where
      active_case : (t : Activities) → lookup p t ≡ Some a → ((q : ActivityPath) → is_active (lookup q t) ≡ list_any (same q) frames)
          → (q : ActivityPath) (b c : Bool) → same p q ≡ b → keeps q ≡ c
          → is_active (cond b (Some (g a)) (lookup q (filter (λ x. keeps x.0) t))) ≡ list_any (same q) frames
      active_case t h active q true c e d = mode ∙ ap is_active (sym h) ∙ ap (λ z. is_active (lookup z t)) (same_exact p q e) ∙ active q
      active_case t h active q false true e d = ap is_active (found_passing keeps q t d) ∙ active q
      active_case t h active q false false e d = ap is_active (missing keeps q t d) ∙ sym (closed q d)

      pub cut_sound : (s : Process) → IsSoundInFrames frames s → (w : StandsAt s p a) → Replaces w.tree keeps p a (g a)
          → IsSoundInFrames frames (on_tree cut s)
      cut_sound s sound w r =
          let u : Activities = written_at p (g a) (filter (λ x. keeps x.0) w.tree) in
          sound_in_frames frames (on_tree cut s) (cut w.tree) (ap (option_map cut) w.is_tree)
          (tree_from (cut w.tree)
          (subst IsFamily (sym (cut_writes w.tree w.found)) (family_replaced w.tree w.family keeps p cuts a (g a) w.found r)))
          w.defined sound.containers
          (subst (AreIn (format_of s)) (sym (cut_writes w.tree w.found))
          (in_written (format_of s) p (g a) (r.format ∙ w.format) (filter (λ x. keeps x.0) w.tree)
          (all_filtered (λ x. x.1.containers.format ≡ format_of s) (λ x. keeps x.0) w.tree w.formats)))
          (λ q. ap is_active (read_cut w.tree w.found q)
          ∙ active_case w.tree w.found (λ z. ap (λ o. is_active (lookup z (unwrap_or o []))) (sym w.is_tree) ∙ active_at frames s sound z) q
          (same p q) (keeps q) refl refl)

-- ---- where all stay

module _ (p : ActivityPath) (g : Activity → Activity) where
  cut_none : (s : Process) → on_tree (cut all p g) s ≡ edited p g s
  cut_none s = ap (λ t. record s { tree = t }) (by s.tree)
    where
      by : (o : Option Activities) → option_map (cut all p g) o ≡ option_map (changed_at p g) o
      by None = refl
      by (Some t) = ap (λ u. Some (changed_at p g u)) (all_left t)

  pub edited_sound : (frames : List ActivityPath) (s : Process) (a : Activity) → is_mode_active (g a).mode ≡ is_mode_active a.mode
      → IsSoundInFrames frames s → (w : StandsAt s p a) → Replaces w.tree all p a (g a)
      → IsSoundInFrames frames (edited p g s)
  edited_sound frames s a mode sound w r =
      subst (IsSoundInFrames frames) (cut_none s)
      (cut_sound all p g (all_cuts p) a frames (λ q h. absurd (true≢false (sym (all_stay q) ∙ h))) mode s sound w r)

  -- what is read behind it
  pub read_edited : (s : Process) (a : Activity) → activity_at p s ≡ Some a → (q : ActivityPath)
      → activity_at q (edited p g s) ≡ cond (same p q) (Some (g a)) (activity_at q s)
  read_edited s a h q = by s.tree h
    where
      by : (o : Option Activities) → lookup p (unwrap_or o []) ≡ Some a
          → lookup q (unwrap_or (option_map (changed_at p g) o) []) ≡ cond (same p q) (Some (g a)) (lookup q (unwrap_or o []))
      by None k = cc
      by (Some t) k = ap (λ o. lookup q (changed_by p g o t)) k ∙ lookup-written p (g a) t q (ap is_some k)
