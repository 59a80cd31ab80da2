-- An activity becomes COMPLETE, and those below it are FORCED: that keeps a process sound where none of them has an open frame.
use Rattle.std.proofs.Common.{◌≡◌, ℕ, Bool, true, false, cond, not, ◌||◌, List, [], ◌∷◌, map, Option, Some, None, is_some, option_map, unwrap_or, refl, sym, ap, subst, ◌∙◌, true≢false}
use Rattle.std.specs.List.{list_any}
use Rattle.std.specs.List.Sorted.{IsStrictlySortedBy}
use Rattle.std.specs.Map.{keys_of}
use Rattle.bts_names.specs.Names.{Name, ActivityPath, same, same_exact}
use Rattle.bts_names.specs.Named.{lookup, is_there}
use Rattle.bts_names.specs.declared.state.Status.{Status}
use Rattle.bts_names.specs.declared.state.Status.TheVariants as status
use Rattle.bts_event.specs.declared.event.Trigger.TheVariants.{Completion}
use Rattle.bts_event.proofs.Accounts.{clear_sound}
use Rattle.bts_event.proofs.Same.{same_refl}
use Rattle.bts_tree.specs.declared.activity.Activity.{Activity}
use Rattle.bts_tree.specs.Activities.{Activities, completed, completed_at, completed_one, forced, is_complete}
use Rattle.bts_tree.specs.Modes.{is_mode_active}
use Rattle.bts_tree.specs.Paths.{leads_to}
use Rattle.bts_tree.specs.Processes.{Process, activity_at, complete, format_of}
use Rattle.bts_tree.specs.Soundness.{IsSoundActivity, IsSoundInFrames, is_abend, is_incomplete, is_root, needs_event}
use Rattle.bts_rows.proofs.Active.{active_at, is_active, runs_at, sound_in_frames}
use Rattle.bts_rows.proofs.Changes.{Was, family_left, old_waits, only, waits_named}
use Rattle.bts_rows.proofs.Cutting.{stands_at}
use Rattle.bts_rows.proofs.Paths.{below, not_to_parent, parent_outside}
use Rattle.bts_rows.proofs.TimerEvents.{trigger_at}
use Rattle.bts_rows.proofs.Trees.{HasChild, IsFamily, Waits, tree_from}
use Rattle.bts_rows.proofs.Local.{completes_none}
use Rattle.bts_rows.proofs.Order.{leads_own, path_cmp}
use Rattle.bts_rows.proofs.Turned.{active_goes_on}
use Rattle.bts_rows.proofs.OneFormat.{in_mapped}

-- ---- a change of every activity under its path

module _ (g : ActivityPath × Activity → Activity) where
  abbrev each : Activities → Activities
  each t = map (λ x. (x.0, g x)) t

  keys_each : (t : Activities) → keys_of (each t) ≡ keys_of t
  keys_each [] = refl
  keys_each (x ∷ t) = ap (λ k. x.0 ∷ k) (keys_each t)

  read_case : (b : Bool) (q : ActivityPath) (x : ActivityPath × Activity) (o u : Option Activity) → same q x.0 ≡ b
      → o ≡ option_map (λ a. g (q, a)) u → cond b (Some (g x)) o ≡ option_map (λ a. g (q, a)) (cond b (Some x.1) u)
  read_case true q x o u e i = ap (λ n. Some (g (n, x.1))) (sym (same_exact q x.0 e))
  read_case false q x o u e i = i

  pub read_each : (q : ActivityPath) (t : Activities) → lookup q (each t) ≡ option_map (λ a. g (q, a)) (lookup q t)
  read_each q [] = refl
  read_each q (x ∷ t) = read_case (same q x.0) q x (lookup q (each t)) (lookup q t) refl (read_each q t)

  there_case : (o : Option Activity) (q : ActivityPath) → is_some (option_map (λ a. g (q, a)) o) ≡ is_some o
  there_case None q = refl
  there_case (Some a) q = refl

  there_each : (q : ActivityPath) (t : Activities) → is_there q (each t) ≡ is_there q t
  there_each q t = ap is_some (read_each q t) ∙ there_case (lookup q t) q

-- ---- an activity that ends

sound_ended : (s : Status) (code : Option Name) (told : Bool) (a : Activity) → is_incomplete s ≡ false → is_some code ≡ is_abend s
    → IsSoundActivity a → IsSoundActivity (completed s code told a)
unfolding IsStrictlySortedBy
sound_ended s code told a i c sound = record {
  status = i;
  code = c;
  pool = clear_sound a.pool;
  timers_rise = tt;
  timer_events = record { one_event_each = refl; timer_of_each = refl; unexpired = refl };
  containers = sound.containers;
  few_children = sound.few_children;
}

forced_case : (b : Bool) (a : Activity) → is_complete a ≡ b → IsSoundActivity a
    → IsSoundActivity (cond b (completed a.status a.code true a) (completed status.Forced None true a))
forced_case true a e sound = sound_ended a.status a.code true a (sound.status ∙ ap not e) sound.code sound
forced_case false a e sound = sound_ended status.Forced None true a refl refl sound

sound_forced : (a : Activity) → IsSoundActivity a → IsSoundActivity (forced a)
sound_forced a sound = forced_case (is_complete a) a refl sound

-- ---- one activity of a tree ends, with those below it

module _ (p : ActivityPath) (s : Status) (code : Option Name) where
  abbrev by : ActivityPath × Activity → Activity
  by = completed_one p s code

  outside : (x : ActivityPath × Activity) → leads_to p x.0 ≡ false → by x ≡ x.1
  outside x h = completes_none [] p refl s code x h

  -- what it may be
  abbrev one_of : Bool → Bool → Bool → Activity → Activity
  one_of b c d a =
      cond b (completed s code (same p []) a) (cond c (cond d (completed a.status a.code true a) (completed status.Forced None true a)) a)

  name_case : (b c d : Bool) (a : Activity) → (one_of b c d a).name ≡ a.name
  name_case true c d a = refl
  name_case false true true a = refl
  name_case false true false a = refl
  name_case false false d a = refl

  completion_case : (b c d : Bool) (a : Activity) → (one_of b c d a).completion ≡ a.completion
  completion_case true c d a = refl
  completion_case false true true a = refl
  completion_case false true false a = refl
  completion_case false false d a = refl

  made_case : (b c d : Bool) (a : Activity) → (one_of b c d a).made ≡ a.made
  made_case true c d a = refl
  made_case false true true a = refl
  made_case false true false a = refl
  made_case false false d a = refl

  format_case : (b c d : Bool) (a : Activity) → (one_of b c d a).containers.format ≡ a.containers.format
  format_case true c d a = refl
  format_case false true true a = refl
  format_case false true false a = refl
  format_case false false d a = refl

  pub same_format : (x : ActivityPath × Activity) → (by x).containers.format ≡ x.1.containers.format
  same_format x = format_case (same p x.0) (leads_to p x.0) (is_complete x.1) x.1

  same_name : (x : ActivityPath × Activity) → (by x).name ≡ x.1.name
  same_name x = name_case (same p x.0) (leads_to p x.0) (is_complete x.1) x.1

  pub same_completion : (x : ActivityPath × Activity) → (by x).completion ≡ x.1.completion
  same_completion x = completion_case (same p x.0) (leads_to p x.0) (is_complete x.1) x.1

  same_made : (x : ActivityPath × Activity) → (by x).made ≡ x.1.made
  same_made x = made_case (same p x.0) (leads_to p x.0) (is_complete x.1) x.1

  told_case : (b c d : Bool) (q : ActivityPath) (a : Activity) → same p q ≡ b → is_root q ≡ true → a.told ≡ true
      → (one_of b c d a).told ≡ true
  told_case true c d q a e r h = ap (λ y. same y []) (same_exact p q e) ∙ r
  told_case false true true q a e r h = refl
  told_case false true false q a e r h = refl
  told_case false false d q a e r h = h

  forced_needs : (d : Bool) (a : Activity)
      → needs_event (cond d (completed a.status a.code true a) (completed status.Forced None true a)) ≡ false
  forced_needs true a = refl
  forced_needs false a = refl

  -- one that ended has no event
  events_case : (b c d : Bool) (a : Activity) (n : Name) (k : ℕ) → trigger_at (lookup n (one_of b c d a).pool.events) ≡ Some (Completion k)
      → trigger_at (lookup n a.pool.events) ≡ Some (Completion k)
  events_case true c d a n k h = cc
  events_case false true true a n k h = cc
  events_case false true false a n k h = cc
  events_case false false d a n k h = h

  module _ (ends : is_incomplete s ≡ false) (coded : is_some code ≡ is_abend s) where
    sound_case : (b c : Bool) (a : Activity) → IsSoundActivity a
        → IsSoundActivity (cond b (completed s code (same p []) a) (cond c (forced a) a))
    sound_case true c a h = sound_ended s code (same p []) a ends coded h
    sound_case false true a h = sound_forced a h
    sound_case false false a h = h

  module _ (ends : is_incomplete s ≡ false) (coded : is_some code ≡ is_abend s) (t : Activities) (f : IsFamily t) (a : Activity)
      (found : lookup p t ≡ Some a) (running : is_complete a ≡ false) where
    abbrev after : Activities
    after = each by t

    -- an activity, and what it was
    record Ended (q : ActivityPath) (b : Activity) : Type 0 where
      old : Activity
      there : lookup q t ≡ Some old
      is_it : by (q, old) ≡ b

    ended : (q : ActivityPath) (b : Activity) → lookup q after ≡ Some b → Ended q b
    ended q b h = go (lookup q t) refl (sym (read_each by q t) ∙ h)
      where
        go : (o : Option Activity) → lookup q t ≡ o → option_map (λ c. by (q, c)) o ≡ Some b → Ended q b
        go None e k = cc
        go (Some c) e k = record { old = c; there = e; is_it = cc }

    was : (q : ActivityPath) (b : Activity) → lookup q after ≡ Some b → Was t q b
    was q b h =
        let e = ended q b h in
        subst (Was t q) e.is_it (record {
          old = e.old;
          found = e.there;
          sound = sound_case ends coded (same p q) (leads_to p q) e.old (f.sound q e.old e.there);
          name = same_name (q, e.old);
          completion = same_completion (q, e.old);
          made = same_made (q, e.old);
          told = told_case (same p q) (leads_to p q) (is_complete e.old) q e.old refl;
        })

    -- an activity that needs its event needed it before, since it wasn't COMPLETE, and its parent goes on
    record GoesOn (q : ActivityPath) (y : Activity) : Type 0 where
      parent : leads_to p q ≡ false
      needed : needs_event y ≡ true

    goes_on : (q : ActivityPath) (k : ℕ) (y : Activity) (b c : Bool) → lookup (below q k) t ≡ Some y → same p (below q k) ≡ b
        → leads_to p (below q k) ≡ c → needs_event (one_of b c (is_complete y) y) ≡ true → GoesOn q y
    goes_on q k y true c h e l n =
        let path = same_exact p (below q k) e in
        let own : y ≡ a = only t (below q k) y a h (ap (λ z. lookup z t) (sym path) ∙ found) in
        record {
          parent = ap (λ z. leads_to z q) path ∙ not_to_parent q k;
          needed = ap (λ d. not d || not y.told) (ap is_complete own ∙ running);
        }
    goes_on q k y false true h e l n = absurd (true≢false (sym n ∙ forced_needs (is_complete y) y))
    goes_on q k y false false h e l n = record { parent = parent_outside p q k l; needed = n }

    waits_at : (q : ActivityPath) (k : ℕ) (x y : Activity) → Ended q x → Ended (below q k) y → needs_event y ≡ true → Waits x k y
    waits_at q k x y d e n =
        let g = goes_on q k e.old (same p (below q k)) (leads_to p (below q k)) e.there refl refl (ap needs_event e.is_it ∙ n) in
        let w = waits_named d.old k e.old (by (below q k, e.old)) (same_completion (below q k, e.old))
        (old_waits t f q k d.old e.old d.there e.there g.needed) in
        subst (λ z. Waits z k y) (sym (outside (q, d.old) g.parent) ∙ d.is_it) (subst (Waits d.old k) e.is_it w)

    events_at : (q : ActivityPath) (x : Activity) (n : Name) (k : ℕ) → Ended q x → trigger_at (lookup n x.pool.events) ≡ Some (Completion k)
        → HasChild after q n k
    events_at q x n k d h =
        let c = f.events q d.old n k d.there
        (events_case (same p q) (leads_to p q) (is_complete d.old) d.old n k
        (ap (λ (z : Activity). trigger_at (lookup n z.pool.events)) d.is_it ∙ h)) in
        record {
          child = by (below q k, c.child);
          found = read_each by (below q k) t ∙ ap (option_map (λ z. by (below q k, z))) c.found;
          named = same_completion (below q k, c.child) ∙ c.named;
        }

    family_completed : IsFamily after
    family_completed = family_left t after f (record {
      order = subst (IsStrictlySortedBy path_cmp) (sym (keys_each by t)) f.order;
      root = there_each by [] t ∙ f.root;
      was = was;
      parents = λ q k b h. let e = ended (below q k) b h in there_each by q t ∙ ap is_some (f.parents q k e.old e.there).found;
      waits = λ q k x y h i. waits_at q k x y (ended q x h) (ended (below q k) y i);
      events = λ q x n k h. events_at q x n k (ended q x h);
    })

  -- ---- which activities are ACTIVE

  ended_case : (b d : Bool) (a : Activity) → is_mode_active (one_of b true d a).mode ≡ false
  ended_case true d a = refl
  ended_case false true a = refl
  ended_case false false a = refl

  module _ (t : Activities) (frames others : List ActivityPath)
      (active : (q : ActivityPath) → is_active (lookup q t) ≡ list_any (same q) frames)
      (inside : (q : ActivityPath) → leads_to p q ≡ true → list_any (same q) others ≡ false)
      (apart : (q : ActivityPath) → leads_to p q ≡ false → list_any (same q) others ≡ list_any (same q) frames) where
    ends_at : (q : ActivityPath) (o : Option Activity) → leads_to p q ≡ true → is_active (option_map (λ a. by (q, a)) o) ≡ false
    ends_at q None l = refl
    ends_at q (Some a) l = ap (λ c. is_mode_active (one_of (same p q) c (is_complete a) a).mode) l ∙ ended_case (same p q) (is_complete a) a

    stays_at : (q : ActivityPath) (o : Option Activity) → leads_to p q ≡ false → is_active (option_map (λ a. by (q, a)) o) ≡ is_active o
    stays_at q None l = refl
    stays_at q (Some a) l = ap (λ y. is_mode_active y.mode) (outside (q, a) l)

    active_case : (b : Bool) (q : ActivityPath) → leads_to p q ≡ b
        → is_active (option_map (λ a. by (q, a)) (lookup q t)) ≡ list_any (same q) others
    active_case true q l = ends_at q (lookup q t) l ∙ sym (inside q l)
    active_case false q l = stays_at q (lookup q t) l ∙ active q ∙ sym (apart q l)

    still_active : (q : ActivityPath) → is_active (lookup q (each by t)) ≡ list_any (same q) others
    still_active q = ap is_active (read_each by q t) ∙ active_case (leads_to p q) q refl

-- ---- in a process

-- an activity that isn't COMPLETE becomes so, and the frames at its path and below it close
pub complete_closes : (frames others : List ActivityPath) (p : ActivityPath) (s : Status) (code : Option Name) (whole : Process) (a : Activity)
    → is_incomplete s ≡ false → is_some code ≡ is_abend s → ((q : ActivityPath) → leads_to p q ≡ true → list_any (same q) others ≡ false)
    → ((q : ActivityPath) → leads_to p q ≡ false → list_any (same q) others ≡ list_any (same q) frames)
    → IsSoundInFrames frames whole → activity_at p whole ≡ Some a → is_complete a ≡ false → IsSoundInFrames others (complete p s code whole)
complete_closes frames others p s code whole a ends coded inside apart sound there running =
    let at = stands_at frames whole p a sound there in
    sound_in_frames others (complete p s code whole) (completed_at p s code at.tree) (ap (option_map (completed_at p s code)) at.is_tree)
    (tree_from (completed_at p s code at.tree) (family_completed p s code ends coded at.tree at.family a at.found running))
    at.defined sound.containers
    (in_mapped (format_of whole) (completed_one p s code) (same_format p s code) at.tree at.formats)
    (still_active p s code at.tree frames others
    (λ q. ap (λ o. is_active (lookup q (unwrap_or o []))) (sym at.is_tree) ∙ active_at frames whole sound q) inside apart)

none_inside : (frames : List ActivityPath) (p q : ActivityPath) (b : Bool) → list_any (same q) frames ≡ b
    → (b ≡ true → leads_to p q ≡ false) → leads_to p q ≡ true → b ≡ false
none_inside frames p q true e closed l = absurd (true≢false (sym l ∙ closed refl))
none_inside frames p q false e closed l = refl

-- an activity that isn't COMPLETE becomes so, where neither it nor any below it has an open frame
pub complete_keeps_soundness : (frames : List ActivityPath) (p : ActivityPath) (s : Status) (code : Option Name) (whole : Process) (a : Activity)
    → is_incomplete s ≡ false → is_some code ≡ is_abend s → ((q : ActivityPath) → list_any (same q) frames ≡ true → leads_to p q ≡ false)
    → IsSoundInFrames frames whole → activity_at p whole ≡ Some a → is_complete a ≡ false → IsSoundInFrames frames (complete p s code whole)
complete_keeps_soundness frames p s code whole a ends coded closed =
    complete_closes frames frames p s code whole a ends coded (λ q. none_inside frames p q (list_any (same q) frames) refl (closed q))
    (λ q l. refl)

-- the activity of an open frame becomes COMPLETE, and its frame closes; none of the others is below it
pub ending_keeps_soundness : (frames : List ActivityPath) (p : ActivityPath) (s : Status) (code : Option Name) (whole : Process)
    → is_incomplete s ≡ false → is_some code ≡ is_abend s → ((q : ActivityPath) → list_any (same q) frames ≡ true → leads_to p q ≡ false)
    → IsSoundInFrames (p ∷ frames) whole → IsSoundInFrames frames (complete p s code whole)
ending_keeps_soundness frames p s code whole ends coded closed sound =
    let at = runs_at (p ∷ frames) p whole sound (ap (λ b. b || list_any (same p) frames) (same_refl p)) in
    complete_closes (p ∷ frames) frames p s code whole at.activity ends coded
    (λ q. none_inside frames p q (list_any (same q) frames) refl (closed q))
    (λ q l. sym (ap (λ b. b || list_any (same q) frames) (other q l))) sound at.found (active_goes_on at.activity.mode at.active)
  where
    other_case : (q : ActivityPath) (b : Bool) → same q p ≡ b → leads_to p q ≡ false → b ≡ false
    other_case q true e l = absurd (true≢false (sym (leads_own p) ∙ sym (ap (leads_to p) (same_exact q p e)) ∙ l))
    other_case q false e l = refl

    other : (q : ActivityPath) → leads_to p q ≡ false → same q p ≡ false
    other q l = other_case q (same q p) refl l
