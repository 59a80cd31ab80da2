-- RESET keeps a process sound: the completion event stands again before anything goes.
use Rattle.std.proofs.Common.{◌≡◌, ℕ, Bool, true, false, cond, not, ◌&&◌, ◌||◌, List, [], Option, Some, None, is_some, is_none, unwrap_or, refl, sym, ap, subst, ◌∙◌, true≢false}
use Rattle.std.specs.List.{list_any}
use Rattle.std.specs.List.Sorted.{IsStrictlySortedBy}
use Rattle.bts_names.specs.Names.{Name, ActivityPath, same, same_exact, initial_name}
use Rattle.bts_names.specs.Named.{lookup}
use Rattle.bts_names.specs.declared.reply.Reason.{Reason}
use Rattle.bts_names.specs.declared.reply.Reason.TheVariants as reason
use Rattle.bts_names.specs.declared.state.Mode.{Mode}
use Rattle.bts_names.specs.declared.state.Mode.TheVariants as mode
use Rattle.bts_event.specs.declared.event.Event.{Event}
use Rattle.bts_event.specs.Events.{Events, completion_of, is_completion_of}
use Rattle.bts_event.specs.Refusals.{define_refusal, is_full, or_else, when}
use Rattle.bts_event.proofs.Accounts.{clear_sound}
use Rattle.bts_event.proofs.Same.{same_refl}
use Rattle.bts_tree.proofs.Paths.{parent_of_child}
use Rattle.bts_tree.specs.declared.activity.Activity.{Activity}
use Rattle.bts_tree.specs.Activities.{changed_at, ended_by, is_at_rest, stays_without, without_below}
use Rattle.bts_tree.specs.Modes.{is_mode_active, is_mode_complete, is_mode_initial, is_reset}
use Rattle.bts_tree.specs.Paths.{number_of, parent_of}
use Rattle.bts_tree.specs.Processes.{Process, activity_at, edited, removed, with_pool}
use Rattle.bts_tree.specs.Soundness.{IsSoundActivity, IsSoundInFrames, is_root}
use Rattle.bts_rows.specs.Completions.{completion_refusal, is_other, pool_of, rearmed, with_completion}
use Rattle.bts_rows.proofs.Local.{on_tree_twice}
use Rattle.bts_rows.proofs.TimerCalls.{first_none}
use Rattle.bts_rows.proofs.Changes.{Replaces, waits_named}
use Rattle.bts_rows.proofs.ChildEvents.{rearmed_event, rearmed_waits}
use Rattle.bts_rows.proofs.Cutting.{StandsAt, cut_sound, read_edited, stands_at}
use Rattle.bts_rows.proofs.FamilySound.{parent_sound}
use Rattle.bts_rows.proofs.Gone.{below_goes, no_child_stays}
use Rattle.bts_rows.proofs.Paths.{below, not_own, not_root, number_below, path_case}
use Rattle.bts_rows.proofs.Trees.{Waits}

abbrev pub reset_to : Option Name → Activity → Activity
reset_to completion = ended_by is_reset None (is_none completion)

rest_calm : (m : Mode) → (is_mode_initial m || is_mode_complete m) ≡ true → is_mode_active m ≡ false
rest_calm mode.Initial h = refl
rest_calm mode.Active h = cc
rest_calm mode.Dormant h = cc
rest_calm mode.Complete h = refl

sound_reset : (told : Bool) (a : Activity) → IsSoundActivity a → IsSoundActivity (ended_by is_reset None told a)
unfolding IsStrictlySortedBy
sound_reset told a s = record {
  status = refl;
  code = refl;
  pool = clear_sound a.pool;
  timers_rise = tt;
  timer_events = record { one_event_each = refl; timer_of_each = refl; unexpired = refl };
  containers = s.containers;
  few_children = s.few_children;
}

none_of : (o : Option Name) → is_none o ≡ true → o ≡ None
none_of None h = refl
none_of (Some n) h = cc

record SomeName (o : Option Name) : Type 0 where
  name : Name
  is_it : o ≡ Some name

some_of : (o : Option Name) → is_none o ≡ false → SomeName o
some_of None h = cc
some_of (Some n) h = record { name = n; is_it = refl }

-- where the event isn't refused, it may be defined where it doesn't stand
pub allowed : (k : ℕ) (name : Name) (es : Events) → completion_refusal k (Some name) es ≡ None → completion_of k es ≡ None
    → define_refusal name es ≡ None
allowed k name es = by (lookup name es) (completion_of k es) refl refl
  where
    other : (v : Event) (b : Bool) (r : Option Reason) → is_completion_of k v ≡ b → b ≡ false
        → cond (not (is_completion_of k v)) (Some reason.Taken) r ≡ None → ⊥
    other v b r e d h = let z : Some reason.Taken ≡ None = sym (ap (λ c. cond (not c) (Some reason.Taken) r) (e ∙ d)) ∙ h in cc

    by : (o : Option Event) (c : Option Name) → lookup name es ≡ o → completion_of k es ≡ c
        → cond (is_other k o) (Some reason.Taken) (cond (is_none c && is_full es) (Some reason.Limit) None) ≡ None
        → c ≡ None → or_else (when (is_some o) reason.Taken) (when (is_full es) reason.Limit) ≡ None
    by o (Some n) e d h g = cc
    by None None e d h g = h
    by (Some v) None e d h g = absurd (other v (is_completion_of k v) _ refl (first_none (is_completion_of k) es name v d e) h)

module _ (frames : List ActivityPath) where
  abbrev Sound : Process → Type 0
  Sound = IsSoundInFrames frames

  -- what is below goes, and the activity is as new, where its event waits already
  module _ (s : Process) (p : ActivityPath) (a : Activity) (sound : Sound s) (there : activity_at p s ≡ Some a) (rest : is_at_rest a ≡ true)
      (closed : (q : ActivityPath) → stays_without p false q ≡ false → list_any (same q) frames ≡ false)
      (armed : (q : ActivityPath) (k : ℕ) (x : Activity) → p ≡ below q k → activity_at q s ≡ Some x → Waits x k a) where
    abbrev own : StandsAt s p a
    own = stands_at frames s p a sound there

    abbrev new : Activity
    new = reset_to a.completion a

    root_told : is_root p ≡ true → is_none a.completion ≡ true
    root_told r = (own.family.first a (ap (λ z. lookup z own.tree) (sym (same_exact p [] r)) ∙ own.found)).completes

    replaces : Replaces own.tree (stays_without p false) p a new
    replaces = record {
      sound = sound_reset (is_none a.completion) a (own.family.sound p a own.found);
      name = refl;
      completion = refl;
      made = refl;
      format = refl;
      told = λ r h. root_told r;
      own = λ q k x e h n. waits_named x k a new refl (armed q k x e (ap (λ o. lookup q (unwrap_or o [])) own.is_tree ∙ h));
      waits = λ k c l h n. absurd (no_child_stays p k l);
      events = λ n k h. cc;
      stay = λ n k h. cc;
    }

    pub as_new : Sound (edited p (reset_to a.completion) (removed p false s))
    as_new =
        subst Sound (sym (on_tree_twice (changed_at p (reset_to a.completion)) (without_below p false) s))
        (cut_sound (stays_without p false) p (reset_to a.completion) (below_goes p) a frames closed
        (sym (rest_calm a.mode rest)) s sound own replaces)

  module _ (s : Process) (a : Activity) (sound : Sound s) (rest : is_at_rest a ≡ true)
      (usual : (n : Name) → a.completion ≡ Some n → same n initial_name ≡ false) where
    abbrev IsReset : ActivityPath → Option Name → Type 0
    IsReset p o = Sound (edited p (reset_to o) (removed p false (with_completion p o s)))

    abbrev Closed : ActivityPath → Type 0
    Closed p = (q : ActivityPath) → stays_without p false q ≡ false → list_any (same q) frames ≡ false

    root_reset : activity_at [] s ≡ Some a → Closed [] → IsReset [] a.completion
    root_reset there closed =
        let w = stands_at frames s [] a sound there in
        let none = none_of a.completion (w.family.first a w.found).completes in
        subst (IsReset []) (sym none)
        (subst (λ o. Sound (edited [] (reset_to o) (removed [] false s))) none
        (as_new s [] a sound there rest closed (λ q k x e h. absurd (true≢false (ap is_root e ∙ not_root q k)))))

    module _ (q : ActivityPath) (k : ℕ) (there : activity_at (below q k) s ≡ Some a) (name : Name) (named : a.completion ≡ Some name)
        (y : Activity) (stands : activity_at q s ≡ Some y)
        (refusal : completion_refusal k (Some name) y.pool.events ≡ None) where
      abbrev parent : StandsAt s q y
      parent = stands_at frames s q y sound stands

      child : lookup (below q k) parent.tree ≡ Some a
      child = ap (λ o. lookup (below q k) (unwrap_or o [])) (sym parent.is_tree) ∙ there

      abbrev armed : Process
      armed = with_pool q (rearmed k name) s

      armed_sound : Sound armed
      armed_sound =
          parent_sound frames s q k (rearmed k name) y sound parent
          (rearmed_event parent.tree parent.family q y parent.found k a child name named (allowed k name y.pool.events refusal)
          (usual name named))

      abbrev armed_parent : Activity
      armed_parent = record y { pool = rearmed k name y.pool }

      now_armed : (r : ActivityPath) (j : ℕ) (x : Activity) → below q k ≡ below r j → activity_at r armed ≡ Some x → Waits x j a
      now_armed r j x e h =
          let path : q ≡ r = sym (parent_of_child q k) ∙ ap parent_of e ∙ parent_of_child r j in
          let number : k ≡ j = sym (number_below q k) ∙ ap number_of e ∙ number_below r j in
          let read : activity_at q armed ≡ Some armed_parent = read_edited q (λ z. record z { pool = rearmed k name z.pool }) s y stands q
          ∙ ap (λ b. cond b (Some armed_parent) (activity_at q s)) (same_refl q) in
          let is : armed_parent ≡ x = let z : Some armed_parent ≡ Some x = sym read ∙ ap (λ p. activity_at p armed) path ∙ h in cc in
          let waits : Waits armed_parent k a = rearmed_waits parent.tree parent.family q y parent.found k a child name named
          (allowed k name y.pool.events refusal) in
          subst (λ i. Waits x i a) number (subst (λ z. Waits z k a) is waits)

      still : activity_at (below q k) armed ≡ Some a
      still =
          read_edited q (λ z. record z { pool = rearmed k name z.pool }) s y stands (below q k)
          ∙ ap (λ b. cond b (Some armed_parent) (activity_at (below q k) s)) (not_own q k) ∙ there

      child_reset : Closed (below q k) → Sound (edited (below q k) (reset_to a.completion) (removed (below q k) false armed))
      child_reset closed = as_new armed (below q k) a armed_sound still rest closed now_armed

    reset_child : (q : ActivityPath) (k : ℕ) → activity_at (below q k) s ≡ Some a → Closed (below q k)
        → completion_refusal (number_of (below q k)) a.completion (pool_of (activity_at (parent_of (below q k)) s)).events ≡ None
        → IsReset (below q k) a.completion
    reset_child q k there closed refusal =
        let w = stands_at frames s (below q k) a sound there in
        let p = w.family.parents q k a w.found in
        let stands : activity_at q s ≡ Some p.parent = ap (λ o. lookup q (unwrap_or o [])) w.is_tree ∙ p.found in
        let n = some_of a.completion p.fits.completes in
        let r : completion_refusal k (Some n.name) p.parent.pool.events ≡ None =
        (λ i. completion_refusal (sym (number_below q k) i) (sym n.is_it i) (pool_of ((sym stands ∙ ap (λ z. activity_at z s) (sym (parent_of_child q k))) i)).events) ∙ refusal in
        let done = child_reset q k there n.name n.is_it p.parent stands r closed in
        subst (IsReset (below q k)) (sym n.is_it)
        (subst (λ o. Sound (edited (below q k) (reset_to o) (removed (below q k) false (with_completion (below q k) (Some n.name) s)))) n.is_it
        (subst (λ z. Sound (edited (below q k) (reset_to a.completion) (removed (below q k) false z)))
        (λ i. with_pool (sym (parent_of_child q k) i) (rearmed (sym (number_below q k) i) n.name) s) done))

    pub reset_sound : (p : ActivityPath) → activity_at p s ≡ Some a → Closed p
        → completion_refusal (number_of p) a.completion (pool_of (activity_at (parent_of p) s)).events ≡ None → IsReset p a.completion
    reset_sound p =
        path_case
        (λ z.
        activity_at z s ≡ Some a → Closed z → completion_refusal (number_of z) a.completion
        (pool_of (activity_at (parent_of z) s)).events ≡ None → IsReset z a.completion)
        (λ there closed r. root_reset there closed) reset_child p
