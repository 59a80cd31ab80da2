-- In a sound process no event is fired before its timer, and FORCE TIMER may fire it.
use Rattle.std.proofs.Common.{◌≡◌, Bool, true, false, ◌&&◌, not, List, [], ◌∷◌, Option, Some, None, unwrap_or, refl, sym, ap, ◌∙◌}
use Rattle.std.specs.List.{list_all, AllByRecursion}
use Rattle.std.specs.Map.{keys_of}
use Rattle.bts_names.specs.Names.{Name, ActivityPath}
use Rattle.bts_names.specs.Named.{lookup}
use Rattle.bts_event.specs.declared.event.Event.{Event}
use Rattle.bts_event.specs.declared.event.Event.TheVariants.{Atomic as atomic, Composite as composite}
use Rattle.bts_event.specs.declared.event.Trigger.{Trigger}
use Rattle.bts_event.specs.declared.event.Trigger.TheVariants.{Input, Completion, Timer}
use Rattle.bts_event.specs.Events.{Events, event_of, is_event_of}
use Rattle.bts_event.specs.Refusals.{fire_refusal, fire_refusal_of}
use Rattle.bts_event.proofs.Orders.{IsRising}
use Rattle.bts_timer.specs.declared.timer.Timer.{Timer as OneTimer}
use Rattle.bts_timer.specs.Due.{is_unexpired}
use Rattle.bts_timer.specs.Timers.{Timers, is_unexpired_one}
use Rattle.bts_tree.specs.declared.activity.Activity.{Activity}
use Rattle.bts_tree.specs.Activities.{Activities}
use Rattle.bts_tree.specs.Processes.{Process, activities, activity_at}
use Rattle.bts_tree.specs.Soundness.{IsSoundActivity, IsSoundInFrames, IsSoundUnder}
use Rattle.bts_rows.proofs.Entries.{all_at, all_from, both_so}
use Rattle.bts_rows.proofs.Fits.{fit_now}
use Rattle.bts_rows.proofs.TimerCalls.{first_at}
use Rattle.bts_rows.proofs.TimerEvents.{TimersFit, fires_from, trigger_at}
use Rattle.bts_act.specs.Early.{has_none_early, is_early, none_early, waits_for}

-- ---- a sound process

no_timer : (b : Bool) → not (b && false) ≡ true
no_timer true = refl
no_timer false = refl

module _ (timers : Timers) (es : Events) (f : TimersFit timers es) (n : Name) where
  late_case : (t : Name) (b : Bool) (o : Option OneTimer) → lookup n es ≡ Some (atomic (record { trigger = Timer t; fired = b })) → lookup t timers ≡ o → not (b && is_unexpired_one o) ≡ true
  late_case t b None e h = no_timer b
  late_case t b (Some x) e h = by b (is_unexpired x) (λ u. sym (ap fired_of e) ∙ f.unexpired n t x (ap trigger_at e) h u)
    where
      fired_of : Option Event → Bool
      fired_of None = false
      fired_of (Some (atomic a)) = a.fired
      fired_of (Some (composite c)) = false

      by : (b c : Bool) → (c ≡ true → b ≡ false) → not (b && c) ≡ true
      by true true g = sym (g refl)
      by true false g = refl
      by false c g = refl

  trigger_case : (t : Trigger) (b : Bool) → lookup n es ≡ Some (atomic (record { trigger = t; fired = b })) → not (b && waits_for timers t) ≡ true
  trigger_case Input b e = no_timer b
  trigger_case (Completion k) b e = no_timer b
  trigger_case (Timer t) b e = late_case t b (lookup t timers) e refl

  event_late : (v : Event) → lookup n es ≡ Some v → not (is_early timers v) ≡ true
  event_late (atomic a) e = trigger_case a.trigger a.fired e
  event_late (composite c) e = refl

activity_late : (a : Activity) → IsSoundActivity a → has_none_early a ≡ true
activity_late a s = all_from (λ e. not (is_early a.timers e.1)) a.pool.events (s.pool).events.ordered (event_late a.timers a.pool.events (fit_now a s))

tree_late : (t : Activities) → AllByRecursion (λ x. IsSoundActivity x.1) t → list_all (λ x. has_none_early x.1) t ≡ true
tree_late [] h = refl
tree_late (x ∷ t) h = both_so _ _ (activity_late x.1 h.0) (tree_late t h.1)

under_late : (s : Process) (o : Option Activities) → IsSoundUnder s o → list_all (λ x. has_none_early x.1) (unwrap_or o []) ≡ true
under_late s None u = refl
under_late s (Some t) u = tree_late t u.0.activities

pub sound_none_early : (frames : List ActivityPath) (s : Process) → IsSoundInFrames frames s → none_early s ≡ true
sound_none_early frames s sound = under_late s s.tree sound.tree

-- ---- the event of an UNEXPIRED timer

unfired_case : (b c : Bool) → not (b && c) ≡ true → c ≡ true → b ≡ false
unfired_case true true h u = cc
unfired_case true false h u = cc
unfired_case false c h u = refl

may_fire : (timers : Timers) (v : Event) (t : Name) (x : OneTimer) → trigger_at (Some v) ≡ Some (Timer t) → not (is_early timers v) ≡ true → lookup t timers ≡ Some x → is_unexpired x ≡ true → fire_refusal_of (Some v) ≡ None
may_fire timers (composite c) t x g h there u = cc
may_fire timers (atomic a) t x g h there u =
    let e : a.trigger ≡ Timer t = cc in
    let f = unfired_case a.fired (waits_for timers a.trigger) h (ap (waits_for timers) e ∙ ap is_unexpired_one there ∙ u) in
    rw f

pub event_may_fire : (a : Activity) (t n : Name) (x : OneTimer) → IsRising (keys_of a.pool.events) → has_none_early a ≡ true → lookup t a.timers ≡ Some x → is_unexpired x ≡ true → event_of t a.pool.events ≡ Some n
    → fire_refusal n a.pool.events ≡ None
event_may_fire a t n x rise early there u e =
    let f = first_at (is_event_of t) a.pool.events n rise e in
    ap fire_refusal_of f.found ∙ may_fire a.timers f.value t x (fires_from f.value t f.passed)
    (all_at (λ y. not (is_early a.timers y.1)) a.pool.events n f.value early f.found) there u

-- the same, where all that is known of the timer is that it is UNEXPIRED
pub event_may_fire_unexpired : (a : Activity) (t n : Name) → IsRising (keys_of a.pool.events) → has_none_early a ≡ true → is_unexpired_one (lookup t a.timers) ≡ true → event_of t a.pool.events ≡ Some n
    → fire_refusal n a.pool.events ≡ None
event_may_fire_unexpired a t n rise early u e = by (lookup t a.timers) refl u
  where
    by : (o : Option OneTimer) → lookup t a.timers ≡ o → is_unexpired_one o ≡ true → fire_refusal n a.pool.events ≡ None
    by None there h = cc
    by (Some x) there h = event_may_fire a t n x rise early there h e

-- ---- one activity of a process

pub activity_none_early : (p : ActivityPath) (s : Process) (a : Activity) → activity_at p s ≡ Some a → none_early s ≡ true → has_none_early a ≡ true
activity_none_early p s a h early = all_at (λ x. has_none_early x.1) (activities s) p a early h
