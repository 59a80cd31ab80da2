-- An activity whose events, timers or containers a command changed fits in its place.
use Rattle.std.proofs.Common.{◌≡◌, Bool, true, false, cond, Option, None, refl, ap, subst}
use Rattle.std.specs.Map.{keys_of}
use Rattle.bts_names.specs.Names.{Name, same, initial_name}
use Rattle.bts_names.specs.Named.{lookup}
use Rattle.bts_names.specs.declared.reply.Reason.{Reason}
use Rattle.bts_container.specs.Containers.{Containers, IsPool}
use Rattle.bts_event.specs.declared.event.Trigger.{Trigger}
use Rattle.bts_event.specs.declared.event.Trigger.TheVariants.{Input, Completion, Timer}
use Rattle.bts_event.specs.Calls as calls
use Rattle.bts_event.specs.Events.{new_atomic}
use Rattle.bts_event.specs.Pool.{Pool, defined, fired}
use Rattle.bts_event.specs.Refusals.{define_refusal, fire_refusal}
use Rattle.bts_event.specs.Sound.{IsSoundPool}
use Rattle.bts_event.proofs.Accounts.{after_sound}
use Rattle.bts_event.proofs.Orders.{IsRising}
use Rattle.bts_timer.specs.declared.timer.Timer.{Timer as OneTimer}
use Rattle.bts_timer.specs.Timers.{Timers}
use Rattle.bts_tree.specs.declared.activity.Activity.{Activity}
use Rattle.bts_tree.specs.Soundness.{IsSoundActivity}
use Rattle.bts_rows.proofs.Keeps.{Keeps, is_owned, keeps_less, keeps_same}
use Rattle.bts_rows.proofs.InPlace.{FitsIn, is_childs}
use Rattle.bts_rows.proofs.TimerCalls.{OwnFit, fit_but, fit_keeps, others}
use Rattle.bts_rows.proofs.TimerEvents.{TimersFit, has_timer_events, timers_fit}

owned_childs : (t : Trigger) → is_childs t ≡ true → is_owned t ≡ true
owned_childs Input h = cc
owned_childs (Completion n) h = refl
owned_childs (Timer t) h = refl

others_childs : (u : Name) (t : Trigger) → is_childs t ≡ true → others u t ≡ true
others_childs u Input h = cc
others_childs u (Completion n) h = refl
others_childs u (Timer t) h = cc

module _ (a : Activity) (s : IsSoundActivity a) where
  pub fit_now : TimersFit a.timers a.pool.events
  fit_now = timers_fit a s.timers_rise (s.pool).events.ordered s.timer_events

  -- the events are others
  pub fits_pool : (pool : Pool) → IsSoundPool pool → Keeps is_owned a.pool.events pool.events → let b : Activity = record a { pool = pool } in FitsIn a b
  fits_pool pool sound k =
      let b : Activity = record a { pool = pool } in
      record {
        sound = record {
          status = s.status;
          code = s.code;
          pool = sound;
          timers_rise = s.timers_rise;
          timer_events = has_timer_events b s.timers_rise sound.events.ordered (fit_keeps is_owned (λ t. refl) a.timers a.pool.events pool.events k fit_now);
          containers = s.containers;
          few_children = s.few_children;
        };
        name = refl;
        completion = refl;
        mode = refl;
        told = refl;
        made = refl;
        format = refl;
        events = keeps_less is_owned is_childs owned_childs a.pool.events pool.events k;
      }

  -- the containers are others
  pub fits_containers : (containers : Containers) → IsPool containers → containers.format ≡ a.containers.format
      → let b : Activity = record a { containers = containers } in FitsIn a b
  fits_containers containers p format =
      let b : Activity = record a { containers = containers } in
      let e = s.timer_events in
      record {
        sound = record {
          status = s.status;
          code = s.code;
          pool = s.pool;
          timers_rise = s.timers_rise;
          timer_events = record { one_event_each = e.one_event_each; timer_of_each = e.timer_of_each; unexpired = e.unexpired };
          containers = p;
          few_children = s.few_children;
        };
        name = refl;
        completion = refl;
        mode = refl;
        told = refl;
        made = refl;
        format = format;
        events = keeps_same is_childs a.pool.events;
      }

  -- it is suspended, or not
  pub fits_suspended : (to : Bool) → let b : Activity = record a { suspended = to } in FitsIn a b
  fits_suspended to =
      let b : Activity = record a { suspended = to } in
      let e = s.timer_events in
      record {
        sound = record {
          status = s.status;
          code = s.code;
          pool = s.pool;
          timers_rise = s.timers_rise;
          timer_events = record { one_event_each = e.one_event_each; timer_of_each = e.timer_of_each; unexpired = e.unexpired };
          containers = s.containers;
          few_children = s.few_children;
        };
        name = refl;
        completion = refl;
        mode = refl;
        told = refl;
        made = refl;
        format = refl;
        events = keeps_same is_childs a.pool.events;
      }

  -- one timer and its event are others
  pub fits_timers : (t : Name) (new : Option OneTimer) (timers : Timers) (pool : Pool) → IsSoundPool pool → IsRising (keys_of timers)
      → ((u : Name) → lookup u timers ≡ cond (same t u) new (lookup u a.timers)) → Keeps (others t) a.pool.events pool.events → OwnFit t new pool.events
      → let b : Activity = record a { pool = pool; timers = timers } in FitsIn a b
  fits_timers t new timers pool sound rise found k own =
      let b : Activity = record a { pool = pool; timers = timers } in
      record {
        sound = record {
          status = s.status;
          code = s.code;
          pool = sound;
          timers_rise = rise;
          timer_events = has_timer_events b rise sound.events.ordered (fit_but a.timers timers a.pool.events pool.events t new found k fit_now own);
          containers = s.containers;
          few_children = s.few_children;
        };
        name = refl;
        completion = refl;
        mode = refl;
        told = refl;
        made = refl;
        format = refl;
        events = keeps_less (others t) is_childs (others_childs t) a.pool.events pool.events k;
      }

-- ---- a call that isn't refused

pub unless_none : (o : Option Reason) (after before : Pool) → o ≡ None → calls.unless o after before ≡ after
unless_none o after before h = ap (λ x. calls.unless x after before) h

pub sound_define : (n : Name) (t : Trigger) (p : Pool) → IsSoundPool p → define_refusal n p.events ≡ None → same n initial_name ≡ false → IsSoundPool (defined n (new_atomic t) p)
sound_define n t p s r o = subst IsSoundPool (unless_none (define_refusal n p.events) (defined n (new_atomic t) p) p r) (after_sound (calls.define n t) p o s)

pub sound_fire : (n : Name) (p : Pool) → IsSoundPool p → fire_refusal n p.events ≡ None → IsSoundPool (fired n p)
sound_fire n p s r = subst IsSoundPool (unless_none (fire_refusal n p.events) (fired n p) p r) (after_sound (calls.fire n) p tt s)
