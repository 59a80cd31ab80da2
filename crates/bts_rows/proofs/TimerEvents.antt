-- The timers of an activity and their events, as they are read under their names.
use Rattle.std.proofs.Common.{◌≡◌, Bool, true, false, not, ◌||◌, Option, Some, None, is_some, count_by, nat_eq, refl, sym, ap, ◌∙◌}
use Rattle.std.specs.List.{list_all, list_any}
use Rattle.std.specs.Map.{keys_of}
use Rattle.std.proofs.lemmas.Bool.{eqb-true, eq-eqb}
use Rattle.bts_names.specs.Names.{Name, same, same_exact}
use Rattle.bts_names.specs.Named.{lookup, is_there}
use Rattle.bts_event.specs.declared.event.Event.{Event}
use Rattle.bts_event.specs.declared.event.Event.TheVariants.{Atomic as atomic, Composite as composite}
use Rattle.bts_event.specs.declared.event.Trigger.{Trigger}
use Rattle.bts_event.specs.declared.event.Trigger.TheVariants.{Input, Completion, Timer}
use Rattle.bts_event.specs.Events.{Events, is_event_of, is_fired_atomic}
use Rattle.bts_event.proofs.Orders.{IsRising}
use Rattle.bts_event.proofs.Same.{same_refl}
use Rattle.bts_timer.specs.declared.timer.Timer.{Timer as OneTimer}
use Rattle.bts_timer.specs.Due.{is_unexpired}
use Rattle.bts_timer.specs.Timers.{Timers}
use Rattle.bts_tree.specs.declared.activity.Activity.{Activity}
use Rattle.bts_tree.specs.Soundness.{HasTimerEvents, is_fired, is_timer_event}
use Rattle.bts_rows.proofs.Entries.{HasOne, all_at, all_from, any_at, any_from, one_at, one_from}

-- what fires the event under a name, if it is atomic
abbrev pub trigger_at : Option Event → Option Trigger
trigger_at None = None
trigger_at (Some (composite c)) = None
trigger_at (Some (atomic a)) = Some a.trigger

pub record HasEvent (t : Name) (es : Events) : Type 0 where
  pub name : Name
  pub fires : trigger_at (lookup name es) ≡ Some (Timer t)

-- the timers and the events of an activity fit together
pub record TimersFit (timers : Timers) (es : Events) : Type 0 where
  pub has_event : (t : Name) (x : OneTimer) → lookup t timers ≡ Some x → HasEvent t es
  pub one_event : (n m t : Name) → trigger_at (lookup n es) ≡ Some (Timer t) → trigger_at (lookup m es) ≡ Some (Timer t) → n ≡ m
  pub has_timer : (n t : Name) → trigger_at (lookup n es) ≡ Some (Timer t) → is_there t timers ≡ true
  pub unexpired : (n t : Name) (x : OneTimer) → trigger_at (lookup n es) ≡ Some (Timer t) → lookup t timers ≡ Some x → is_unexpired x ≡ true → is_fired_atomic (lookup n es) ≡ false

-- ---- one event

abbrev is_trigger_of : Name → Trigger → Bool
is_trigger_of t tr = elim tr [ Input ↦ false | Completion n ↦ false | Timer u ↦ same u t ]

trigger_case : (tr : Trigger) (t : Name) → is_trigger_of t tr ≡ true → Some tr ≡ Some (Timer t)
trigger_case Input t h = cc
trigger_case (Completion n) t h = cc
trigger_case (Timer u) t h = ap (λ x. Some (Timer x)) (same_exact u t h)

pub fires_from : (v : Event) (t : Name) → is_event_of t v ≡ true → trigger_at (Some v) ≡ Some (Timer t)
fires_from (atomic a) t h = trigger_case a.trigger t h
fires_from (composite c) t h = cc

pub is_event_from : (v : Event) (t : Name) → trigger_at (Some v) ≡ Some (Timer t) → is_event_of t v ≡ true
is_event_from (atomic a) t h = let e : a.trigger ≡ Timer t = cc in ap (is_trigger_of t) e ∙ same_refl t
is_event_from (composite c) t h = cc

is_timer_from : (v : Event) (t : Name) → trigger_at (Some v) ≡ Some (Timer t) → is_timer_event v ≡ true
is_timer_from (atomic a) t h = let e : a.trigger ≡ Timer t = cc in ap (λ tr. elim tr [ Input ↦ false | Completion n ↦ false | Timer u ↦ true ]) e
is_timer_from (composite c) t h = cc

-- an event that is there, as it is found
pub record Found (n t : Name) (es : Events) : Type 0 where
  pub value : Event
  pub found : lookup n es ≡ Some value
  pub is_its : is_event_of t value ≡ true

found_case : (o : Option Event) (n t : Name) (es : Events) → lookup n es ≡ o → trigger_at o ≡ Some (Timer t) → Found n t es
found_case None n t es e h = cc
found_case (Some v) n t es e h = record { value = v; found = e; is_its = is_event_from v t h }

pub found_from : (n t : Name) (es : Events) → trigger_at (lookup n es) ≡ Some (Timer t) → Found n t es
found_from n t es h = found_case (lookup n es) n t es refl h

-- ---- from what a sound activity has

pub there_case : {X : Type 0} (P : Type 0) (o : Option X) → is_some o ≡ true → ((x : X) → o ≡ Some x → P) → P
there_case P None h f = cc
there_case P (Some x) h f = f x refl

pub or_true : (a b : Bool) → a ≡ true → (not a || b) ≡ true → b ≡ true
or_true true b e h = h
or_true false b e h = cc

pub not_so : (b : Bool) → not b ≡ true → b ≡ false
not_so true h = cc
not_so false h = refl

module _ (a : Activity) (timers_rise : IsRising (keys_of a.timers)) (events_rise : IsRising (keys_of a.pool.events)) where
  module _ (h : HasTimerEvents a) where
    one_of : (t : Name) (x : OneTimer) → lookup t a.timers ≡ Some x → HasOne (λ e. is_event_of t e.1) a.pool.events
    one_of t x k =
        one_at (λ e. is_event_of t e.1) a.pool.events events_rise
        (eqb-true _ _ (all_at (λ (y : Name × OneTimer). nat_eq (count_by (λ e. is_event_of y.0 e.1) a.pool.events) 1) a.timers t x h.one_event_each k))

    timer_of : (n t : Name) → trigger_at (lookup n a.pool.events) ≡ Some (Timer t) → is_there t a.timers ≡ true
    timer_of n t k =
        let f = found_from n t a.pool.events k in
        let some = or_true (is_timer_event f.value) _ (is_timer_from f.value t (ap trigger_at (sym f.found) ∙ k))
        (all_at (λ (e : Name × Event). not (is_timer_event e.1) || list_any (λ (y : Name × OneTimer). is_event_of y.0 e.1) a.timers) a.pool.events n f.value h.timer_of_each f.found) in
        let p = any_at (λ (y : Name × OneTimer). is_event_of y.0 f.value) a.timers timers_rise some in
        let e : Timer p.name ≡ Timer t = let l = fires_from f.value p.name p.passed in let r = ap trigger_at (sym f.found) ∙ k in cc in
        let q : p.name ≡ t = cc in
        ap is_some (ap (λ m. lookup m a.timers) (sym q) ∙ p.found)

    pub timers_fit : TimersFit a.timers a.pool.events
    timers_fit = record {
      has_event = λ t x k. let o = one_of t x k in record { name = o.one.name; fires = ap trigger_at o.one.found ∙ fires_from o.one.value t o.one.passed };
      one_event = λ n m t k l.
          there_case (n ≡ m) (lookup t a.timers) (timer_of n t k) (λ x there.
          let o = one_of t x there in
          let f = found_from n t a.pool.events k in
          let g = found_from m t a.pool.events l in
          o.only n f.value f.found f.is_its ∙ sym (o.only m g.value g.found g.is_its));
      has_timer = timer_of;
      unexpired = λ n t x k there u.
          let f = found_from n t a.pool.events k in
          let all = or_true (is_unexpired x) _ u
          (all_at (λ (y : Name × OneTimer). not (is_unexpired y.1) || list_all (λ e. not (is_event_of y.0 e.1) || not (is_fired e.1)) a.pool.events) a.timers t x h.unexpired there) in
          let one = or_true (is_event_of t f.value) _ f.is_its (all_at (λ (e : Name × Event). not (is_event_of t e.1) || not (is_fired e.1)) a.pool.events n f.value all f.found) in
          ap is_fired_atomic f.found ∙ not_so (is_fired f.value) one;
    }

-- ---- and back

pub if_so : (b c : Bool) → (b ≡ true → c ≡ true) → (not b || c) ≡ true
if_so true c f = f refl
if_so false c f = refl

pub so_not : (b : Bool) → b ≡ false → not b ≡ true
so_not b h = rw h

pub record IsTimers (v : Event) : Type 0 where
  pub timer : Name
  pub fires : trigger_at (Some v) ≡ Some (Timer timer)

timers_case : (tr : Trigger) (b : Bool) → elim tr [ Input ↦ false | Completion n ↦ false | Timer t ↦ true ] ≡ true → IsTimers (atomic (record { trigger = tr; fired = b }))
timers_case Input b h = cc
timers_case (Completion n) b h = cc
timers_case (Timer t) b h = record { timer = t; fires = refl }

is_timers : (v : Event) → is_timer_event v ≡ true → IsTimers v
is_timers (atomic a) h = timers_case a.trigger a.fired h
is_timers (composite c) h = cc

module _ (a : Activity) (timers_rise : IsRising (keys_of a.timers)) (events_rise : IsRising (keys_of a.pool.events)) (f : TimersFit a.timers a.pool.events) where
  one_event_of : (t : Name) (x : OneTimer) → lookup t a.timers ≡ Some x → HasOne (λ e. is_event_of t e.1) a.pool.events
  one_event_of t x k =
      let e = f.has_event t x k in
      let g = found_from e.name t a.pool.events e.fires in
      record {
        one = record { name = e.name; value = g.value; found = g.found; passed = g.is_its };
        only = λ n v l p. f.one_event n e.name t (ap trigger_at l ∙ fires_from v t p) e.fires;
      }

  pub has_timer_events : HasTimerEvents a
  has_timer_events = record {
    one_event_each = all_from (λ (y : Name × OneTimer). nat_eq (count_by (λ e. is_event_of y.0 e.1) a.pool.events) 1) a.timers timers_rise
        (λ t x k. eq-eqb _ _ (one_from (λ (e : Name × Event). is_event_of t e.1) a.pool.events events_rise (one_event_of t x k)));
    timer_of_each = all_from (λ (e : Name × Event). not (is_timer_event e.1) || list_any (λ (y : Name × OneTimer). is_event_of y.0 e.1) a.timers) a.pool.events events_rise
        (λ n v k. if_so (is_timer_event v) _ (λ h.
        let y = is_timers v h in
        there_case (list_any (λ (z : Name × OneTimer). is_event_of z.0 v) a.timers ≡ true) (lookup y.timer a.timers) (f.has_timer n y.timer (ap trigger_at k ∙ y.fires))
        (λ x there. any_from (λ (z : Name × OneTimer). is_event_of z.0 v) a.timers y.timer x there (is_event_from v y.timer y.fires))));
    unexpired = all_from (λ (y : Name × OneTimer). not (is_unexpired y.1) || list_all (λ e. not (is_event_of y.0 e.1) || not (is_fired e.1)) a.pool.events) a.timers timers_rise
        (λ t x there. if_so (is_unexpired x) _ (λ u.
        all_from (λ (e : Name × Event). not (is_event_of t e.1) || not (is_fired e.1)) a.pool.events events_rise
        (λ n v k. if_so (is_event_of t v) _ (λ its. so_not (is_fired v) (sym (ap is_fired_atomic k) ∙ f.unexpired n t x (ap trigger_at k ∙ fires_from v t its) there u)))));
  }
