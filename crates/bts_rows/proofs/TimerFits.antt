-- An activity with a timer more, one less or one FORCED fits in its place.
use Rattle.std.proofs.Common.{◌≡◌, ℕ, Bool, true, false, cond, not, Option, Some, None, is_some, refl, sym, ap, subst, ◌∙◌, true≢false}
use Rattle.std.specs.Map.{keys_of}
use Rattle.std.specs.Map as map
use Rattle.std.proofs.lemmas.Map.{lookup-set_value, keys-set_value}
use Rattle.bts_names.specs.Names.{Name, same, same_exact, initial_name}
use Rattle.bts_names.specs.Named.{lookup, is_there, without}
use Rattle.bts_names.specs.declared.state.TimerStatus.{TimerStatus}
use Rattle.bts_names.specs.declared.state.TimerStatus.TheVariants as status
use Rattle.bts_event.specs.declared.event.Event.{Event}
use Rattle.bts_event.specs.declared.event.Trigger.TheVariants.{Timer}
use Rattle.bts_event.specs.Calls as calls
use Rattle.bts_event.specs.Events.{Events, event_of, is_event_of, is_fired_atomic, new_atomic}
use Rattle.bts_event.specs.Pool.{defined, deleted, fired, removed, removed_at}
use Rattle.bts_event.specs.Refusals.{define_refusal}
use Rattle.bts_event.proofs.Accounts.{after_sound}
use Rattle.bts_event.proofs.Orders.{IsRising}
use Rattle.bts_event.proofs.Same.{same_laws, same_refl}
use Rattle.bts_timer.specs.declared.timer.Timer.{Timer as OneTimer}
use Rattle.bts_timer.specs.Due.{is_unexpired, is_unexpired_status}
use Rattle.bts_timer.specs.Timers.{Timers, set_where_there, started, with_status}
use Rattle.bts_tree.specs.declared.activity.Activity.{Activity}
use Rattle.bts_tree.specs.Soundness.{IsSoundActivity}
use Rattle.bts_rows.specs.Timing.{fired_if, removed_if, with_forced, with_timer, without_timer}
use Rattle.bts_rows.proofs.Keeps.{Keeps, is_owned, is_picked}
use Rattle.bts_rows.proofs.InPlace.{FitsIn}
use Rattle.bts_rows.proofs.Ordered as ordered
use Rattle.bts_rows.proofs.OwnedEvents.{gone, may_fire, not_composite, read_new, read_own, unpicked_from}
use Rattle.bts_rows.proofs.PoolKeeps.{define_free, keeps_defined, keeps_deleted, keeps_firing, picked-firing}
use Rattle.bts_rows.proofs.TimerCalls.{first_at, first_none, others, picked_from, trigger_from}
use Rattle.bts_rows.proofs.TimerEvents.{HasEvent, fires_from, found_from, trigger_at}
use Rattle.bts_rows.proofs.Fits.{fit_now, fits_timers, sound_define, sound_fire}

-- ---- a new timer

module _ (t e : Name) (due : ℕ) (a : Activity) (s : IsSoundActivity a) (no_timer : is_there t a.timers ≡ false) (no_event : define_refusal e a.pool.events ≡ None) (named : same e initial_name ≡ false) where
  abbrev new : OneTimer
  new = record { due = due; status = status.Unexpired }

  abbrev behind : Events
  behind = (defined e (new_atomic (Timer t)) a.pool).events

  new_only : (b : Bool) (n : Name) → same e n ≡ b → trigger_at (cond b (Some (new_atomic (Timer t))) (lookup n a.pool.events)) ≡ Some (Timer t) → n ≡ e
  new_only true n d h = sym (same_exact e n d)
  new_only false n d h = absurd (true≢false (sym ((fit_now a s).has_timer n t h) ∙ no_timer))

  is_new : (n : Name) → trigger_at (lookup n behind) ≡ Some (Timer t) → n ≡ e
  is_new n h = new_only (same e n) n refl (sym (ap trigger_at (read_new e (Timer t) a.pool n)) ∙ h)

  new_unpicked : is_picked (others t) (Some (new_atomic (Timer t))) ≡ false
  new_unpicked = ap (λ b. is_some (cond (not b) (Some (Timer t)) None)) (same_refl t)

  pub fits_timer : FitsIn a (with_timer t e due a)
  fits_timer =
      fits_timers a s t (Some new) (started t due a.timers) (defined e (new_atomic (Timer t)) a.pool) (sound_define e (Timer t) a.pool s.pool no_event named)
      (ordered.rising_in_order a.timers t new s.timers_rise)
      (λ u. ordered.lookup-in_order a.timers t new u)
      (keeps_defined (others t) e (new_atomic (Timer t)) a.pool (define_free e a.pool.events no_event) new_unpicked)
      (record {
        has_event = λ x h. record { name = e; fires = ap trigger_at (read_own e (Timer t) a.pool) };
        one_event = λ n m h g. is_new n h ∙ sym (is_new m g);
        has_timer = λ n h. refl;
        unexpired = λ n x h g u. ap (λ m. is_fired_atomic (lookup m behind)) (is_new n h) ∙ ap is_fired_atomic (read_own e (Timer t) a.pool);
      })

-- ---- the event of a timer

-- the event that a timer fires, as it stands in its pool
pub record TimersEvent (t : Name) (a : Activity) : Type 0 where
  pub name : Name
  pub value : Event
  pub is_its : event_of t a.pool.events ≡ Some name
  pub found : lookup name a.pool.events ≡ Some value
  pub fires : trigger_at (lookup name a.pool.events) ≡ Some (Timer t)

event_case : (o : Option Name) (t : Name) (a : Activity) → event_of t a.pool.events ≡ o → IsRising (keys_of a.pool.events) → HasEvent t a.pool.events → TimersEvent t a
event_case None t a e s h =
    let f = found_from h.name t a.pool.events h.fires in
    absurd (true≢false (sym f.is_its ∙ first_none (is_event_of t) a.pool.events h.name f.value e f.found))
event_case (Some n) t a e s h =
    let f = first_at (is_event_of t) a.pool.events n s e in
    record { name = n; value = f.value; is_its = e; found = f.found; fires = ap trigger_at f.found ∙ fires_from f.value t f.passed }

module _ (t : Name) (x : OneTimer) (a : Activity) (s : IsSoundActivity a) (there : lookup t a.timers ≡ Some x) where
  event : TimersEvent t a
  event = event_case (event_of t a.pool.events) t a refl (s.pool).events.ordered ((fit_now a s).has_event t x there)

  own_unpicked : is_picked (others t) (lookup event.name a.pool.events) ≡ false
  own_unpicked = unpicked_from (others t) (lookup event.name a.pool.events) (Timer t) event.fires (ap not (same_refl t))

  -- ---- a timer and its event go

  only : (n : Name) → trigger_at (lookup n a.pool.events) ≡ Some (Timer t) → n ≡ event.name
  only n h = (fit_now a s).one_event n event.name t h event.fires

  removed_is : removed event.name a.pool ≡ deleted event.name a.pool
  removed_is = ap (λ o. removed_at o event.name a.pool) event.found

  gone_away : (n : Name) → trigger_at (lookup n (removed event.name a.pool).events) ≡ Some (Timer t) → ⊥
  gone_away n h = gone event.name (Timer t) a.pool s.pool refl only n (sym (ap (λ p. trigger_at (lookup n p.events)) removed_is) ∙ h)

  fits_removed : let b : Activity = record a { pool = removed event.name a.pool; timers = without t a.timers } in FitsIn a b
  fits_removed =
      fits_timers a s t None (without t a.timers) (removed event.name a.pool)
      (after_sound (calls.remove event.name) a.pool (not_composite (lookup event.name a.pool.events) (Timer t) event.fires) s.pool)
      (ordered.rising_without a.timers t s.timers_rise)
      (λ u. ordered.lookup-without a.timers t u s.timers_rise)
      (subst (λ p. Keeps (others t) a.pool.events p.events) (sym removed_is) (keeps_deleted (others t) event.name a.pool (s.pool).events.ordered own_unpicked))
      (record {
        has_event = λ y h. cc;
        one_event = λ n m h g. absurd (gone_away n h);
        has_timer = λ n h. absurd (gone_away n h);
        unexpired = λ n y h g u. cc;
      })

  pub fits_without : FitsIn a (without_timer t a)
  fits_without = subst (λ o. let b : Activity = record a { pool = removed_if o a.pool; timers = without t a.timers } in FitsIn a b) (sym event.is_its) fits_removed

  -- ---- a timer ends, forced or expired

  module _ (unexpired : is_unexpired x ≡ true) (to : TimerStatus) (is_end : is_unexpired_status to ≡ false) where
    abbrev over : OneTimer
    over = record { due = x.due; status = to }

    abbrev ended : Timers
    ended = map.set_value (same t) a.timers over

    abbrev behind_firing : Events
    behind_firing = (fired event.name a.pool).events

    same_trigger : (n : Name) → trigger_at (lookup n behind_firing) ≡ Some (Timer t) → trigger_at (lookup n a.pool.events) ≡ Some (Timer t)
    same_trigger n h = trigger_from is_owned (lookup n a.pool.events) (Timer t) (sym (picked-firing is_owned event.name a.pool n) ∙ picked_from is_owned (lookup n behind_firing) (Timer t) h refl)

    still_fires : trigger_at (lookup event.name behind_firing) ≡ Some (Timer t)
    still_fires = trigger_from is_owned (lookup event.name behind_firing) (Timer t) (picked-firing is_owned event.name a.pool event.name ∙ picked_from is_owned (lookup event.name a.pool.events) (Timer t) event.fires refl)

    unfired : is_fired_atomic (lookup event.name a.pool.events) ≡ false
    unfired = (fit_now a s).unexpired event.name t x event.fires there unexpired

    fits_fired : let b : Activity = record a { pool = fired event.name a.pool; timers = ended } in FitsIn a b
    fits_fired =
        fits_timers a s t (Some over) ended (fired event.name a.pool)
        (sound_fire event.name a.pool s.pool (may_fire (lookup event.name a.pool.events) (Timer t) event.fires unfired))
        (subst IsRising (sym (keys-set_value (same t) a.timers over)) s.timers_rise)
        (λ u. lookup-set_value same_laws (same t) (λ y z e. ap (λ n. same n z) (same_exact t y e)) u over a.timers (ap is_some there))
        (keeps_firing (others t) event.name a.pool own_unpicked)
        (record {
          has_event = λ y h. record { name = event.name; fires = still_fires };
          one_event = λ n m h g. (fit_now a s).one_event n m t (same_trigger n h) (same_trigger m g);
          has_timer = λ n h. refl;
          unexpired = λ n y h g u. let q : over ≡ y = cc in absurd (true≢false (sym u ∙ ap is_unexpired (sym q) ∙ is_end));
        })

    pub fits_ended : let b : Activity = record a { pool = fired_if (event_of t a.pool.events) a.pool; timers = with_status to t a.timers } in FitsIn a b
    fits_ended =
        subst (λ o. let b : Activity = record a { pool = fired_if o a.pool; timers = with_status to t a.timers } in FitsIn a b) (sym event.is_its)
        (subst (λ o. let b : Activity = record a { pool = fired event.name a.pool; timers = set_where_there to t a.timers o } in FitsIn a b) (sym there) fits_fired)

  pub fits_forced : is_unexpired x ≡ true → FitsIn a (with_forced t a)
  fits_forced unexpired = fits_ended unexpired status.Forced refl
