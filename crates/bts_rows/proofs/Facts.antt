-- What each row does to containers, or to the activity that it is about: one fact a row.
use Rattle.std.proofs.Common.{◌≡◌, ◌≤◌, ℕ, Bool, true, false, cond, not, ◌&&◌, nat_le, List, [], length, Option, Some, None, Ok, is_some, is_none, unwrap_or, refl, sym, subst, ◌∙◌, true≢false, arith}
use Rattle.bts_names.specs.Names.{Name, Bytes, same, initial_name}
use Rattle.bts_names.specs.Named.{lookup, is_there}
use Rattle.bts_names.specs.Answer.{Answer}
use Rattle.bts_names.specs.declared.reply.Resp.TheVariants as resp
use Rattle.bts_names.specs.declared.reply.Reason.{Reason}
use Rattle.bts_names.specs.declared.reply.Reason.TheVariants as reason
use Rattle.bts_names.specs.declared.reply.Value.{Value}
use Rattle.bts_names.specs.declared.reply.Value.TheVariants as value
use Rattle.bts_names.specs.declared.state.TimerStatus.{TimerStatus}
use Rattle.bts_command.specs.Given.{IsGiven}
use Rattle.bts_command.specs.Sizes.{got_bytes}
use Rattle.bts_command.specs.declared.command.Command.{Command}
use Rattle.bts_command.specs.declared.command.Command.TheVariants as command
use Rattle.bts_command.specs.declared.command.Due.{Due}
use Rattle.bts_container.specs.Containers.{Containers, IsPool, is_long, has_no_room}
use Rattle.bts_event.specs.Calls as calls
use Rattle.bts_event.specs.Events.{Events, event_of, new_atomic, new_composite}
use Rattle.bts_event.specs.declared.event.Trigger.TheVariants.{Input, Timer}
use Rattle.bts_event.specs.Pool.{Pool, defined, deleted, first_entry, next_subevent, retrieved, subevent_added, subevent_removed, subevent_retrieved, test_of}
use Rattle.bts_event.specs.Refusals as refusals
use Rattle.bts_event.specs.Sound.{IsSoundPool}
use Rattle.bts_event.proofs.Accounts.{after_sound}
use Rattle.bts_timer.specs.declared.timer.Timer.{Timer as OneTimer}
use Rattle.bts_timer.specs.Due.{is_unexpired_status}
use Rattle.bts_timer.specs.Timers.{force_refusal, status_or_missing}
use Rattle.bts_tree.specs.declared.activity.Activity.{Activity}
use Rattle.bts_tree.specs.Activities.{has_entries, is_complete, is_dormant, is_initial}
use Rattle.bts_tree.specs.Soundness.{IsSoundActivity}
use Rattle.bts_rows.specs.Timing.{due_at, is_past_last, without_timer}
use Rattle.bts_rows.specs.Bounds.{makes_more}
use Rattle.bts_rows.specs.Signals.{can_run, with_signal, frame_limit, input_refusal, signalled}
use Rattle.bts_rows.proofs.Allowed.{define_allowed, event_name, first_name, not_missing, running_case}
use Rattle.bts_rows.proofs.ContainerChanges.{pool_delete, pool_put}
use Rattle.bts_rows.proofs.Fits.{fits_containers, fits_pool, sound_define, unless_none, fits_suspended}
use Rattle.bts_rows.proofs.Grows.{GrowsIn, grows_in_same, none_forced, none_without}
use Rattle.bts_rows.proofs.LastNumbers.{next_signal, IsNext, next_added, next_by_call, next_composite, next_defined, next_deleted, next_fired_if, next_left, next_removed_if, next_same}
use Rattle.bts_rows.proofs.InPlace.{FitsIn}
use Rattle.bts_rows.proofs.Keeps.{Keeps, is_owned, keeps_same}
use Rattle.bts_rows.proofs.PoolKeeps.{composite_free, define_free, delete_unowned, keeps_added, keeps_defined, keeps_deleted, keeps_removed, keeps_retrieved, keeps_subevent_retrieved}
use Rattle.bts_rows.proofs.Reasons.{AreReasons, delete_case, errors_status, errors_sub, errors_test, force_case, leave_case, reasons_add, reasons_composite, reasons_define, reasons_input, reasons_not_composite}
use Rattle.bts_rows.proofs.Signals.{signal_keeps, signal_sound}
use Rattle.bts_rows.proofs.TimerFits.{fits_forced, fits_timer, fits_without}
use Rattle.bts_rows.specs.OnActivity as row
use Rattle.bts_rows.specs.OnActivity.{on_activity}
use Rattle.bts_rows.specs.OnContainers as containers
use Rattle.bts_rows.specs.OnContainers.{on_containers, on_shown}
use Rattle.bts_rows.proofs.Short.{AreShort, found}
use Rattle.bts_rows.proofs.Telling.{TellsWith, tells_for, tells_mapped, tells_more, tells_ok, tells_some, tells_when}

-- ---- what is kept

-- containers stay a pool, and in their format
abbrev pub KeepsPool : Containers → Containers → Type 0
KeepsPool x y = (IsPool x → IsPool y) × (y.format ≡ x.format)

-- an activity that a command changed fits in its place, and grows by no more than the command makes
pub record Follows (c : Command) (a b : Activity) : Type 0 where
  pub fits : IsGiven c → FitsIn a b
  pub grows : GrowsIn 1 (makes_more c) a b

abbrev pub KeepsActivity : Command → Activity → Activity → Type 0
KeepsActivity c a b = IsSoundActivity a → Follows c a b

-- what is answered has no more bytes than any of these containers
abbrev pub IsShort : Containers → Value → Type 0
IsShort x v = (m : ℕ) → AreShort m x → got_bytes v ≤ m

no_bytes : (m : ℕ) → 0 ≤ m
no_bytes m = omega arith

abbrev pub GivesPool : Containers → Value → Containers → Type 0
GivesPool x v y = IsShort x v × KeepsPool x y

abbrev pub GivesActivity : Command → Activity → Value → Activity → Type 0
GivesActivity c a v b = IsShort a.containers v × KeepsActivity c a b

-- ---- containers

tells_put : (c : Name) (bytes : Bytes) (x : Containers) → TellsWith (GivesPool x) (containers.put c bytes x)
tells_put c bytes x =
    tells_when _ resp.Lengerr reason.Long (is_long bytes x.format) _ refl refl λ l.
    tells_when _ resp.Containererr reason.Limit (has_no_room c x) _ refl refl λ r.
    (λ m short. no_bytes m, (λ p. pool_put c bytes x p l r, refl))

tells_get : (c : Name) (x : Containers) → TellsWith (GivesPool x) (containers.get c x)
tells_get c x =
    tells_some _ resp.Containererr reason.Missing (lookup c x.items) _ refl refl λ bytes e.
    (λ m short. found (λ (b : Bytes). length b ≤ m) c bytes x.items short e, (λ p. p, refl))

tells_delete : (c : Name) (x : Containers) → TellsWith (GivesPool x) (containers.delete c x)
tells_delete c x =
    tells_when _ resp.Containererr reason.Missing (not (is_there c x.items)) _ refl refl λ m.
    (λ m short. no_bytes m, (λ p. pool_delete c x p, refl))

pub shown_tells : (c : Command) (x : Containers) → TellsWith (GivesPool x) (on_shown c x)
unfolding on_shown
shown_tells (command.GetContainer c place) x = tells_get c x
shown_tells _ x = (refl, refl)

pub containers_tell : (c : Command) (x : Containers) → TellsWith (GivesPool x) (on_containers c x)
unfolding on_containers
containers_tell (command.PutContainer c place bytes) x = tells_put c bytes x
containers_tell (command.DeleteContainer c place) x = tells_delete c x
containers_tell _ x = (refl, refl)

-- ---- one activity

module _ (c : Command) (a : Activity) where
  abbrev TellsOf : Answer Activity → Type 0
  TellsOf = TellsWith (GivesActivity c a)

  -- a row on its containers
  own_tells : (f : Containers → Answer Containers) → TellsWith (GivesPool a.containers) (f a.containers) → TellsOf (row.with_own f a)
  own_tells f t =
      tells_mapped _ (λ x. record a { containers = x }) (f a.containers)
      (tells_more _ (λ v x. let b : Activity = record a { containers = x } in GivesActivity c a v b) (f a.containers)
      (λ v x k. (
        k.0,
        λ s.
            let b : Activity = record a { containers = x } in
            record { fits = λ g. fits_containers a s x (k.1.0 s.containers) k.1.1; grows = grows_in_same 1 (makes_more c) a b refl refl },
      )) t)

  -- ---- events

  follows_pool : (pool : Pool) → IsSoundActivity a → (IsGiven c → IsSoundPool pool) → Keeps is_owned a.pool.events pool.events
      → IsNext a.pool pool → let b : Activity = record a { pool = pool } in Follows c a b
  follows_pool pool s sound k next =
      record { fits = λ g. fits_pool a s pool (sound g) k; grows = record { last = next; timers = λ m none. none } }

  same_follows : KeepsActivity c a a
  same_follows s = follows_pool a.pool s (λ g. s.pool) (keeps_same is_owned a.pool.events) (next_same a.pool a.pool refl)

  module _ (why : Events → Option Reason) (change : Pool → Pool) where
    events_tell : ((es : Events) → AreReasons (why es))
        → (IsGiven c → IsSoundPool a.pool → why a.pool.events ≡ None → IsSoundPool (change a.pool))
        → (IsSoundPool a.pool → why a.pool.events ≡ None → Keeps is_owned a.pool.events (change a.pool).events)
        → (IsSoundPool a.pool → why a.pool.events ≡ None → IsNext a.pool (change a.pool))
        → TellsOf (row.event_row why change a)
    events_tell says sound keeps next =
        tells_for _ resp.Eventerr (why a.pool.events) _ refl (says a.pool.events) λ r.
        (λ m short. no_bytes m, λ s. follows_pool (change a.pool) s (λ g. sound g s.pool r) (keeps s.pool r) (next s.pool r))

  input_tells : (e : Name) → (IsGiven c → same e initial_name ≡ false) → TellsOf (row.define_input e a)
  input_tells e named =
      events_tell (refusals.define_refusal e) (defined e (new_atomic Input)) (reasons_define e)
      (λ g s r. sound_define e Input a.pool s r (named g))
      (λ s r. keeps_defined is_owned e (new_atomic Input) a.pool (define_free e a.pool.events r) refl)
      (next_defined e Input a.pool)

  composite_tells : (e : Name) (all : Bool) (subs : List Name) → (IsGiven c → same e initial_name ≡ false) → (IsGiven c → length subs ≤ 8)
      → TellsOf (row.define_composite e all subs a)
  composite_tells e all subs named few =
      events_tell (refusals.composite_refusal e subs) (defined e (new_composite all subs)) (reasons_composite e subs)
      (λ g s r.
      subst IsSoundPool (unless_none (refusals.composite_refusal e subs a.pool.events) _ a.pool r)
      (after_sound (calls.define_composite e all subs) a.pool (named g, few g) s))
      (λ s r. keeps_defined is_owned e (new_composite all subs) a.pool (composite_free e subs a.pool.events r) refl)
      (next_composite e all subs a.pool)

  add_tells : (sub e : Name) → TellsOf (row.add_subevent sub e a)
  add_tells sub e =
      events_tell (refusals.add_refusal e sub) (subevent_added e sub) (reasons_add e sub)
      (λ g s r.
      subst IsSoundPool (unless_none (refusals.add_refusal e sub a.pool.events) _ a.pool r)
      (after_sound (calls.add_subevent e sub) a.pool tt s))
      (λ s r. keeps_added is_owned e sub a.pool)
      (next_added e sub a.pool)

  remove_tells : (sub e : Name) → TellsOf (row.remove_subevent sub e a)
  remove_tells sub e =
      events_tell (refusals.leave_refusal e sub) (subevent_removed e sub) (λ es. leave_case (lookup e es) sub es)
      (λ g s r.
      subst IsSoundPool (unless_none (refusals.leave_refusal e sub a.pool.events) _ a.pool r)
      (after_sound (calls.remove_subevent e sub) a.pool tt s))
      (λ s r. keeps_removed is_owned e sub a.pool)
      (next_left e sub a.pool)

  delete_tells : (e : Name) → TellsOf (row.delete_event e a)
  delete_tells e =
      events_tell (refusals.delete_refusal e) (deleted e) (λ es. delete_case es (lookup e es))
      (λ g s r.
      subst IsSoundPool (unless_none (refusals.delete_refusal e a.pool.events) _ a.pool r) (after_sound (calls.delete e) a.pool tt s))
      (λ s r. keeps_deleted is_owned e a.pool s.events.ordered (delete_unowned e a.pool.events r))
      (λ s r. next_deleted e a.pool s)

  test_tells : (e : Name) → TellsOf (row.test_event e a)
  test_tells e =
      tells_ok _ resp.Eventerr (test_of a.pool.events (lookup e a.pool.events)) _ refl
      (errors_test a.pool.events (lookup e a.pool.events)) λ fired i. (λ m short. no_bytes m, same_follows)

  retrieve_tells : TellsOf (row.retrieve_reattach a)
  retrieve_tells =
      tells_some _ resp.End reason.Empty (first_entry a.pool.entries a.pool.events) _ refl refl λ e i. (
        λ m short. no_bytes m,
        λ s.
            follows_pool (retrieved a.pool) s (λ g. after_sound calls.retrieve a.pool tt s.pool) (keeps_retrieved is_owned a.pool)
            (next_by_call calls.retrieve a.pool tt s.pool),
      )

  retrieve_sub_tells : (e : Name) → TellsOf (row.retrieve_subevent e a)
  retrieve_sub_tells e =
      tells_for _ resp.Eventerr (refusals.not_composite (lookup e a.pool.events)) _ refl
      (reasons_not_composite (lookup e a.pool.events)) λ r.
      tells_ok _ resp.End (next_subevent e a.pool) _ refl (errors_sub (lookup e a.pool.events) a.pool.events) λ sub i. (
        λ m short. no_bytes m,
        λ s.
            follows_pool (subevent_retrieved e a.pool) s (λ g. after_sound (calls.retrieve_subevent e) a.pool tt s.pool)
            (keeps_subevent_retrieved is_owned e a.pool)
            (next_by_call (calls.retrieve_subevent e) a.pool tt s.pool),
      )

  -- ---- timers

  timer_tells : (now : ℕ) (t : Name) (e : Option Name) (due : Due) → (IsGiven c → same (unwrap_or e t) initial_name ≡ false)
      → makes_more c ≡ true → TellsOf (row.define_timer now t e due a)
  timer_tells now t e due named more =
      tells_when _ resp.Timererr reason.Taken (is_there t a.timers) _ refl refl λ no_timer.
      tells_when _ resp.Eventerr reason.Taken (is_there (unwrap_or e t) a.pool.events) _ refl refl λ no_event.
      tells_when _ resp.Invreq reason.Range (is_past_last now due) _ refl refl λ in_range.
      tells_when _ resp.Eventerr reason.Limit (refusals.is_full a.pool.events) _ refl refl λ room. (
        λ m short. no_bytes m,
        λ s.
            let free = define_allowed (unwrap_or e t) a.pool.events no_event room in
            record {
              fits = λ g. fits_timer t (unwrap_or e t) (due_at now due) a s no_timer free (named g);
              grows =
                  record { last = next_defined (unwrap_or e t) (Timer t) a.pool s.pool free; timers = λ m. absurd (true≢false (sym more ∙ m)) };
            },
      )

  force_tells : (t : Name) → TellsOf (row.force_timer t a)
  force_tells t =
      tells_for _ resp.Timererr (force_refusal t a.timers) _ refl (force_case (lookup t a.timers)) λ r. (
        λ m short. no_bytes m,
        λ s.
            let x = running_case (lookup t a.timers) t a.timers refl r in
            record {
              fits = λ g. fits_forced t x.timer a s x.found x.unexpired;
              grows = record { last = next_fired_if (event_of t a.pool.events) a.pool s.pool; timers = λ m. none_forced t a.timers };
            },
      )

  follows_without : (t : Name) (o : Option OneTimer) → lookup t a.timers ≡ o → is_some o ≡ true → IsSoundActivity a
      → Follows c a (without_timer t a)
  follows_without t None e h s = cc
  follows_without t (Some x) e h s = record {
    fits = λ g. fits_without t x a s e;
    grows = record { last = next_removed_if (event_of t a.pool.events) a.pool s.pool; timers = λ m. none_without t a.timers };
  }

  there : (o : Option OneTimer) (status : TimerStatus) → status_or_missing o ≡ Ok status → is_some o ≡ true
  there None status i = cc
  there (Some x) status i = refl

  checked_follows : (t : Name) (b : Bool) → is_there t a.timers ≡ true → KeepsActivity c a (cond b a (without_timer t a))
  checked_follows t true h = same_follows
  checked_follows t false h = λ s. follows_without t (lookup t a.timers) refl h s

  check_timer_tells : (t : Name) → TellsOf (row.check_timer t a)
  check_timer_tells t =
      tells_ok _ resp.Timererr (status_or_missing (lookup t a.timers)) _ refl
      (errors_status (lookup t a.timers))
      λ status i. (λ m short. no_bytes m, checked_follows t (is_unexpired_status status) (there (lookup t a.timers) status i))

  delete_timer_tells : (t : Name) → TellsOf (row.delete_timer t a)
  delete_timer_tells t =
      tells_when _ resp.Timererr reason.Missing (not (is_there t a.timers)) _ refl refl λ m. (
        λ m short. no_bytes m,
        λ s.
            follows_without t (lookup t a.timers) refl (not_missing (is_there t a.timers) m) s,
      )

  -- ---- running

  ran_short : (opens runs : Bool) → IsShort a.containers (cond opens (value.Ran runs) value.Nothing)
  ran_short true runs = λ m short. no_bytes m
  ran_short false runs = λ m short. no_bytes m

  run_tells : (depth : ℕ) (opens : Bool) (e : Option Name) → TellsOf (row.run depth opens e a)
  run_tells depth opens e =
      tells_when _ resp.Activityerr reason.Mode (is_complete a) _ refl refl λ m.
      tells_when _ resp.Activityerr reason.Started (is_initial a && has_entries a) _ refl refl λ st.
      tells_when _ resp.Invreq reason.InputGiven (is_initial a && is_some e) _ refl refl λ n.
      tells_when _ resp.Invreq reason.InputMissing (is_dormant a && is_none e) _ refl refl λ d.
      tells_for _ resp.Eventerr (input_refusal a.pool.events e) _ refl (reasons_input a.pool.events e) λ i.
      tells_when _ resp.Invreq reason.Depth (opens && nat_le frame_limit depth) _ refl refl λ o. (
        ran_short opens (can_run (with_signal e a)),
        λ s.
            follows_pool (signalled e a.pool) s (λ g. signal_sound e a.pool s.pool i) (signal_keeps e a.pool i) (next_signal e a.pool s.pool),
      )

  suspend_tells : (to : Bool) → TellsOf (row.suspend to a)
  suspend_tells to =
      tells_when _ resp.Activityerr reason.Mode (is_complete a) _ refl refl λ m. (
        λ m short. no_bytes m,
        λ s.
            let b : Activity = record a { suspended = to } in
            record { fits = λ g. fits_suspended a s to; grows = grows_in_same 1 (makes_more c) a b refl refl },
      )

-- ---- the rows on an activity

pub activity_tells : (depth now : ℕ) (c : Command) (a : Activity) → TellsWith (GivesActivity c a) (on_activity depth now c a)
unfolding on_activity
activity_tells depth now (command.Run target synchronous e) a = run_tells _ a depth synchronous e
activity_tells depth now (command.Link target e) a = run_tells _ a depth true e
activity_tells depth now (command.Check target) a = (λ m short. no_bytes m, same_follows _ a)
activity_tells depth now (command.Suspend target) a = suspend_tells _ a true
activity_tells depth now (command.Resume target) a = suspend_tells _ a false
activity_tells depth now (command.PutContainer c place bytes) a = own_tells _ a (containers.put c bytes) (tells_put c bytes a.containers)
activity_tells depth now (command.GetContainer c place) a = own_tells _ a (containers.get c) (tells_get c a.containers)
activity_tells depth now (command.DeleteContainer c place) a = own_tells _ a (containers.delete c) (tells_delete c a.containers)
activity_tells depth now (command.DefineInput e) a = input_tells _ a e (λ g. first_name e [] g.names)
activity_tells depth now (command.DefineComposite e all subs) a =
    composite_tells _ a e all subs (λ g. first_name e subs g.names) (λ g. g.few_subs)
activity_tells depth now (command.AddSubevent sub e) a = add_tells _ a sub e
activity_tells depth now (command.RemoveSubevent sub e) a = remove_tells _ a sub e
activity_tells depth now (command.DeleteEvent e) a = delete_tells _ a e
activity_tells depth now (command.TestEvent e) a = test_tells _ a e
activity_tells depth now command.RetrieveReattach a = retrieve_tells _ a
activity_tells depth now (command.RetrieveSubevent e) a = retrieve_sub_tells _ a e
activity_tells depth now (command.DefineTimer t e due) a = timer_tells _ a now t e due (λ g. event_name t e g.names) refl
activity_tells depth now (command.ForceTimer t target) a = force_tells _ a t
activity_tells depth now (command.CheckTimer t) a = check_timer_tells _ a t
activity_tells depth now (command.DeleteTimer t) a = delete_timer_tells _ a t
activity_tells depth now _ a = (refl, refl)
