-- The rows of the commands on one activity: its containers, events and timers, and its running.
use Rattle.std.specs.Prelude.{ℕ, Bool, true, false, ◌&&◌, cond, not, nat_le, List, Option, is_some, is_none, unwrap_or}
use Rattle.bts_names.specs.Names.{Name}
use Rattle.bts_names.specs.Named.{lookup, is_there}
use Rattle.bts_names.specs.Answer.{Answer, refused, done, mapped, at_some, at_ok, refuse◌because◌when◌otherwise◌, refuse◌for◌otherwise◌}
use Rattle.bts_names.specs.declared.reply.Resp.TheVariants as resp
use Rattle.bts_names.specs.declared.reply.Reason.{Reason}
use Rattle.bts_names.specs.declared.reply.Reason.TheVariants as reason
use Rattle.bts_names.specs.declared.reply.Value.TheVariants as value
use Rattle.bts_command.specs.declared.command.Command.{Command}
use Rattle.bts_command.specs.declared.command.Command.TheVariants as command
use Rattle.bts_command.specs.declared.command.Due.{Due}
use Rattle.bts_container.specs.Containers.{Containers}
use Rattle.bts_event.specs.declared.event.Trigger.TheVariants.{Input}
use Rattle.bts_event.specs.Events.{Events, new_atomic, new_composite}
use Rattle.bts_event.specs.Pool.{Pool, defined, deleted, first_entry, next_subevent, retrieved, subevent_added, subevent_removed, subevent_retrieved, test_of}
use Rattle.bts_event.specs.Refusals as refusals
use Rattle.bts_timer.specs.Due.{is_unexpired_status}
use Rattle.bts_timer.specs.Timers.{force_refusal, status_or_missing}
use Rattle.bts_tree.specs.declared.activity.Activity.{Activity}
use Rattle.bts_tree.specs.Activities.{is_complete, is_dormant, is_initial, has_entries}
use Rattle.bts_rows.specs.Timing.{due_at, is_past_last, with_timer, without_timer, with_forced}
use Rattle.bts_rows.specs.Signals.{can_run, frame_limit, input_refusal, with_signal}
use Rattle.bts_rows.specs.OnContainers as containers

-- ---- containers

-- a row on its containers
abbrev pub with_own : (Containers → Answer Containers) → Activity → Answer Activity
with_own row a = mapped (λ x. record a { containers = x }) (row a.containers)

-- ---- events

-- a change of its events, or the pool's reason against it
abbrev pub event_row : (Events → Option Reason) → (Pool → Pool) → Activity → Answer Activity
event_row why change a =
    refuse resp.Eventerr for why a.pool.events otherwise
    done value.Nothing (record a { pool = change a.pool })

abbrev pub define_input : Name → Activity → Answer Activity
define_input e = event_row (refusals.define_refusal e) (defined e (new_atomic Input))

abbrev pub define_composite : Name → Bool → List Name → Activity → Answer Activity
define_composite e all subs = event_row (refusals.composite_refusal e subs) (defined e (new_composite all subs))

abbrev pub add_subevent : Name → Name → Activity → Answer Activity
add_subevent sub e = event_row (refusals.add_refusal e sub) (subevent_added e sub)

abbrev pub remove_subevent : Name → Name → Activity → Answer Activity
remove_subevent sub e = event_row (refusals.leave_refusal e sub) (subevent_removed e sub)

abbrev pub delete_event : Name → Activity → Answer Activity
delete_event e = event_row (refusals.delete_refusal e) (deleted e)

abbrev pub test_event : Name → Activity → Answer Activity
test_event e a =
    at_ok resp.Eventerr (test_of a.pool.events (lookup e a.pool.events)) λ fired.
    done (value.Fired fired) a

abbrev pub retrieve_reattach : Activity → Answer Activity
retrieve_reattach a =
    at_some resp.End reason.Empty (first_entry a.pool.entries a.pool.events) λ e.
    done (value.Event e.0 e.1) (record a { pool = retrieved a.pool })

abbrev pub retrieve_subevent : Name → Activity → Answer Activity
retrieve_subevent e a =
    refuse resp.Eventerr for refusals.not_composite (lookup e a.pool.events) otherwise
    at_ok resp.End (next_subevent e a.pool) λ sub.
    done (value.Event sub.0 sub.1) (record a { pool = subevent_retrieved e a.pool })

-- ---- timers

abbrev pub define_timer : ℕ → Name → Option Name → Due → Activity → Answer Activity
define_timer now t event due a =
    let e : Name = unwrap_or event t in
    refuse resp.Timererr because reason.Taken when is_there t a.timers otherwise
    refuse resp.Eventerr because reason.Taken when is_there e a.pool.events otherwise
    refuse resp.Invreq because reason.Range when is_past_last now due otherwise
    refuse resp.Eventerr because reason.Limit when refusals.is_full a.pool.events otherwise
    done value.Nothing (with_timer t e (due_at now due) a)

abbrev pub force_timer : Name → Activity → Answer Activity
force_timer t a =
    refuse resp.Timererr for force_refusal t a.timers otherwise
    done value.Nothing (with_forced t a)

abbrev pub check_timer : Name → Activity → Answer Activity
check_timer t a =
    at_ok resp.Timererr (status_or_missing (lookup t a.timers)) λ status.
    done (value.Timer status) (cond (is_unexpired_status status) a (without_timer t a))

abbrev pub delete_timer : Name → Activity → Answer Activity
delete_timer t a =
    refuse resp.Timererr because reason.Missing when not (is_there t a.timers) otherwise
    done value.Nothing (without_timer t a)

-- ---- running

-- RUN and LINK: where a frame is to open, the value says whether it does
abbrev pub run : ℕ → Bool → Option Name → Activity → Answer Activity
run depth opens event a =
    refuse resp.Activityerr because reason.Mode when is_complete a otherwise
    refuse resp.Activityerr because reason.Started when is_initial a && has_entries a otherwise
    refuse resp.Invreq because reason.InputGiven when is_initial a && is_some event otherwise
    refuse resp.Invreq because reason.InputMissing when is_dormant a && is_none event otherwise
    refuse resp.Eventerr for input_refusal a.pool.events event otherwise
    refuse resp.Invreq because reason.Depth when opens && nat_le frame_limit depth otherwise
    done (cond opens (value.Ran (can_run (with_signal event a))) value.Nothing) (with_signal event a)

abbrev pub check : Activity → Answer Activity
check a = done (value.Activity a.mode a.status a.suspended a.code) a

abbrev pub suspend : Bool → Activity → Answer Activity
suspend to a =
    refuse resp.Activityerr because reason.Mode when is_complete a otherwise
    done value.Nothing (record a { suspended = to })

-- ---- the commands, by the activity that they are about

unfoldable pub on_activity : ℕ → ℕ → Command → Activity → Answer Activity
on_activity depth now (command.Run target synchronous e) a = run depth synchronous e a
on_activity depth now (command.Link target e) a = run depth true e a
on_activity depth now (command.Check target) a = check a
on_activity depth now (command.Suspend target) a = suspend true a
on_activity depth now (command.Resume target) a = suspend false a
on_activity depth now (command.PutContainer c place bytes) a = with_own (containers.put c bytes) a
on_activity depth now (command.GetContainer c place) a = with_own (containers.get c) a
on_activity depth now (command.DeleteContainer c place) a = with_own (containers.delete c) a
on_activity depth now (command.DefineInput e) a = define_input e a
on_activity depth now (command.DefineComposite e all subs) a = define_composite e all subs a
on_activity depth now (command.AddSubevent sub e) a = add_subevent sub e a
on_activity depth now (command.RemoveSubevent sub e) a = remove_subevent sub e a
on_activity depth now (command.DeleteEvent e) a = delete_event e a
on_activity depth now (command.TestEvent e) a = test_event e a
on_activity depth now command.RetrieveReattach a = retrieve_reattach a
on_activity depth now (command.RetrieveSubevent e) a = retrieve_subevent e a
on_activity depth now (command.DefineTimer t e due) a = define_timer now t e due a
on_activity depth now (command.ForceTimer t target) a = force_timer t a
on_activity depth now (command.CheckTimer t) a = check_timer t a
on_activity depth now (command.DeleteTimer t) a = delete_timer t a
on_activity depth now _ a = refused resp.Invreq reason.Place
