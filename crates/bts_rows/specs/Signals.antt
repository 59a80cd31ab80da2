-- The signal by which an activity is run.
use Rattle.std.specs.Prelude.{ℕ, Bool, cond, not, ◌&&◌, Option, Some, None}
use Rattle.bts_names.specs.Names.{Name, initial_name}
use Rattle.bts_names.specs.Named.{lookup}
use Rattle.bts_names.specs.declared.reply.Reason.{Reason}
use Rattle.bts_names.specs.declared.reply.Reason.TheVariants as reason
use Rattle.bts_event.specs.declared.event.Event.{Event}
use Rattle.bts_event.specs.declared.event.Event.TheVariants.{Atomic as atomic, Composite as composite}
use Rattle.bts_event.specs.Events.{Events, is_input}
use Rattle.bts_event.specs.Pool.{Pool, entered, fired}
use Rattle.bts_tree.specs.declared.activity.Activity.{Activity}
use Rattle.bts_tree.specs.Activities.{has_entries}
use Rattle.bts_rows.specs.declared.limits.TheConstants.{FRAME_LIMIT}

-- the most open frames of a unit
abbrev pub frame_limit : ℕ
frame_limit = FRAME_LIMIT

-- why a program can't fire an event
abbrev pub input_refusal_of : Option Event → Option Reason
input_refusal_of None = Some reason.Missing
input_refusal_of (Some (composite c)) = Some reason.Kind
input_refusal_of (Some (atomic a)) = cond (is_input a.trigger) (cond a.fired (Some reason.Fired) None) (Some reason.Kind)

abbrev pub input_refusal : Events → Option Name → Option Reason
input_refusal events None = None
input_refusal events (Some e) = input_refusal_of (lookup e events)

-- the target's events behind the signal: DFHINITIAL enters, or the input event fires
abbrev pub signalled : Option Name → Pool → Pool
signalled None pool = entered initial_name pool
signalled (Some e) pool = fired e pool

-- whether a frame opens on an activity
abbrev pub can_run : Activity → Bool
can_run a = not a.suspended && has_entries a

abbrev pub with_signal : Option Name → Activity → Activity
with_signal event a = record a { pool = signalled event a.pool }
