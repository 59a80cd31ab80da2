-- Timers with their events: when one is due, and an activity with one more, one less, or one that is forced.
use Rattle.std.specs.Prelude.{ℕ, Bool, false, ◌+◌, nat_lt, Option, Some, None}
use Rattle.bts_names.specs.Names.{Name}
use Rattle.bts_names.specs.Named.{without}
use Rattle.bts_names.specs.Grammar.{last_second}
use Rattle.bts_names.specs.declared.state.TimerStatus.TheVariants as status
use Rattle.bts_command.specs.declared.command.Due.{Due}
use Rattle.bts_command.specs.declared.command.Due.TheVariants.{After, At}
use Rattle.bts_event.specs.declared.event.Trigger.TheVariants.{Timer}
use Rattle.bts_event.specs.Events.{event_of, new_atomic}
use Rattle.bts_event.specs.Pool.{Pool, defined, fired, removed}
use Rattle.bts_timer.specs.Timers.{started, with_status}
use Rattle.bts_tree.specs.declared.activity.Activity.{Activity}

-- when a timer is due that is defined now, and whether that is past the last moment
abbrev pub due_at : ℕ → Due → ℕ
due_at now (After n) = now + n
due_at now (At m) = m

abbrev pub is_past_last : ℕ → Due → Bool
is_past_last now (After n) = nat_lt last_second (now + n)
is_past_last now (At m) = false

-- the pool without an event, and behind the firing of one, where there is that event
abbrev pub removed_if : Option Name → Pool → Pool
removed_if None pool = pool
removed_if (Some e) pool = removed e pool

abbrev pub fired_if : Option Name → Pool → Pool
fired_if None pool = pool
fired_if (Some e) pool = fired e pool

-- an activity with one more timer and its event
abbrev pub with_timer : Name → Name → ℕ → Activity → Activity
with_timer t e due a = record a { timers = started t due a.timers; pool = defined e (new_atomic (Timer t)) a.pool }

-- without a timer and its event
abbrev pub without_timer : Name → Activity → Activity
without_timer t a = record a { timers = without t a.timers; pool = removed_if (event_of t a.pool.events) a.pool }

-- with a timer FORCED and its event fired
abbrev pub with_forced : Name → Activity → Activity
with_forced t a = record a { timers = with_status status.Forced t a.timers; pool = fired_if (event_of t a.pool.events) a.pool }
