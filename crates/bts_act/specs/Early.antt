-- Events that are fired before their timers.
use Rattle.std.specs.Prelude.{Bool, false, ◌&&◌, not}
use Rattle.std.specs.List.{list_all}
use Rattle.bts_names.specs.Named.{lookup}
use Rattle.bts_event.specs.declared.event.Event.{Event}
use Rattle.bts_event.specs.declared.event.Event.TheVariants.{Atomic as atomic, Composite as composite}
use Rattle.bts_event.specs.declared.event.Trigger.{Trigger}
use Rattle.bts_event.specs.declared.event.Trigger.TheVariants.{Input, Completion, Timer}
use Rattle.bts_timer.specs.Timers.{Timers, is_unexpired_one}
use Rattle.bts_tree.specs.declared.activity.Activity.{Activity}
use Rattle.bts_tree.specs.Processes.{Process, activities}

-- whether an event waits for a timer that is UNEXPIRED
abbrev pub waits_for : Timers → Trigger → Bool
waits_for timers Input = false
waits_for timers (Completion n) = false
waits_for timers (Timer t) = is_unexpired_one (lookup t timers)

abbrev pub is_early : Timers → Event → Bool
is_early timers (atomic a) = a.fired && waits_for timers a.trigger
is_early timers (composite c) = false

abbrev pub has_none_early : Activity → Bool
has_none_early a = list_all (λ e. not (is_early a.timers e.1)) a.pool.events

-- no event of any activity is fired while its timer is UNEXPIRED
abbrev pub none_early : Process → Bool
none_early s = list_all (λ x. has_none_early x.1) (activities s)
