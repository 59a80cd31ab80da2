-- Units of work without calls: notices and expiries.
use Rattle.std.specs.Prelude.{ℕ, Bool, true, false, [], Some}
use Rattle.std.specs.Option.{option_map, unwrap_or}
use Rattle.bts_names.specs.Names.{Name, ActivityPath}
use Rattle.bts_names.specs.Named.{lookup}
use Rattle.bts_names.specs.declared.state.TimerStatus.TheVariants as timer
use Rattle.bts_command.specs.declared.ended.End.TheVariants.{Commit}
use Rattle.bts_command.specs.declared.ended.UnitKind.{UnitKind}
use Rattle.bts_command.specs.declared.ended.UnitKind.TheVariants as unit
use Rattle.bts_event.specs.Events.{completion_of, event_of}
use Rattle.bts_timer.specs.Due.{is_due}
use Rattle.bts_timer.specs.Timers.{Timers, with_status}
use Rattle.bts_tree.specs.declared.activity.Activity.{Activity}
use Rattle.bts_tree.specs.Paths.{number_of, parent_of}
use Rattle.bts_tree.specs.Processes.{Process, activity_at, edited, with_pool}
use Rattle.bts_rows.specs.Timing.{fired_if}
use Rattle.bts_rows.specs.declared.places.Held.TheVariants as held
use Rattle.bts_unit.specs.Frames.{UnitOfWork}
use Rattle.bts_unit.specs.Standings.{moved, standing}

-- the activity at a path is told, and its completion event fires in its parent's pool
abbrev pub noticed : ActivityPath → Process → Process
noticed p s =
    with_pool (parent_of p) (λ pool. fired_if (completion_of (number_of p) pool.events) pool) (edited p (λ a. record a { told = true }) s)

abbrev pub with_expired : Name → Activity → Activity
with_expired t a = record a { timers = with_status timer.Expired t a.timers; pool = fired_if (event_of t a.pool.events) a.pool }

-- a timer is EXPIRED, and its event fires
abbrev pub expired : ActivityPath → Name → Process → Process
expired p t = edited p (with_expired t)

abbrev pub system_process : UnitKind → Process → Process
system_process (unit.Notice key path) s = noticed path s
system_process (unit.Expiry key path timer) s = expired path timer s
system_process _ s = s

-- a notice or an expiry, which has ended with COMMIT
abbrev pub system : UnitKind → ℕ → Process → UnitOfWork
system kind moment s =
    record {
      moment = moment;
      base = s;
      held = held.Never;
      now = moved (standing s) (system_process kind s);
      frames = [];
      calls = [];
      end = Some Commit;
    }

-- ---- when a process lets a timer expire

abbrev pub has_due : ℕ → Name → Timers → Bool
has_due now t timers = unwrap_or (option_map (is_due now) (lookup t timers)) false

abbrev pub may_expire : UnitKind → ℕ → Process → Bool
may_expire (unit.Expiry key path timer) moment s = unwrap_or (option_map (λ a. has_due moment timer a.timers) (activity_at path s)) false
may_expire _ moment s = false
