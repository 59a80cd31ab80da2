-- What an expiry leaves of a sound process is sound.
use Rattle.std.proofs.Common.{◌≡◌, true, [], Some, refl}
use Rattle.bts_names.specs.Names.{ActivityPath, Name}
use Rattle.bts_names.specs.Named.{lookup}
use Rattle.bts_names.specs.declared.state.TimerStatus.TheVariants as status
use Rattle.bts_event.specs.Events.{event_of}
use Rattle.bts_timer.specs.declared.timer.Timer.{Timer}
use Rattle.bts_timer.specs.Due.{is_unexpired}
use Rattle.bts_timer.specs.Timers.{with_status}
use Rattle.bts_tree.specs.declared.activity.Activity.{Activity}
use Rattle.bts_tree.specs.Processes.{Process, activity_at, edited}
use Rattle.bts_tree.specs.Soundness.{IsSoundInFrames}
use Rattle.bts_rows.specs.Timing.{fired_if}
use Rattle.bts_rows.proofs.InPlace.{edited_keeps_soundness, own_sound}
use Rattle.bts_rows.proofs.TimerFits.{fits_ended}

-- a timer of it is EXPIRED, and its event fires
abbrev with_expired : Name → Activity → Activity
with_expired t a = record a { timers = with_status status.Expired t a.timers; pool = fired_if (event_of t a.pool.events) a.pool }

pub expiry_sound : (s : Process) (p : ActivityPath) (t : Name) (a : Activity) (x : Timer) → IsSoundInFrames [] s → activity_at p s ≡ Some a
    → lookup t a.timers ≡ Some x → is_unexpired x ≡ true → IsSoundInFrames [] (edited p (with_expired t) s)
expiry_sound s p t a x sound there timer unexpired =
    edited_keeps_soundness [] s p (with_expired t) a sound there
    (fits_ended t x a (own_sound [] s sound p a there) timer unexpired status.Expired refl)
