-- The signal by which an activity is run leaves its events sound, and those that are owned as they were.
use Rattle.std.proofs.Common.{◌≡◌, Bool, true, false, cond, Option, Some, None, refl}
use Rattle.bts_names.specs.Names.{Name}
use Rattle.bts_names.specs.Named.{lookup}
use Rattle.bts_names.specs.declared.reply.Reason.TheVariants as reason
use Rattle.bts_event.specs.declared.event.Event.{Event}
use Rattle.bts_event.specs.declared.event.Event.TheVariants.{Atomic as atomic, Composite as composite}
use Rattle.bts_event.specs.declared.event.Trigger.{Trigger}
use Rattle.bts_event.specs.declared.event.Trigger.TheVariants.{Input, Completion, Timer}
use Rattle.bts_event.specs.Calls as calls
use Rattle.bts_event.specs.Events.{is_input}
use Rattle.bts_event.specs.Pool.{Pool}
use Rattle.bts_event.specs.Refusals.{fire_refusal_of}
use Rattle.bts_event.specs.Sound.{IsSoundPool}
use Rattle.bts_event.proofs.Accounts.{after_sound}
use Rattle.bts_rows.specs.Signals.{input_refusal, input_refusal_of, signalled}
use Rattle.bts_rows.proofs.Fits.{sound_fire}
use Rattle.bts_rows.proofs.Keeps.{Keeps, is_owned, is_picked, keeps_same}
use Rattle.bts_rows.proofs.PoolKeeps.{keeps_firing}

-- ---- an input event that a program may fire

record MayFire (o : Option Event) : Type 0 where
  fires : fire_refusal_of o ≡ None
  unowned : is_picked is_owned o ≡ false

trigger_case : (t : Trigger) (b : Bool) → cond (is_input t) (cond b (Some reason.Fired) None) (Some reason.Kind) ≡ None
    → MayFire (Some (atomic (record { trigger = t; fired = b })))
trigger_case Input true h = cc
trigger_case Input false h = record { fires = refl; unowned = refl }
trigger_case (Completion n) b h = cc
trigger_case (Timer t) b h = cc

may_fire : (o : Option Event) → input_refusal_of o ≡ None → MayFire o
may_fire None h = cc
may_fire (Some (composite c)) h = cc
may_fire (Some (atomic a)) h = trigger_case a.trigger a.fired h

-- ---- the signal

pub signal_sound : (event : Option Name) (p : Pool) → IsSoundPool p → input_refusal p.events event ≡ None → IsSoundPool (signalled event p)
signal_sound None p s h = after_sound calls.start p tt s
signal_sound (Some e) p s h = sound_fire e p s (may_fire (lookup e p.events) h).fires

pub signal_keeps : (event : Option Name) (p : Pool) → input_refusal p.events event ≡ None
    → Keeps is_owned p.events (signalled event p).events
signal_keeps None p h = keeps_same is_owned p.events
signal_keeps (Some e) p h = keeps_firing is_owned e p (may_fire (lookup e p.events) h).unowned
