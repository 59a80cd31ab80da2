-- What an expiry leaves of a sound process.
use Rattle.std.proofs.Common.{◌≡◌, ℕ, ◌+◌, true, false, nat_le, [], Option, Some, None, option_map, unwrap_or, refl, arith}
use Rattle.std.proofs.lemmas.Bool.{and_parts}
use Rattle.bts_names.specs.Names.{Name, ActivityPath}
use Rattle.bts_names.specs.Named.{lookup}
use Rattle.bts_command.specs.declared.ended.UnitKind.{UnitKind}
use Rattle.bts_command.specs.declared.ended.UnitKind.TheVariants as unit
use Rattle.bts_event.specs.Events.{event_of}
use Rattle.bts_timer.specs.Due.{is_due, is_unexpired}
use Rattle.bts_timer.specs.declared.timer.Timer.{Timer}
use Rattle.bts_tree.specs.declared.activity.Activity.{Activity}
use Rattle.bts_tree.specs.Processes.{Process, activity_at}
use Rattle.bts_tree.specs.Soundness.{IsSoundInFrames, is_within}
use Rattle.bts_rows.proofs.ExpirySound.{expiry_sound}
use Rattle.bts_rows.proofs.Grows.{Grows, grows_at, grows_within}
use Rattle.bts_rows.proofs.InPlace.{own_sound}
use Rattle.bts_rows.proofs.LastNumbers.{next_fired_if}
use Rattle.bts_unit.specs.Standings.{moved}
use Rattle.bts_unit.specs.Systems.{expired, has_due, may_expire, system, with_expired}

-- a timer that is UNEXPIRED, of an activity that is there
record RunsOut (p : ActivityPath) (t : Name) (s : Process) : Type 0 where
  activity : Activity
  there : activity_at p s ≡ Some activity
  timer : Timer
  found : lookup t activity.timers ≡ Some timer
  unexpired : is_unexpired timer ≡ true

module _ (moment : ℕ) (p : ActivityPath) (t : Name) (s : Process) where
  timer_case : (a : Activity) → activity_at p s ≡ Some a → (o : Option Timer) → lookup t a.timers ≡ o → unwrap_or (option_map (is_due moment) o) false ≡ true → RunsOut p t s
  timer_case a there None found h = cc
  timer_case a there (Some x) found h = record { activity = a; there = there; timer = x; found = found; unexpired = (and_parts (is_unexpired x) (nat_le x.due moment) h).0 }

  activity_case : (o : Option Activity) → activity_at p s ≡ o → unwrap_or (option_map (λ a. has_due moment t a.timers) o) false ≡ true → RunsOut p t s
  activity_case None there h = cc
  activity_case (Some a) there h = timer_case a there (lookup t a.timers) refl h

  runs_out : unwrap_or (option_map (λ a. has_due moment t a.timers) (activity_at p s)) false ≡ true → RunsOut p t s
  runs_out h = activity_case (activity_at p s) refl h

module _ (p : ActivityPath) (t : Name) (s : Process) (x : RunsOut p t s) (sound : IsSoundInFrames [] s) where
  expired_sound : IsSoundInFrames [] (expired p t s)
  expired_sound = expiry_sound s p t x.activity x.timer sound x.there x.found x.unexpired

  expired_grows : Grows 0 1 true s (expired p t s)
  expired_grows = grows_at 1 true p (with_expired t) s x.activity x.there (record { last = next_fired_if (event_of t x.activity.pool.events) x.activity.pool (own_sound [] s sound p x.activity x.there).pool; timers = λ e none. cc })

-- ---- a unit that expires a timer

module _ (moment : ℕ) (s : Process) (sound : IsSoundInFrames [] s) where
  pub system_sound : (u : UnitKind) → may_expire u moment s ≡ true → IsSoundInFrames [] (system u moment s).now.process
  unfolding moved
  system_sound (unit.Expiry key p t) may = expired_sound p t s (runs_out moment p t s may) sound
  system_sound u may = cc

  pub system_within : (g n : ℕ) → is_within g n s ≡ true → (u : UnitKind) → may_expire u moment s ≡ true → is_within g (n + 1) (system u moment s).now.process ≡ true
  unfolding moved
  system_within g n w (unit.Expiry key p t) may =
      grows_within 0 1 true s (expired p t s) (expired_grows p t s (runs_out moment p t s may) sound) g n g (n + 1) (omega arith) (omega arith) w
  system_within g n w u may = cc
