-- What holds of a command that was given, and isn't refused.
use Rattle.std.proofs.Common.{◌≡◌, Bool, true, false, if◌then◌else◌, not, List, [], ◌∷◌, Option, Some, None, unwrap_or, option_to_list, refl}
use Rattle.std.specs.List.{list_any}
use Rattle.std.proofs.lemmas.Bool.{or_parts}
use Rattle.bts_names.specs.Names.{Name, same, initial_name, root_name}
use Rattle.bts_names.specs.Named.{lookup, is_there}
use Rattle.bts_names.specs.declared.reply.Reason.TheVariants as reason
use Rattle.bts_command.specs.Given.{is_systems}
use Rattle.bts_event.specs.Events.{Events}
use Rattle.bts_event.specs.Refusals as refusals
use Rattle.bts_timer.specs.declared.timer.Timer.{Timer as OneTimer}
use Rattle.bts_timer.specs.Due.{is_unexpired}
use Rattle.bts_timer.specs.Timers.{Timers, missing_or_ended}

-- ---- names of programs

pub users_name : (n : Name) → is_systems n ≡ false → same n initial_name ≡ false
users_name n h = (or_parts (same n initial_name) (same n root_name) h).0

pub first_name : (n : Name) (ns : List Name) → list_any is_systems (n ∷ ns) ≡ false → same n initial_name ≡ false
first_name n ns h = users_name n (or_parts (is_systems n) (list_any is_systems ns) h).0

-- the name of a timer's event, given or the timer's own
pub event_name : (t : Name) (e : Option Name) → list_any is_systems (t ∷ option_to_list e) ≡ false
    → same (unwrap_or e t) initial_name ≡ false
event_name t None h = first_name t [] h
event_name t (Some e) h = first_name e [] (or_parts (is_systems t) (list_any is_systems (e ∷ [])) h).1

-- ---- what isn't refused

pub record IsRunning (t : Name) (timers : Timers) : Type 0 where
  pub timer : OneTimer
  pub found : lookup t timers ≡ Some timer
  pub unexpired : is_unexpired timer ≡ true

pub ended_case : (b : Bool) → (if b then None else Some reason.Ended) ≡ None → b ≡ true
ended_case true h = refl
ended_case false h = cc

pub running_case : (o : Option OneTimer) (t : Name) (timers : Timers) → lookup t timers ≡ o → missing_or_ended o ≡ None → IsRunning t timers
running_case None t timers e h = cc
running_case (Some x) t timers e h = record { timer = x; found = e; unexpired = ended_case (is_unexpired x) h }

pub not_missing : (b : Bool) → not b ≡ false → b ≡ true
not_missing true h = refl
not_missing false h = cc

pub define_allowed : (e : Name) (es : Events) → is_there e es ≡ false → refusals.is_full es ≡ false → refusals.define_refusal e es ≡ None
define_allowed e es h g = rw (h, g)
