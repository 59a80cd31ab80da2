-- What a session that was done came to.
use Rattle.std.specs.Prelude.{◌≡◌, ℕ, true, List, [], Some}
use Rattle.bts_command.specs.declared.ended.Ended.{Ended}
use Rattle.bts_command.specs.declared.ended.UnitKind.{UnitKind}
use Rattle.bts_driver.specs.declared.driver.Stop.{Stop}
use Rattle.bts_driver.specs.declared.driver.Stop.TheVariants as stop
use Rattle.bts_region.specs.Enabled.{least, works}
use Rattle.bts_region.specs.Items.{EachItemOnce}
use Rattle.bts_command.specs.Kinds.{is_activation}
use Rattle.bts_region.specs.Positions.{behind_all, origin}
use Rattle.bts_region.specs.Serial.{IsInOrder, IsSerial, activations_in}
use Rattle.bts_session.specs.declared.session.Session.{Session}
use Rattle.bts_tool.specs.declared.session.Ran.{Ran}

-- all is done: the history is the serial one, with each item once, and nothing is enabled behind it
pub record IsAllDone (s : Session) (limit : ℕ) (h : List Ended) : Type 0 where
  pub serial : IsSerial s origin limit h
  pub nothing_enabled : works s (behind_all origin h) ≡ []
  pub each_item_once : EachItemOnce s h

-- as many activations as are allowed have ended, and another one is next
pub record IsAtLimit (s : Session) (limit : ℕ) (h : List Ended) (count : ℕ) : Type 0 where
  pub serial : IsSerial s origin limit h
  pub next : UnitKind
  pub enabled : least s (behind_all origin h) ≡ Some next
  pub activation : is_activation next ≡ true
  pub count_is : count ≡ limit
  pub ended : activations_in h ≡ limit

-- why the history goes no further
abbrev pub IsStopped : Session → ℕ → List Ended → Stop → Type 0
IsStopped s limit h stop.Done = IsAllDone s limit h
IsStopped s limit h (stop.Limit count) = IsAtLimit s limit h count
IsStopped s limit h stop.NoMemory = Unit {0}

-- the units are the first ones of the session's serial history
pub record IsRunOf (s : Session) (limit : ℕ) (r : Ran) : Type 0 where
  pub in_order : IsInOrder s origin limit r.history
  pub stopped : IsStopped s limit r.history r.stop
