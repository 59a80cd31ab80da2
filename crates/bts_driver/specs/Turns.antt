-- What a driver makes of a station.
use Rattle.std.specs.Prelude.{◌≡◌, ℕ, ◌<◌, ◌≤◌, Bool, true, false, List, [], ◌++◌, Option, Some, None}
use Rattle.bts_command.specs.declared.ended.Ended.{Ended}
use Rattle.bts_driver.specs.declared.driver.Stop.{Stop}
use Rattle.bts_driver.specs.declared.driver.Stop.TheVariants as stop
use Rattle.bts_driver.specs.declared.driver.Turn.{Turn}
use Rattle.bts_driver.specs.declared.driver.Turn.TheVariants as turn
use Rattle.bts_interp.specs.Stations.{Answer, Out, all_done, limit_met}

-- the answer for which a stop stands; want of memory stands for none
abbrev pub stop_answer : Stop → Option Answer
stop_answer stop.Done = Some all_done
stop_answer (stop.Limit count) = Some (limit_met count)
stop_answer stop.NoMemory = None

abbrev pub is_ended : Turn → Bool
is_ended turn.Ended = true
is_ended turn.NoMemory = false

-- the units that had ended stand first
pub record HasMore (before now : List Ended) : Type 0 where
  pub more : List Ended
  pub behind : now ≡ before ++ more

-- one turn: where a unit ended the rest fell
pub record Grows (ended : Bool) (before now : List Ended) (rest rest' : ℕ) : Type 0 where
  pub more : HasMore before now
  pub no_more : rest' ≤ rest
  pub falls : ended ≡ true → rest' < rest

-- what the loop over a station keeps
pub record IsKept {S : Type 0} (ended : S → List Ended) (out : S → List Out) (in_order : S → Type 0) (within : ℕ → S → Type 0) (first now : S) : Type 0 where
  pub nothing_out : out now ≡ []
  pub order : in_order first → in_order now
  pub bound : (b : ℕ) → within b first → within b now
  pub more : HasMore (ended first) (ended now)
