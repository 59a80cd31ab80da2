-- Why an ended unit isn't one that processes give.
use Rattle.std.specs.Prelude.{◌≡◌, ◌≢◌, ◌⊎◌, ℕ, zero, suc, Bool, ◌<◌, true, false, List, [], length, take, slice_get, Option, Some, None, is_some}
use Rattle.bts_command.specs.declared.command.Call.{Call}
use Rattle.bts_command.specs.declared.ended.End.{End}
use Rattle.bts_command.specs.declared.ended.End.TheVariants.{Commit}
use Rattle.bts_command.specs.declared.ended.Ended.{Ended}
use Rattle.bts_command.specs.declared.ended.UnitKind.{UnitKind}
use Rattle.bts_command.specs.declared.ended.UnitKind.TheVariants as unit
use Rattle.bts_tree.specs.Processes.{Process}
use Rattle.bts_tree.specs.Repositories.{Processes}
use Rattle.bts_unit.specs.Playing.{finished, may_run, process_of, replayed}
use Rattle.bts_unit.specs.declared.apply_error.ApplyError.{ApplyError}
use Rattle.bts_unit.specs.declared.apply_error.ApplyError.TheVariants as error

-- ---- what is given of an ended unit

-- the calls that a process gives it, and its end; a unit without a process has no calls, and commits
abbrev pub calls_given : Ended → Option Process → List Call
calls_given e None = []
calls_given e (Some s) = (replayed e s).calls

abbrev pub end_given : Ended → Option Process → Option End
end_given e None = Some Commit
end_given e (Some s) = (finished e s).end

-- ---- where it parts from what is given

-- a call that is told is the first that isn't given: it stands behind the end, or has another reply
pub record IsFirstOther (given told : List Call) (i : ℕ) : Type 0 where
  pub same_before : take i given ≡ take i told
  pub is_told : i < length told
  pub other : slice_get given i ≢ slice_get told i

-- the same, with the calls counted from 1
abbrev pub IsOtherCall : List Call → List Call → ℕ → Type 0
IsOtherCall given told zero = ⊥
IsOtherCall given told (suc i) = IsFirstOther given told i

-- all calls are given, and the end isn't
pub record HasOtherEnd (e : Ended) (s : Option Process) (call : ℕ) : Type 0 where
  pub calls : calls_given e s ≡ e.calls
  pub end : end_given e s ≢ Some e.end
  pub uncounted : call ≡ 0

-- told otherwise than it is given: the number is that of the first call that isn't given
abbrev pub IsToldOtherwise : Ended → Option Process → ℕ → Type 0
IsToldOtherwise e s call = IsOtherCall (calls_given e s) e.calls call ⊎ HasOtherEnd e s call

-- why it isn't replayed; memory is wanted for a process alone
abbrev pub IsOtherwise : Ended → Option Process → ApplyError → Type 0
IsOtherwise e s (error.NotLegal call) = IsToldOtherwise e s call
IsOtherwise e s error.NoMemory = is_some s ≡ true

-- ---- why it isn't applied

-- the processes don't let it run
pub record IsNotEnabled (repo : Processes) (e : Ended) (call : ℕ) : Type 0 where
  pub disabled : may_run e.unit e.moment repo ≡ false
  pub uncounted : call ≡ 0

-- they let it run, and don't give it so
pub record IsNotGiven (repo : Processes) (e : Ended) (call : ℕ) : Type 0 where
  pub enabled : may_run e.unit e.moment repo ≡ true
  pub other : IsToldOtherwise e (process_of e.unit repo) call

-- they let it run, and it has a process, which memory is wanted for
pub record WantsMemory (repo : Processes) (e : Ended) : Type 0 where
  pub enabled : may_run e.unit e.moment repo ≡ true
  pub process : is_some (process_of e.unit repo) ≡ true

abbrev pub IsCause : Processes → Ended → ApplyError → Type 0
IsCause repo e (error.NotLegal call) = IsNotEnabled repo e call ⊎ IsNotGiven repo e call
IsCause repo e error.NoMemory = WantsMemory repo e

-- the units that are played call by call, and those without a process: all but notices and expiries
abbrev pub is_played : UnitKind → Bool
is_played (unit.Notice key path) = false
is_played (unit.Expiry key path timer) = false
is_played _ = true
