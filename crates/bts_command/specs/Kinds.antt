-- What kinds of units there are: activations, those that hold a process, and those that are committed.
use Rattle.std.specs.Prelude.{Bool, true, false, not, ◌&&◌, List, Option, Some, None}
use Rattle.std.specs.List.{filter}
use Rattle.bts_names.specs.declared.key.Key.{Key}
use Rattle.bts_command.specs.declared.ended.End.{End}
use Rattle.bts_command.specs.declared.ended.End.TheVariants.{Commit, Rollback, Abend}
use Rattle.bts_command.specs.declared.ended.Ended.{Ended}
use Rattle.bts_command.specs.declared.ended.UnitKind.{UnitKind}
use Rattle.bts_command.specs.declared.ended.UnitKind.TheVariants as unit

abbrev pub is_activation : UnitKind → Bool
is_activation (unit.Activation key path) = true
is_activation _ = false

-- the key of the process that a unit holds; CLOCK, SETTLE and BROWSE hold none
abbrev pub key_of : UnitKind → Option Key
key_of (unit.Request item key) = Some key
key_of (unit.Activation key path) = Some key
key_of (unit.Notice key path) = Some key
key_of (unit.Expiry key path timer) = Some key
key_of _ = None

-- ---- committed units

-- what a unit of this kind leaves is kept
abbrev pub is_kept : UnitKind → Bool
is_kept (unit.Clock item) = false
is_kept (unit.Settle item) = false
is_kept (unit.Browse item) = false
is_kept _ = true

abbrev pub is_rollback : End → Bool
is_rollback Commit = false
is_rollback Rollback = true
is_rollback (Abend code) = false

-- a unit is committed, and so is one that ended with an abend
abbrev pub is_committed : Ended → Bool
is_committed e = is_kept e.unit && not (is_rollback e.end)

abbrev pub committed : List Ended → List Ended
committed h = filter is_committed h
