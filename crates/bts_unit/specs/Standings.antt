-- What stands behind some calls of a unit: its process, and an account of the entries so far.
use Rattle.std.specs.Prelude.{Bool, true, false, List, [], ◌++◌}
use Rattle.bts_tree.specs.declared.mark.Mark.{Mark}
use Rattle.bts_tree.specs.Processes.{Process}
use Rattle.bts_unit.specs.Marks.{made_since, gone_since}

-- a process, and the entries so far: those that were made, those that were retrieved, and those that went in
-- another way
pub record Standing : Type 0 where
  pub process : Process
  pub entered : List Mark
  pub retrieved : List Mark
  pub dropped : List Mark

-- a process of which nothing was made, retrieved or dropped yet
abbrev pub standing : Process → Standing
standing s = record { process = s; entered = []; retrieved = []; dropped = [] }

-- another process stands, and the account stays
abbrev pub with_process : Process → Standing → Standing
with_process s now = record now { process = s }

-- another process stands: entries that are new were made, and those that it lacks were dropped
unfoldable pub moved : Standing → Process → Standing
moved now s =
    record {
      process = s;
      entered = now.entered ++ made_since now.process s;
      retrieved = now.retrieved;
      dropped = now.dropped ++ gone_since now.process s;
    }

-- the same, but those that it lacks were retrieved
unfoldable pub retrieving : Standing → Process → Standing
retrieving now s =
    record {
      process = s;
      entered = now.entered ++ made_since now.process s;
      retrieved = now.retrieved ++ gone_since now.process s;
      dropped = now.dropped;
    }

-- what stands behind a command that left this process, and that retrieved an entry or not
abbrev pub behind : Bool → Standing → Process → Standing
behind true now s = retrieving now s
behind false now s = moved now s
