use Rattle.std.proofs.Common.{◌≤◌, take}
use Rattle.bts_disk.specs.Memory.{IsBehindSyncs}
use Rattle.bts_disk.proofs.recording.behind_syncs.Given as goal

abbrev pub invariant-loop-i : goal.invariant-loop-i
invariant-loop-i l = record { within : l.place ≤ l.i; behind : IsBehindSyncs (take l.i l.calls) l.place }
