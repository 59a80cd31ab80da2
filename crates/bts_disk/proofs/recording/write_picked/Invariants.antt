use Rattle.std.proofs.Common.{◌≡◌, drop}
use Rattle.bts_disk.specs.Memory.{picked_calls}
use Rattle.bts_disk.proofs.recording.write_picked.Given as goal

-- the calls that are left lead to where all lead to
abbrev pub invariant-loop-call : goal.invariant-loop-call
invariant-loop-call l = picked_calls l.pick l.image.items (drop l.call-index l.calls) ≡ picked_calls l.pick l.fn.image.items l.calls
