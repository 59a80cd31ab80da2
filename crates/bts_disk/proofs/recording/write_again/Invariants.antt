use Rattle.std.proofs.Common.{◌≡◌, drop}
use Rattle.bts_disk.specs.Memory.{content_after}
use Rattle.bts_disk.proofs.recording.write_again.Given as goal

-- the calls that are left lead to where all lead to
abbrev pub invariant-loop-call : goal.invariant-loop-call
invariant-loop-call l = content_after l.image.items (drop l.call-index l.calls) ≡ content_after l.fn.image.items l.calls
