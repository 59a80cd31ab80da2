use Rattle.std.proofs.Common.{length}
use Rattle.bts_journal.proofs.SoFar.{SoFar}
use Rattle.bts_journal.proofs.scanning.scan_bytes.Given as goal

abbrev pub invariant-loop-payload : goal.invariant-loop-payload
invariant-loop-payload l = SoFar l.bytes l.rest l.founds.items l.offset

abbrev pub decreases-loop-payload : goal.decreases-loop-payload
decreases-loop-payload l = length l.rest
