use Rattle.std.proofs.Common.{length}
use Rattle.bts_unit.proofs.Repeated.{IsSoFar}
use Rattle.bts_unit.proofs.repeating.first_other.Given as goal

abbrev pub invariant-loop-call : goal.invariant-loop-call
invariant-loop-call l = IsSoFar l.fn.unit l.unit l.calls l.rest l.number

abbrev pub decreases-loop-call : goal.decreases-loop-call
decreases-loop-call l = length l.rest
