use Rattle.std.proofs.Common.{◌≡◌, length}
use Rattle.bts_interp.specs.Steps.{behind_labels}
use Rattle.bts_interp.proofs.stepping.behind_labels.Given as goal

abbrev pub invariant-loop-statement : goal.invariant-loop-statement
invariant-loop-statement l = behind_labels l.rest ≡ behind_labels l.place

abbrev pub decreases-loop-statement : goal.decreases-loop-statement
decreases-loop-statement l = length l.rest
