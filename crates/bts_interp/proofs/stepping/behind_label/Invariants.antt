use Rattle.std.proofs.Common.{◌≡◌, length}
use Rattle.bts_interp.specs.Steps.{behind_label}
use Rattle.bts_interp.proofs.stepping.behind_label.Given as goal

abbrev pub invariant-loop-statement : goal.invariant-loop-statement
invariant-loop-statement l = behind_label l.label l.rest ≡ behind_label l.label l.script

abbrev pub decreases-loop-statement : goal.decreases-loop-statement
decreases-loop-statement l = length l.rest
