use Rattle.std.proofs.Common.{◌-◌, length}
use Rattle.bts_interp.specs.Ready.{IsExecutable}
use Rattle.bts_interp.proofs.tests.with_part.Given as goal

abbrev pub invariant-loop-part : goal.invariant-loop-part
invariant-loop-part l = IsExecutable l.script

abbrev pub decreases-loop-part : goal.decreases-loop-part
decreases-loop-part l = l.most - length l.script
