use Rattle.std.proofs.Common.{◌≡◌, ◌+◌, ◌-◌}
use Rattle.bts_interp.specs.Steps.{next}
use Rattle.bts_interp.proofs.Places.{later}
use Rattle.bts_interp.proofs.stepping.run_to_command.Given as goal

abbrev pub invariant-loop-passed : goal.invariant-loop-passed
invariant-loop-passed g l =
    (later l.passed (next (l.most - l.passed) l.script l.own l.place) ≡ next l.most l.script l.own l.from) × (l.steps ≡ l.fn.steps + l.passed)
