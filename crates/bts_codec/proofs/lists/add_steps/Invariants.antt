use Rattle.std.proofs.Common.{◌≡◌, ◌++◌, drop}
use Rattle.std.specs.List.{flat_map}
use Rattle.bts_codec.specs.Formats.{number}
use Rattle.bts_codec.proofs.lists.add_steps.Given as goal

abbrev pub invariant-loop-step : goal.invariant-loop-step
invariant-loop-step l = l.out ++ flat_map number.spell (drop l.step-index l.steps) ≡ l.fn.out ++ flat_map number.spell l.steps
