use Rattle.std.proofs.Common.{◌≡◌, ◌++◌, drop}
use Rattle.std.specs.List.{flat_map}
use Rattle.bts_codec.specs.Units.{call}
use Rattle.bts_codec.proofs.calls.add_each_call.Given as goal

abbrev pub invariant-loop-call : goal.invariant-loop-call
invariant-loop-call l = l.out ++ flat_map call.spell (drop l.call-index l.calls) ≡ l.fn.out ++ flat_map call.spell l.calls
