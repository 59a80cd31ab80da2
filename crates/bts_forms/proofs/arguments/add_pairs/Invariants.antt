use Rattle.std.proofs.Common.{◌≡◌, ◌++◌, length}
use Rattle.std.specs.Option.{option_map}
use Rattle.bts_forms.specs.Arguments.{hex_pairs}
use Rattle.bts_forms.proofs.arguments.add_pairs.Given as goal

abbrev pub invariant-loop-rest : goal.invariant-loop-rest
invariant-loop-rest l =
    option_map (λ bytes. l.out ++ bytes) (hex_pairs l.rest) ≡ option_map (λ bytes. l.fn.out ++ bytes) (hex_pairs l.fn.pairs)

abbrev pub decreases-loop-rest : goal.decreases-loop-rest
decreases-loop-rest l = length l.rest
