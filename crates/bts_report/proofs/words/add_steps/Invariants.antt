use Rattle.std.proofs.Common.{◌≡◌, ◌++◌, ◌∷◌, drop}
use Rattle.std.specs.List.{flat_map}
use Rattle.std.specs.Fmt.{decimal}
use Rattle.bts_report.proofs.words.add_steps.Given as goal

abbrev pub invariant-loop-n : goal.invariant-loop-n
invariant-loop-n l = l.out ++ flat_map (λ x. 47 ∷ decimal x) (drop l.n-index l.numbers) ≡ l.fn.out ++ flat_map (λ x. 47 ∷ decimal x) l.numbers
