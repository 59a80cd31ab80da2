use Rattle.std.proofs.Common.{◌≡◌, ◌≤◌, ◌+◌, ◌-◌, ◌*◌, length, true}
use Rattle.std.specs.Prelude.{fold}
use Rattle.std.specs.List.{list_all}
use Rattle.bts_forms.specs.Texts.{is_digit, decimal_value}
use Rattle.bts_forms.proofs.arguments.value_within.Given as goal

abbrev pub invariant-loop-rest : goal.invariant-loop-rest
invariant-loop-rest l =
    (fold (λ v b. 10 * v + (b - 48)) l.value l.rest ≡ decimal_value l.fn.digits)
    × (list_all is_digit l.rest ≡ true)
    × (l.value ≤ l.most)

abbrev pub decreases-loop-rest : goal.decreases-loop-rest
decreases-loop-rest l = length l.rest
