use Rattle.std.proofs.Common.{◌≡◌, nat_lt}
use Rattle.std.specs.List.{list_all}
use Rattle.bts_tree.specs.Slots.{filled}
use Rattle.bts_unit.proofs.tests.all_numbered.Given as goal

abbrev pub invariant-loop-path : goal.invariant-loop-path
invariant-loop-path l =
    (goal.iterator-loop-path).can_next l.path-iterator ×
    (goal.iterator-loop-path).is_finite l.path-iterator ×
    (list_all (λ x. nat_lt x.1.pool.last 18446744073709551615) (filled l.path-iterator) ≡ list_all (λ x. nat_lt x.1.pool.last 18446744073709551615) (filled l.activities.entries))
