use Rattle.std.proofs.Common.{◌≡◌}
use Rattle.std.specs.List.{list_all}
use Rattle.bts_act.specs.Early.{has_none_early}
use Rattle.bts_tree.specs.Slots.{filled}
use Rattle.bts_act.proofs.early.all_late.Given as goal

abbrev pub invariant-loop-path : goal.invariant-loop-path
invariant-loop-path l =
    (goal.iterator-loop-path).can_next l.path-iterator ×
    (goal.iterator-loop-path).is_finite l.path-iterator ×
    (list_all (λ x. has_none_early x.1) (filled l.path-iterator) ≡ list_all (λ x. has_none_early x.1) (filled l.activities.entries))
