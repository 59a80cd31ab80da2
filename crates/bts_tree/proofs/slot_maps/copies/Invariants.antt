use Rattle.std.proofs.Common.{◌≡◌, ◌++◌}
use Rattle.bts_tree.proofs.slot_maps.copies.Given as goal

-- what is left still comes
abbrev pub invariant-loop-path : goal.invariant-loop-path
invariant-loop-path l =
    (goal.iterator-loop-path).can_next l.path-iterator ×
    (goal.iterator-loop-path).is_finite l.path-iterator ×
    (l.copies.items ++ l.path-iterator ≡ l.map.entries)
