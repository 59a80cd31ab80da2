use Rattle.std.proofs.Common.{◌≡◌, ◌++◌}
use Rattle.bts_container.proofs.pool.copies.Given as goal

abbrev pub invariant-loop-name : goal.invariant-loop-name
invariant-loop-name l =
    (goal.iterator-loop-name).can_next l.name-iterator ×
    (goal.iterator-loop-name).is_finite l.name-iterator ×
    (l.copies.items ++ l.name-iterator ≡ l.map.entries)
