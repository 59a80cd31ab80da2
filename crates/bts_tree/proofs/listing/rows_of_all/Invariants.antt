use Rattle.std.proofs.Common.{◌≡◌, ◌++◌}
use Rattle.std.specs.List.{flat_map}
use Rattle.bts_tree.specs.Keeping as keeping
use Rattle.bts_tree.specs.Repositories as repo
use Rattle.bts_tree.proofs.listing.rows_of_all.Given as goal

-- the rows of what is left still come
abbrev pub invariant-loop-key : goal.invariant-loop-key
invariant-loop-key l =
    (goal.iterator-loop-key).can_next l.key-iterator ×
    (goal.iterator-loop-key).is_finite l.key-iterator ×
    (l.rows ++ flat_map repo.rows_of (keeping.processes_of l.key-iterator) ≡ flat_map repo.rows_of (keeping.processes_of l.map.entries))
