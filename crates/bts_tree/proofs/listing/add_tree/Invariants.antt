use Rattle.std.proofs.Common.{◌≡◌, ◌++◌}
use Rattle.std.specs.Prelude.{map}
use Rattle.bts_tree.specs.Repositories as repo
use Rattle.bts_tree.specs.Slots.{filled}
use Rattle.bts_tree.proofs.listing.add_tree.Given as goal

-- the rows of what is left still come
abbrev pub invariant-loop-path : goal.invariant-loop-path
invariant-loop-path l =
    (goal.iterator-loop-path).can_next l.path-iterator ×
    (goal.iterator-loop-path).is_finite l.path-iterator ×
    (l.rows ++ map (repo.row_of l.key l.generation) (filled l.path-iterator)
    ≡ l.fn.rows ++ map (repo.row_of l.key l.generation) (filled l.activities.entries))
