use Rattle.std.proofs.Common.{◌≡◌}
use Rattle.bts_tree.specs.Repositories as repo
use Rattle.bts_tree.specs.Slots.{filled}
use Rattle.bts_tree.proofs.due.due_in_tree.Given as goal

-- what is left has the answer
abbrev pub invariant-loop-path : goal.invariant-loop-path
invariant-loop-path l =
    (goal.iterator-loop-path).can_next l.path-iterator ×
    (goal.iterator-loop-path).is_finite l.path-iterator ×
    (repo.first_behind repo.timer_place_cmp l.after (repo.due_among l.now l.key (filled l.activities.entries))
    ≡ repo.first_behind repo.timer_place_cmp l.after (repo.due_among l.now l.key (filled l.path-iterator)))
