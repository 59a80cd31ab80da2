use Rattle.std.proofs.Common.{◌≡◌}
use Rattle.std.specs.List.{flat_map}
use Rattle.bts_tree.specs.Keeping as keeping
use Rattle.bts_tree.specs.Repositories as repo
use Rattle.bts_tree.proofs.walk.next_place.Given as goal

-- what is left has the answer
abbrev pub invariant-loop-key : goal.invariant-loop-key
invariant-loop-key l =
    (goal.iterator-loop-key).can_next l.key-iterator ×
    (goal.iterator-loop-key).is_finite l.key-iterator ×
    (repo.first_behind repo.place_cmp l.after (flat_map (repo.chosen_of (keeping.wants l.wanted)) (keeping.processes_of l.map.entries))
    ≡ repo.first_behind repo.place_cmp l.after (flat_map (repo.chosen_of (keeping.wants l.wanted)) (keeping.processes_of l.key-iterator)))
