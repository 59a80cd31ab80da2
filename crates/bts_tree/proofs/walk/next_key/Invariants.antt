use Rattle.std.proofs.Common.{◌≡◌}
use Rattle.bts_names.specs.Keys.{key_cmp}
use Rattle.bts_tree.proofs.walk.next_key.Given as goal
use Rattle.bts_tree.specs.Keeping as keeping
use Rattle.bts_tree.specs.Repositories as repo

-- what is left has the answer
abbrev pub invariant-loop-key : goal.invariant-loop-key
invariant-loop-key l =
    (goal.iterator-loop-key).can_next l.key-iterator ×
    (goal.iterator-loop-key).is_finite l.key-iterator ×
    (repo.first_behind key_cmp l.after (keeping.keys_of_all l.map.entries)
    ≡ repo.first_behind key_cmp l.after (keeping.keys_of_all l.key-iterator))
