use Rattle.std.proofs.Common.{◌≡◌, ◌||◌}
use Rattle.bts_names.specs.declared.key.Key.{Key}
use Rattle.bts_tree.proofs.index.awake_keys.Given as goal
use Rattle.bts_tree.specs.Indexes.{has_key, is_any_awake}

-- the keys of what is left still come
abbrev pub invariant-loop-key : goal.invariant-loop-key
invariant-loop-key l =
    (goal.iterator-loop-key).can_next l.key-iterator ×
    (goal.iterator-loop-key).is_finite l.key-iterator ×
    ((k : Key) → (has_key k l.keys.keys || is_any_awake k l.key-iterator) ≡ is_any_awake k l.map.entries)
