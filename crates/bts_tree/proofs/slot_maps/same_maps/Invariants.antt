use Rattle.std.proofs.Common.{◌≡◌, ◌↔◌}
use Rattle.bts_tree.specs.Slots.{filled, in_slots}
use Rattle.bts_tree.proofs.slot_maps.same_maps.Given as goal

-- what is left of both decides
abbrev pub invariant-loop-path : goal.invariant-loop-path
invariant-loop-path l =
    (goal.iterator-loop-path).can_next l.path-iterator ×
    (goal.iterator-loop-path).is_finite l.path-iterator ×
    ((in_slots (filled l.map.entries) ≡ l.other.entries) ↔ (in_slots (filled l.path-iterator) ≡ l.rest))
