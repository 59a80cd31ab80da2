use Rattle.std.proofs.Common.{◌≡◌, ◌+◌, ◌<◌, ◌^◌, length}
use Rattle.bts_tree.specs.Slots.{filled}
use Rattle.bts_tree.proofs.slot_maps.count_filled.Given as goal

-- what is left is still to be counted
abbrev pub invariant-loop-slot : goal.invariant-loop-slot
invariant-loop-slot l =
    (goal.iterator-loop-slot).can_next l.slot-iterator ×
    (goal.iterator-loop-slot).is_finite l.slot-iterator ×
    (l.count + length (filled l.slot-iterator) ≡ length (filled l.map.entries)) ×
    (length (filled l.map.entries) < 2 ^ 63)
