use Rattle.std.proofs.Common.{◌≡◌}
use Rattle.bts_tree.specs.Slots.{filled}
use Rattle.bts_tree.proofs.slot_maps.is_bare.Given as goal

-- what is left has all that is filled
abbrev pub invariant-loop-slot : goal.invariant-loop-slot
invariant-loop-slot l =
    (goal.iterator-loop-slot).can_next l.slot-iterator ×
    (goal.iterator-loop-slot).is_finite l.slot-iterator ×
    (filled l.slot-iterator ≡ filled l.map.entries)
