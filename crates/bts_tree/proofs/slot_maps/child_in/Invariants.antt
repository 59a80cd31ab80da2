use Rattle.std.proofs.Common.{◌≡◌}
use Rattle.bts_tree.specs.Activities as activities
use Rattle.bts_tree.specs.Slots.{filled}
use Rattle.bts_tree.proofs.slot_maps.child_in.Given as goal

-- what is left has the answer
abbrev pub invariant-loop-place : goal.invariant-loop-place
invariant-loop-place l =
    (goal.iterator-loop-place).can_next l.place-iterator ×
    (goal.iterator-loop-place).is_finite l.place-iterator ×
    (activities.child_in l.path l.name (filled l.map.entries) ≡ activities.child_in l.path l.name (filled l.place-iterator))
