use Rattle.std.proofs.Common.{◌≡◌, ◌++◌}
use Rattle.std.specs.Vec.Iter.{into_iter_items, into_iter_len}
use Rattle.bts_tree.specs.Slots.{in_slots}
use Rattle.bts_tree.proofs.slot_maps.boxed_all.Given as goal

-- what is left still comes
abbrev pub invariant-loop-entry : goal.invariant-loop-entry
invariant-loop-entry l = l.slots.items ++ in_slots (into_iter_items l.rest) ≡ in_slots l.fn.activities.items

abbrev pub decreases-loop-entry : goal.decreases-loop-entry
decreases-loop-entry l = into_iter_len l.rest
