use Rattle.std.proofs.Common.{◌≡◌, ◌++◌}
use Rattle.std.specs.Prelude.{map}
use Rattle.std.specs.Vec.Iter.{into_iter_items, into_iter_len}
use Rattle.bts_tree.specs.Keeping as keeping
use Rattle.bts_tree.proofs.stored.slots_of.Given as goal

-- what is left still comes
abbrev pub invariant-loop-scope : goal.invariant-loop-scope
invariant-loop-scope l =
    l.slots.items ++ keeping.slots_of (map (λ h. h.process) (into_iter_items l.rest)) ≡ keeping.slots_of (map (λ h. h.process) l.fn.scopes.items)

abbrev pub decreases-loop-scope : goal.decreases-loop-scope
decreases-loop-scope l = into_iter_len l.rest
