use Rattle.std.proofs.Common.{◌≡◌, ◌++◌}
use Rattle.std.specs.Vec.Iter.{into_iter_items, into_iter_len}
use Rattle.bts_container.proofs.pool.shared_all.Given as goal

-- what is left still comes
abbrev pub invariant-loop-container : goal.invariant-loop-container
invariant-loop-container l = l.shared.items ++ into_iter_items l.rest ≡ l.fn.containers.items

abbrev pub decreases-loop-container : goal.decreases-loop-container
decreases-loop-container l = into_iter_len l.rest
