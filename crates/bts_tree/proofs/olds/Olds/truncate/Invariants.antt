use Rattle.std.proofs.Common.{◌≡◌, length, take}
use Rattle.bts_tree.proofs.olds.Olds.truncate.Given as goal

-- what stands in front of the place is left
abbrev pub invariant-loop-self : goal.invariant-loop-self
invariant-loop-self l = take l.place l.self ≡ take l.place l.fn.self

abbrev pub decreases-loop-self : goal.decreases-loop-self
decreases-loop-self l = length l.self
