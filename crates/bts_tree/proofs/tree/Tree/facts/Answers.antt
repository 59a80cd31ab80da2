use Rattle.std.proofs.Common.{subst, nat_cmp}
use Rattle.std.specs.Cmp.Lexicographic.{slice_cmp}
use Rattle.std.specs.List.Sorted.{IsStrictlySortedBy}
use Rattle.std.specs.Map.{keys_of}
use Rattle.bts_tree.proofs.Slotted.{filled_rising}
use Rattle.bts_tree.proofs.tree.Tree.facts.Goals as goal

pub returns : goal.returns
returns c = record { rising = subst (λ tree. IsStrictlySortedBy (slice_cmp nat_cmp) (keys_of tree)) c.self.view_is (filled_rising c.self.inside.map.entries c.len.ensures.ordered) }
