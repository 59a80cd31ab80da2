use Rattle.std.proofs.Common.{◌∙◌, ap, sym, subst, nat_cmp}
use Rattle.std.specs.Cmp.Lexicographic.{slice_cmp}
use Rattle.std.specs.List.Sorted.{IsStrictlySortedBy}
use Rattle.std.specs.Map.{keys_of}
use Rattle.bts_names.specs.Names.{same_exact}
use Rattle.bts_tree.proofs.Slotted.{filled_in_slots, in_slots_filled, keys_in_slots}
use Rattle.bts_tree.proofs.tree.Tree.from_parts.Goals as goal
use Rattle.bts_tree.specs.Slots.{AreFilled, filled}

pub map_of-requires-clause-exact : goal.map_of-requires-clause-exact
map_of-requires-clause-exact c = same_exact

pub map_of-requires-clause-rising : goal.map_of-requires-clause-rising
map_of-requires-clause-rising c =
    subst (IsStrictlySortedBy (slice_cmp nat_cmp)) (sym (ap keys_of c.in_ok-slots.ensures ∙ keys_in_slots c.args.activities.items)) c.requires

pub invariant_of-result : goal.invariant_of-result
invariant_of-result c = subst AreFilled (sym (c.in_ok-map.ensures ∙ c.in_ok-slots.ensures)) (in_slots_filled c.args.activities.items)

pub returns : goal.returns
returns c = ap filled (c.in_ok-map.ensures ∙ c.in_ok-slots.ensures) ∙ filled_in_slots c.args.activities.items
