use Rattle.std.proofs.Common.{◌∙◌, ap, sym, subst}
use Rattle.bts_tree.proofs.Slotted.{filled_tidied, tidied}
use Rattle.bts_tree.proofs.tree.Tree.of_slots.Goals as goal
use Rattle.bts_tree.specs.Slots.{AreFilled, filled}

pub invariant_of-result : goal.invariant_of-result
invariant_of-result c = subst AreFilled (sym c.tidy.ensures) (tidied c.args.slots.entries)

pub returns : goal.returns
returns c = ap filled c.tidy.ensures ∙ filled_tidied c.args.slots.entries
