use Rattle.std.proofs.Common.{ap, sym, subst, ◌∙◌}
use Rattle.bts_tree.proofs.Slotted.{filled_raised, raised_filled}
use Rattle.bts_tree.proofs.tree.Tree.raise.Goals as goal
use Rattle.bts_tree.specs.Repositories.{raised_tree}
use Rattle.bts_tree.specs.Slots.{AreFilled, filled}

pub invariant_of-self : goal.invariant_of-self
invariant_of-self c = subst AreFilled (sym c.raise_all.ensures) (raised_filled c.self.inside.map.entries c.self.invariant)

pub returns : goal.returns
returns c = ap filled c.raise_all.ensures ∙ filled_raised c.self.inside.map.entries ∙ ap raised_tree c.self.view_is
