use Rattle.bts_tree.proofs.Slotted.{same_tree}
use Rattle.bts_tree.proofs.tree.Tree.is_in.Goals as goal

pub returns : goal.returns
returns c = same_tree c.args.slots.now.entries c.self.inside.map.entries c.args.self.now c.same_maps.result c.self.invariant c.self.view_is c.same_maps.ensures
