use Rattle.std.proofs.Common.{◌≡◌, ◌↔◌, IsTrue, length}
use Rattle.bts_tree.proofs.Slotted.{empty_tree}
use Rattle.bts_tree.proofs.tree.Tree.is_empty.Goals as goal

pub returns : goal.returns
returns c =
    let i : IsTrue c.is_empty.result ↔ (length c.self.inside.map.entries ≡ 0) = c.is_empty.ensures in
    empty_tree c.self.inside.map.entries c.args.self.now c.is_empty.result c.self.invariant c.self.view_is i
