use Rattle.std.proofs.Common.{rules, ◌≡◌, ◌∙◌, ap, sym, length}
use Rattle.bts_tree.proofs.Slotted.{filled_length}
use Rattle.bts_tree.proofs.tree.Tree.len.Goals as goal

pub returns : goal.returns
returns c =
    let l : c.len.result ≡ length c.self.inside.map.entries = search rules in
    l ∙ sym (filled_length c.self.inside.map.entries c.self.invariant) ∙ ap length c.self.view_is
