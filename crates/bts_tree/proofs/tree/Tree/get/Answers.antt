use Rattle.std.proofs.Common.{◌∙◌, ap, sym}
use Rattle.bts_names.specs.Named.{lookup}
use Rattle.bts_tree.proofs.Slotted.{found}
use Rattle.bts_tree.proofs.tree.Tree.get.Goals as goal

pub returns : goal.returns
returns c =
    c.read_slot.ensures.value ∙ sym (found c.args.path.now c.self.inside.map.entries c.read_slot.ensures.rising) ∙ ap (lookup c.args.path.now) c.self.view_is
