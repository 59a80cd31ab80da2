use Rattle.std.proofs.Common.{◌∙◌}
use Rattle.bts_tree.proofs.Slotted.{set_is_mapped}
use Rattle.bts_tree.proofs.undoing.write.Goals as goal

pub returns-clause-entries : goal.returns-clause-entries
returns-clause-entries c = c.set.ensures.entries ∙ set_is_mapped c.args.path.now c.args.activity c.args.map.now.entries c.set.ensures.rising
