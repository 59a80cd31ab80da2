use Rattle.bts_names.specs.Names.{same_exact}
use Rattle.bts_tree.proofs.slot_maps.copied_slots.Goals as goal

pub map_of-requires-clause-exact : goal.map_of-requires-clause-exact
map_of-requires-clause-exact c = same_exact
