use Rattle.std.proofs.Common.{◌≡◌, ◌++◌, drop}
use Rattle.std.specs.List.{flat_map}
use Rattle.bts_codec.specs.Formats.{string}
use Rattle.bts_codec.proofs.lists.add_each_name.Given as goal

abbrev pub invariant-loop-name : goal.invariant-loop-name
invariant-loop-name l = l.out ++ flat_map string.spell (drop l.name-index l.names) ≡ l.fn.out ++ flat_map string.spell l.names
