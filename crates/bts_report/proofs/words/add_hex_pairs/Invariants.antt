use Rattle.std.proofs.Common.{◌≡◌, ◌++◌, drop}
use Rattle.std.specs.List.{flat_map}
use Rattle.bts_report.specs.Words.{hex_pair}
use Rattle.bts_report.proofs.words.add_hex_pairs.Given as goal

abbrev pub invariant-loop-b : goal.invariant-loop-b
invariant-loop-b l = l.out ++ flat_map hex_pair (drop l.b-index l.bytes) ≡ l.fn.out ++ flat_map hex_pair l.bytes
