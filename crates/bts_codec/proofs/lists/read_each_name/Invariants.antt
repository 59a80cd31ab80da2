use Rattle.std.proofs.Common.{◌≡◌, ◌-◌}
use Rattle.bts_codec.specs.Formats.{so_many_at}
use Rattle.bts_codec.specs.Fields.{name}
use Rattle.bts_codec.proofs.Loops.{with_front}
use Rattle.bts_codec.proofs.lists.read_each_name.Given as goal

abbrev pub invariant-loop-turn : goal.invariant-loop-turn
invariant-loop-turn l =
    with_front l.names (so_many_at name.at (l.count - l.turn) l.bytes) ≡ so_many_at name.at l.count l.fn.bytes
