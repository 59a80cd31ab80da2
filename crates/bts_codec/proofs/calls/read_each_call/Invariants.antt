use Rattle.std.proofs.Common.{◌≡◌, ◌-◌}
use Rattle.bts_codec.specs.Formats.{so_many_at}
use Rattle.bts_codec.specs.Units.{call}
use Rattle.bts_codec.proofs.Loops.{with_front}
use Rattle.bts_codec.proofs.calls.read_each_call.Given as goal

abbrev pub invariant-loop-turn : goal.invariant-loop-turn
invariant-loop-turn l =
    with_front l.calls (so_many_at call.at (l.count - l.turn) l.bytes) ≡ so_many_at call.at l.count l.fn.bytes
