use Rattle.std.proofs.Common.{◌≡◌, ◌++◌, ◌-◌}
use Rattle.bts_codec.specs.Formats.{number_bytes}
use Rattle.bts_codec.proofs.numbers.add_number.Given as goal

abbrev pub invariant-loop-turn : goal.invariant-loop-turn
invariant-loop-turn l = l.out ++ number_bytes (10 - l.turn) l.left ≡ l.fn.out ++ number_bytes 10 l.fn.n
