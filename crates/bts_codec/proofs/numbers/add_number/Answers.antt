use Rattle.std.proofs.Common.{arith}
use Rattle.bts_codec.proofs.OneForm.{one_more}
use Rattle.bts_codec.proofs.numbers.add_number.Goals as goal

pub loop-turn-preserved : goal.loop-turn-preserved
loop-turn-preserved c =
    rw c.in_ok-push.ensures.ok (one_more c.loop-turn.out _ c.loop-turn.turn c.loop-turn.left (omega (arith, c.loop-turn-test.true)) (omega (arith, c.if-left-lt128.false)) c.loop-turn.invariant)
