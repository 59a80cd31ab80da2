use Rattle.std.proofs.Common.{arith}
use Rattle.bts_io.proofs.Pieces.{Written-then}
use Rattle.bts_io.proofs.writing.write_all.Goals as goal

pub loop-rest-preserved : goal.loop-rest-preserved
loop-rest-preserved g c =
    let before = c.loop-rest.invariant in
    let wrote = c.in_ok-n.ensures in
    record {
      written = rw c.split_at.ensures.back (Written-then _ _ _ _ _ _ wrote.bound before.written wrote.bytes);
      later = omega (arith, before.later, wrote.cause.later);
    }
