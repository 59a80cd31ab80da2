use Rattle.std.proofs.Common.{arith}
use Rattle.std.proofs.lemmas.List.{length-take}
use Rattle.bts_io.proofs.Pieces.{ConsumesWithin-then}
use Rattle.bts_io.proofs.reading.read_all.Goals as goal

pub returns-in_err-n-clause-within : goal.returns-in_err-n-clause-within
returns-in_err-n-clause-within g c =
    let before = c.loop-buffer.invariant in
    let room = length-take c.min-room.result c.loop-buffer.buffer in
    ConsumesWithin-then _ _ _ _ _ _ (omega (arith, before.fits, room)) before.read c.read_once.ensures.within
